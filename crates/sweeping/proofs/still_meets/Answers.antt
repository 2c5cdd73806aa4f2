-- `sweeping::still_meets` meets its contract. Assumes nothing.
use mathlib.Core.Path.{ap, ap₂}
use Prim.Native.Nat.{ℕ, ◌+◌, ◌*◌, ◌≤◌}
use native.Mathlib.Nat.{mul-le-mul}
use native.Mathlib.Omega.{arith}
use lib.Dec.{leb}
use Rattle.flux.proofs.WaveLaws.{wave_speed_most}
use Rattle.water.specs.Sides.{side_speed}
use Rattle.water.specs.Ranges.{side_meets}
use Rattle.sweeping.proofs.still_meets.Goals as goal
use Rattle.sweeping.proofs.still_meets.Goals.{After-struct_known-1}

small : (c : After-struct_known-1) → c.speed_of.result + c.args.c.wave ≤ 16_000
small c =
    let f = c.args.c.fits in
    omega (arith, c.speed_of.ensures.1, f.wave, wave_speed_most c.args.c.depth f.depth)

pub overflow_add-result : goal.overflow_add-result
overflow_add-result c = omega (arith, small (goal.at.overflow_add-result c).After-struct_known-1)

pub overflow_mul-result : goal.overflow_mul-result
overflow_mul-result c = omega (arith, mul-le-mul c.requires.time (small (goal.at.overflow_mul-result c).After-struct_known-1))

pub returns-then-met : goal.returns-then-met
unfolding side_meets side_speed
returns-then-met c =
    rw c.if-met.true
    (ap (λ (v : ℕ). leb (c.args.t * v) (1_000 * c.args.x)) (ap₂ ◌+◌ c.speed_of.ensures.0 c.args.c.fits.wave))
