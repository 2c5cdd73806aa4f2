-- `flux::crossing::still_thrust` meets its contract: `still_thrust_is`. Assumes nothing.
use mathlib.Core.Path.{sym, ap, ◌∙◌}
use Prim.Native.Nat.{ℕ, ◌*◌, ◌/◌, ◌≤◌}
use native.Mathlib.Nat.{mul-le-mul}
use native.Mathlib.Omega.{arith}
use Rattle.flux.specs.Crossing.{momentum_of}
use Rattle.flux.proofs.WaveLaws.{wave_speed_most}
use Rattle.flux.proofs.CrossingLaws.{still_thrust_is, momentum_of_most}
use Rattle.flux.proofs.crossing.still_thrust.Goals as goal
use Rattle.flux.proofs.crossing.still_thrust.Goals.{Start}

square : (c : Start) → c.args.a * c.args.a ≤ 64_000_000
square c =
    let small : c.args.a ≤ 8_000 = omega (arith, c.requires.1.1.wave, wave_speed_most c.args.h c.requires.1.1.depth) in
    mul-le-mul small small

pub overflow_mul-a : goal.overflow_mul-a
overflow_mul-a c = omega (arith, square (goal.at.overflow_mul-a c).Start)

pub momentum_of-requires : goal.momentum_of-requires
momentum_of-requires c = (c.requires.0, (c.requires.1.0, (c.requires.1.1.depth, omega (arith, square (goal.at.momentum_of-requires c).Start))))

pub overflow_mul-result : goal.overflow_mul-result
overflow_mul-result c =
    let small = (momentum_of-requires (goal.at.overflow_mul-result c).Start).1.1.1 in
    omega (arith, c.momentum_of.ensures, momentum_of_most c.requires.0 c.requires.1.1.depth _ small)

pub returns : goal.returns
returns c =
    let s = c.args in
    let e = ap (λ (a : ℕ). 2 * momentum_of s.t s.x s.h (a * a / 6)) c.requires.1.1.wave in
    ap (λ (q : ℕ). 2 * q) c.momentum_of.ensures ∙ e ∙ sym (still_thrust_is s.t s.x s.h)
