-- `flux::velocity::flow_speed` meets its contract. Assumes nothing.
use mathlib.Core.Path.{refl, ap}
use Prim.Native.Nat.{ℕ, ◌/◌}
use native.Mathlib.Omega.{arith}
use mir.Facts.{to_z-of_z}
use Rattle.flux.proofs.VelocityLaws.{velocity_dry, velocity_size}
use Rattle.flux.proofs.velocity.flow_speed.Goals as goal

pub returns : goal.returns
returns c =
    let size = rw (to_z-of_z c.ranges.q) at c.unsigned_abs.ensures.value in
    omega (arith, ap (λ (n : ℕ). n / c.args.h) size, velocity_size c.args.h c.args.q)

pub returns-then-h-eq0 : goal.returns-then-h-eq0
returns-then-h-eq0 c = rw (c.if-h-eq0.true, velocity_dry) refl
