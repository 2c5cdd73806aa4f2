-- `harness::harness_velocity` meets its contract. Assumes nothing.
use native.Mathlib.Nat.{div-le_self}
use native.Mathlib.Omega.{arith}
use mir.Facts.{to_z-of_z}
use Rattle.numbers.proofs.SignedLaws.{R, L, abs_parts}
use Rattle.flux.proofs.VelocityLaws.{velocity_right, velocity_left}
use Rattle.harness.proofs.harness_velocity.Goals as goal

pub joined-requires : goal.joined-requires
joined-requires c =
    let e = rw (to_z-of_z c.ranges.q) at c.velocity_parts-p.ensures in
    let a = abs_parts c.args.q in
    let h = c.args.h in
    let q = c.args.q in (
      omega (arith, e.0, velocity_right h q, div-le_self (R q) h),
      omega (arith, e.1, velocity_left h q, div-le_self (L q) h),
    )
