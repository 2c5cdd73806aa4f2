-- `friction::drag_of` meets its contract. Assumes nothing.
use Prim.Native.Nat.{◌*◌, ◌≤◌}
use native.Mathlib.Nat.{mul-le-mul}
use native.Mathlib.Omega.{arith}
use Rattle.friction.specs.Friction.{drag}
use Rattle.friction.proofs.drag_of.Goals as goal
use Rattle.friction.proofs.drag_of.Goals.{Start}

most : (c : Start) → 45_518 * c.args.t * c.args.v ≤ 45_518 * 1_000 * 8_000
most c = omega (arith, mul-le-mul c.requires.0 c.requires.1)

pub returns : goal.returns
unfolding drag
returns c = (omega arith, omega (arith, most (goal.at.returns c).Start))
