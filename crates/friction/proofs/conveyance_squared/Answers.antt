-- `friction::conveyance_squared` meets its contract. Assumes nothing.
use mathlib.Core.Path.{sym, ap}
use Prim.Native.Nat.{ℕ, ◌*◌, ◌≤◌}
use native.Mathlib.Nat.{mul-le-mul, zero-mul}
use native.Mathlib.Omega.{arith}
use Rattle.friction.specs.Friction.{centimetres, conveyance_squared}
use Rattle.friction.specs.Ranges.{strickler_most, conveyance_squared_most}
use Rattle.friction.proofs.conveyance_squared.Goals as goal
use Rattle.friction.proofs.conveyance_squared.Goals.{After-root_of, Start}

square-most : (c : Start) → c.args.f * c.args.f ≤ strickler_most * strickler_most
square-most c = mul-le-mul c.requires c.requires

most : (c : After-root_of) →
    let f = c.args.f in f * f * c.root_of.result ≤ conveyance_squared_most
most c = mul-le-mul (square-most (goal.at.After-root_of c).Start) c.root_of.ensures.1

pub returns-then-f-eq0 : goal.returns-then-f-eq0
unfolding conveyance_squared
returns-then-f-eq0 c = (rw c.if-f-eq0.true (sym (zero-mul _)), omega arith)

pub returns : goal.returns
unfolding conveyance_squared centimetres
returns c =
    let f = c.args.f in (ap (λ (r : ℕ). f * f * r) c.root_of.ensures.0, most (goal.at.returns c).After-root_of)
