-- `mass::shares_of` meets its contract: each share is the floor up to its end less the floor before, and the last floor is all that left. Assumes nothing.
use mathlib.Core.Path.{◌≡◌, ap}
use mathlib.Core.List.{[], ◌∷◌}
use Prim.Native.Nat.{ℕ, ◌+◌, ◌-◌, ◌*◌, ◌/◌}
use native.Mathlib.Nat.{zero-add}
use native.Mathlib.Omega.{arith}
use Rattle.numbers.specs.Shares.{share, shares, rest}
use Rattle.numbers.proofs.SharesLaws.{floor_none, floor_all}
use Rattle.mass.proofs.shares_of.Goals as goal

by_floors : (m b R L x y : ℕ) → x ≡ m * (0 + R) / b → y ≡ m * (R + L) / b → x ∷ (y - x) ∷ [] ≡ shares m b 0 (R ∷ L ∷ [])
unfolding shares share
by_floors m b R L x y p q =
    rw (p, q, zero-add)
    (let first : m * R / b ≡ m * R / b - m * 0 / b = omega (arith, floor_none m b) in
    ap (λ (w : ℕ). w ∷ (m * (R + L) / b - m * R / b) ∷ []) first)

pub overflow_sub-result-2 : goal.overflow_sub-result-2
overflow_sub-result-2 c =
    omega (arith, c.floor_after-second.ensures, floor_all c.args.m c.args.b (c.args.right + c.args.left) c.requires.covered)

pub returns-clause-left_value : goal.returns-clause-left_value
unfolding rest
returns-clause-left_value c = by_floors _ _ _ _ _ _ c.floor_after-first.ensures c.floor_after-second.ensures

pub returns-clause-rest_value : goal.returns-clause-rest_value
unfolding rest
returns-clause-rest_value c = ap (λ (x : ℕ). c.args.m - x) c.floor_after-second.ensures
