-- Laws of the whole square root rounded up, and why a chord of a table of roots lies below the root. Assumes nothing.
use mathlib.Core.Path.{◌≡◌, refl, ap}
use mathlib.Core.Logic.{◌⊎◌, inl, inr, ⊎_elim}
use Prim.Native.Nat.{ℕ, zero, suc, ◌+◌, ◌*◌, ◌/◌, ◌≤◌, ◌<◌}
use native.Mathlib.Nat.{mul-le-mul, mul-le-mul_left, mul-pos, le_of_mul-le-mul_left, div-mul-le_self, le_dest, le_of_lt, lt_irrefl, lt_of_not-le, lt_of_le_of_lt}
use native.Mathlib.Omega.{arith}
use lib.Dec.{leb, leb→le, nleb→lt}
use Rattle.numbers.specs.Root.{square_root_ceil}
use Rattle.numbers.proofs.SearchLaws.{by_test, reaching_meets, reaching_least}

-- squares keep the order
pub square_lt : (a b : ℕ) → a * a < b * b → a < b
square_lt a b h = lt_of_not-le (λ k. lt_irrefl _ (lt_of_le_of_lt (mul-le-mul k k) h))

-- no number is above its square
pub le_square : (n : ℕ) → n ≤ n * n
le_square zero = omega arith
le_square (suc n) = omega arith

-- the square is at least x
pub square_root_meets : (x : ℕ) → x ≤ square_root_ceil x * square_root_ceil x
unfolding square_root_ceil
square_root_meets x = omega (arith, reaching_meets _ _ _ (square_root_ceil x) refl (omega (arith, le_square x)))

-- it is the least: whatever has its square at least x is at least the root
pub square_root_least : (b x : ℕ) → x ≤ b * b → square_root_ceil x ≤ b
unfolding square_root_ceil
square_root_least b x h = reaching_least _ _ _ (square_root_ceil x) b refl (omega (arith, h))

-- and the only one: the search ends in this law
pub square_root_is : (a x : ℕ) → a * a < x → x ≤ (a + 1) * (a + 1) → square_root_ceil x ≡ a + 1
square_root_is a x h k =
    omega (arith, square_root_least (a + 1) x k, square_lt a (square_root_ceil x) (omega (arith, h, square_root_meets x)))

-- ---- a start below the root

-- 2pq ≤ p² + q²
twice_product : (p q : ℕ) → 2 * (p * q) ≤ p * p + q * q
twice_product p q = ⊎_elim (up p q) (λ l. omega (arith, up q p l)) (either p q)
  where
    up : (a b : ℕ) → a ≤ b → 2 * (a * b) ≤ a * a + b * b
    up a b l = let (k, e) = le_dest l in omega (arith, ap (λ (m : ℕ). a * m) e, ap (λ (m : ℕ). m * m) e)

    either : (a b : ℕ) → (a ≤ b) ⊎ (b ≤ a)
    either a b = by_test (leb a b) (λ t. (a ≤ b) ⊎ (b ≤ a)) (λ t. inl (leb→le a b t)) (λ t. inr (le_of_lt (nleb→lt a b t)))

-- the square is convex, so a chord of the root lies below it:
-- where p² ≤ k·s and q² ≤ (k+1)·s, the weighted sum v·p + w·q has a square of at most (v+w)·s·(k·(v+w) + w)
pub chord_below : (s k p q v w : ℕ) → p * p ≤ k * s → q * q ≤ (k + 1) * s
    → (v * p + w * q) * (v * p + w * q) ≤ (v + w) * (s * (k * (v + w) + w))
chord_below s k p q v w hp hq =
    omega (
      arith,
      mul-le-mul_left (v * w) (twice_product p q),
      mul-le-mul_left (v * v) hp,
      mul-le-mul_left (v * w) hp,
      mul-le-mul_left (v * w) hq,
      mul-le-mul_left (w * w) hq,
    )

-- a number n whose square is at most d²·x, divided by d
pub scaled_below : (n d x : ℕ) → 0 < d → n * n ≤ d * d * x → n / d * (n / d) ≤ x
scaled_below n d x p h = go (n / d) (div-mul-le_self n d)
  where
    go : (a : ℕ) → a * d ≤ n → a * a ≤ x
    go a l = le_of_mul-le-mul_left {k = d * d} (omega (arith, mul-le-mul l l)) (mul-pos p p)
