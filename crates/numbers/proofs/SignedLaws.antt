-- Whole numbers as differences of two natural ones: each equation and each order of sums in ℤ becomes one of sums in ℕ, for omega.
-- `sub_ℕ a b` is a − b.
use mathlib.Core.Path.{◌≡◌, refl, sym, ap, subst, ◌∙◌}
use mathlib.Core.Bool.{Bool, true, false, not, cond, ◌&&◌}
use Prim.Native.Nat.{ℕ, zero, suc, ◌+◌, ◌-◌, ◌*◌, ◌≤◌, ◌<◌}
use native.Mathlib.Omega.{arith}
use lib.IntN.{ℤ, pos, negsuc, ◌+ℤ◌, ◌-ℤ◌, ◌*ℤ◌, neg_ℤ, nat_abs, sub_ℕ, neg_ℤ-neg_ℤ, pos-*ℤ-pos, negsuc-*ℤ-pos}
use lib.Dec.{leb-suc-zero, T, eqb, ltb, leb, ltb→lt, nltb→le, leb→le, le→leb, nleb→lt}
use native.Mathlib.Nat.{le_of_lt}
use mathlib.Core.Logic.{◌⊎◌, inl, inr, ⊎_elim}
use lib.Signed.{mag, ◌≤ℤ◌, le_z, lt_z, le_z_yes}
use Rattle.numbers.specs.Signed.{positive, maxℤ, eqℤ}
use borrow.Author.Tests.{lt-ltb, le-ltb, le-leb, lt-leb, ltb-true, ltb-false, leb-true, leb-false, eqb-true, eqb-false}

T_true : (b : Bool) → T b → b ≡ true
T_true true t = refl
T_true false t = absurd t

-- a − b by cases: it is not negative, or it is
pub at_least : (a b : ℕ) → b ≤ a → sub_ℕ a b ≡ pos (a - b)
at_least a b h = rw (le-ltb a b h)

pub below : (a b : ℕ) → a < b → sub_ℕ a b ≡ negsuc (b - suc a)
below a b h = rw (lt-ltb a b h)

by_order : (a b : ℕ) {P : Type 0} → (a < b → P) → (b ≤ a → P) → P
by_order a b {P} f g = go (ltb a b) (ltb→lt a b) (nltb→le a b)
  where
    go : (c : Bool) → (T c → a < b) → (T (not c) → b ≤ a) → P
    go true p q = f (p tt)
    go false p q = g (q tt)

-- the same difference
pub sub_eq : (a b c d : ℕ) → a + d ≡ c + b → sub_ℕ a b ≡ sub_ℕ c d
sub_eq a b c d e =
    by_order a b
    (λ l. below a b l ∙ ap negsuc (omega arith) ∙ sym (below c d (omega arith)))
    (λ l. at_least a b l ∙ ap pos (omega arith) ∙ sym (at_least c d (omega arith)))

-- the two parts: max(z, 0) and max(−z, 0)
pub two_parts : (z : ℤ) → z ≡ sub_ℕ (positive z) (positive (neg_ℤ z))
two_parts (pos zero) = sym (at_least 0 0 (omega arith))
two_parts (pos (suc n)) = sym (at_least (suc n) 0 (omega arith) ∙ ap pos (omega arith))
two_parts (negsuc n) = sym (below 0 (suc n) (omega arith) ∙ ap negsuc (omega arith))

pub right_sub : (a b : ℕ) → positive (sub_ℕ a b) ≡ a - b
right_sub a b =
    by_order a b
    (λ l. ap positive (below a b l) ∙ omega arith)
    (λ l. ap positive (at_least a b l))

pub sub_neg : (a b : ℕ) → neg_ℤ (sub_ℕ a b) ≡ sub_ℕ b a
sub_neg a b =
    by_order a b
    (λ l. ap neg_ℤ (below a b l) ∙ ap pos (omega arith) ∙ sym (at_least b a (omega arith)))
    (λ l. ap neg_ℤ (at_least a b l) ∙ neg_pos a b l)
  where
    neg_pos : (a b : ℕ) → b ≤ a → neg_ℤ (pos (a - b)) ≡ sub_ℕ b a
    neg_pos a b l =
        by_order b a
        (λ k. let e : a - b ≡ suc (a - suc b) = omega arith in ap (λ (n : ℕ). neg_ℤ (pos n)) e ∙ sym (below b a k))
        (λ k. let e : a - b ≡ 0 = omega arith in ap (λ (n : ℕ). neg_ℤ (pos n)) e ∙ sym (at_least b a k ∙ ap pos (omega arith)))

pub left_sub : (a b : ℕ) → positive (neg_ℤ (sub_ℕ a b)) ≡ b - a
left_sub a b = ap positive (sub_neg a b) ∙ right_sub b a

-- one difference: the crossed sums agree
pub sub_inj : (a b c d : ℕ) → sub_ℕ a b ≡ sub_ℕ c d → a + d ≡ c + b
sub_inj a b c d e =
    let r = sym (right_sub a b) ∙ ap positive e ∙ right_sub c d in
    let l = sym (left_sub a b) ∙ ap (λ (z : ℤ). positive (neg_ℤ z)) e ∙ left_sub c d in
    omega arith

-- sums
no_left : (n : ℕ) → positive (neg_ℤ (pos n)) ≡ 0
no_left zero = refl
no_left (suc n) = refl

pub pos_sub : (n : ℕ) → pos n ≡ sub_ℕ n 0
pos_sub n = sym (at_least n 0 (omega arith) ∙ ap pos (omega arith))

plus : (y z : ℤ) → y +ℤ z ≡ sub_ℕ (positive y + positive z) (positive (neg_ℤ y) + positive (neg_ℤ z))
plus (pos m) (pos n) = pos_sub (m + n) ∙ sub_eq (m + n) 0 (m + n) (positive (neg_ℤ (pos m)) + positive (neg_ℤ (pos n))) (omega (arith, no_left m, no_left n))
plus (pos m) (negsuc n) = sub_eq m (suc n) (m + 0) (positive (neg_ℤ (pos m)) + suc n) (omega (arith, no_left m))
plus (negsuc m) (pos n) = sub_eq n (suc m) (0 + n) (suc m + positive (neg_ℤ (pos n))) (omega (arith, no_left n))
plus (negsuc m) (negsuc n) = two_parts (negsuc (suc (m + n))) ∙ sub_eq 0 (suc (suc (m + n))) (0 + 0) (suc m + suc n) (omega arith)

pub sub_add : (a b c d : ℕ) → sub_ℕ a b +ℤ sub_ℕ c d ≡ sub_ℕ (a + c) (b + d)
sub_add a b c d =
    plus (sub_ℕ a b) (sub_ℕ c d)
    ∙ sub_eq (positive (sub_ℕ a b) + positive (sub_ℕ c d)) (positive (neg_ℤ (sub_ℕ a b)) + positive (neg_ℤ (sub_ℕ c d))) (a + c) (b + d)
    (omega (arith, right_sub a b, left_sub a b, right_sub c d, left_sub c d))

pub sub_minus : (a b c d : ℕ) → sub_ℕ a b -ℤ sub_ℕ c d ≡ sub_ℕ (a + d) (b + c)
sub_minus a b c d = ap (λ (z : ℤ). sub_ℕ a b +ℤ z) (sub_neg c d) ∙ sub_add a b d c

-- a difference of two natural numbers in ℤ
pub pos_minus : (p n : ℕ) → pos p -ℤ pos n ≡ sub_ℕ p n
pos_minus p zero = sym (at_least p 0 (omega arith) ∙ ap pos (omega arith))
pos_minus p (suc n) = refl

-- sizes
pub abs_parts : (z : ℤ) → nat_abs z ≡ positive z + positive (neg_ℤ z)
abs_parts (pos zero) = omega arith
abs_parts (pos (suc k)) = omega arith
abs_parts (negsuc k) = omega arith

pub abs_sub : (a b : ℕ) → nat_abs (sub_ℕ a b) ≡ (a - b) + (b - a)
abs_sub a b = omega (arith, abs_parts (sub_ℕ a b), right_sub a b, left_sub a b)

pub mag_abs : (z : ℤ) → mag z ≤ nat_abs z
mag_abs (pos n) = omega arith
mag_abs (negsuc n) = omega arith

-- ---- each ℤ fact as one of the parts R z = max(z,0) and L z = max(−z,0), which omega reads
-- (the laws of a sum, a difference and a sign cross the parts over; `from_cross` goes back)
abbrev pub R : ℤ → ℕ
R z = positive z

abbrev pub L : ℤ → ℕ
L z = positive (neg_ℤ z)

pub add_cross : (y z : ℤ) → R (y +ℤ z) + (L y + L z) ≡ R y + R z + L (y +ℤ z)
add_cross y z = sub_inj (R (y +ℤ z)) (L (y +ℤ z)) (R y + R z) (L y + L z) (sym (two_parts (y +ℤ z)) ∙ plus y z)

pub neg_cross : (z : ℤ) → (R (neg_ℤ z) ≡ L z) × (L (neg_ℤ z) ≡ R z)
neg_cross z = (refl, ap positive (neg_ℤ-neg_ℤ z))

pub minus_cross : (y z : ℤ) → R (y -ℤ z) + (L y + R z) ≡ R y + L z + L (y -ℤ z)
minus_cross y z = omega (arith, add_cross y (neg_ℤ z), (neg_cross z).1)

pub from_cross : (y z : ℤ) → R y + L z ≡ R z + L y → y ≡ z
from_cross y z e = two_parts y ∙ sub_eq (R y) (L y) (R z) (L z) e ∙ sym (two_parts z)

pub pos_cross : (n : ℕ) → L (pos n) ≡ 0
pos_cross n = no_left n

-- one of the two is 0
pub one_part : (z : ℤ) → (R z ≡ 0) ⊎ (L z ≡ 0)
one_part (pos n) = inr (no_left n)
one_part (negsuc n) = inl refl

pub le_cross : (y z : ℤ) → y ≤ℤ z → R y + L z ≤ R z + L y
le_cross (pos m) (pos n) h = let l = leb→le m n h.le in omega (arith, no_left m, no_left n)
le_cross (pos m) (negsuc n) h = absurd h.le
le_cross (negsuc m) (pos n) h = omega (arith, no_left n)
le_cross (negsuc m) (negsuc n) h = let l = leb→le n m h.le in omega arith

pub cross_le : (y z : ℤ) → R y + L z ≤ R z + L y → y ≤ℤ z
cross_le (pos m) (pos n) h = record { le = le→leb m n (omega (arith, no_left m, no_left n)) }
cross_le (pos m) (negsuc n) h = absurd (omega (arith, no_left m))
cross_le (negsuc m) (pos n) h = record { le = tt }
cross_le (negsuc m) (negsuc n) h = record { le = le→leb n m (omega arith) }

pub abs_add : (y z : ℤ) → nat_abs (y +ℤ z) ≤ nat_abs y + nat_abs z
abs_add y z =
    ⊎_elim
    (λ e. omega (arith, e, add_cross y z, abs_parts y, abs_parts z, abs_parts (y +ℤ z)))
    (λ e. omega (arith, e, add_cross y z, abs_parts y, abs_parts z, abs_parts (y +ℤ z)))
    (one_part (y +ℤ z))

pub abs_neg : (z : ℤ) → nat_abs (neg_ℤ z) ≡ nat_abs z
abs_neg z = omega (arith, abs_parts z, abs_parts (neg_ℤ z), (neg_cross z).1)

-- a test that failed (`le_z_yes` of lib.Signed is the one that held)
pub le_z_no : (y z : ℤ) → T (not (le_z y z)) → z ≤ℤ y
le_z_no (pos m) (pos n) t = record { le = le→leb n m (le_of_lt (nleb→lt m n t)) }
le_z_no (pos m) (negsuc n) t = record { le = tt }
le_z_no (negsuc m) (pos n) t = absurd t
le_z_no (negsuc m) (negsuc n) t = record { le = le→leb m n (le_of_lt (nleb→lt n m t)) }

-- the larger of two is one of them, and not below the other
pub max_cases : (y z : ℤ) → ((maxℤ y z ≡ z) × (y ≤ℤ z)) ⊎ ((maxℤ y z ≡ y) × (z ≤ℤ y))
unfolding maxℤ
max_cases y z = go (le_z y z) le_z_yes (le_z_no y z)
  where
    go : (b : Bool) → (T b → y ≤ℤ z) → (T (not b) → z ≤ℤ y) → ((cond b z y ≡ z) × (y ≤ℤ z)) ⊎ ((cond b z y ≡ y) × (z ≤ℤ y))
    go true p q = inl (refl, p tt)
    go false p q = inr (refl, q tt)

-- max(z, 0) is the larger of z and 0
pub positive_larger : (z : ℤ) → pos (positive z) ≡ maxℤ z (pos 0)
unfolding maxℤ
positive_larger (pos zero) = refl
positive_larger (pos (suc n)) = rw (leb-suc-zero n)
positive_larger (negsuc n) = refl

-- the test of equality, as one of sums
pub eqℤ_is : (y z : ℤ) → eqℤ y z ≡ eqb (R y + L z) (R z + L y)
unfolding eqℤ
eqℤ_is y z = go (le_z y z) (le_z z y) (eqb (R y + L z) (R z + L y)) refl refl refl
  where
    holds : (y z : ℤ) → R y + L z ≤ R z + L y → le_z y z ≡ true
    holds y z l = T_true (le_z y z) (cross_le y z l).le

    said : (y z : ℤ) → le_z y z ≡ true → R y + L z ≤ R z + L y
    said y z e = le_cross y z (record { le = subst T (sym e) tt })

    go : (a b c : Bool) → le_z y z ≡ a → le_z z y ≡ b → eqb (R y + L z) (R z + L y) ≡ c → (a && b) ≡ c
    go true true true p q r = refl
    go true true false p q r = absurd (eqb-false (R y + L z) (R z + L y) r (omega (arith, said y z p, said z y q)))
    go true false true p q r = sym q ∙ holds z y (let e = eqb-true (R y + L z) (R z + L y) r in omega arith)
    go true false false p q r = refl
    go false b true p q r = sym p ∙ holds y z (let e = eqb-true (R y + L z) (R z + L y) r in omega arith)
    go false b false p q r = refl

-- the tests of order, as ones of sums
lt_z_is : (y z : ℤ) → lt_z y z ≡ ltb (R y + L z) (R z + L y)
lt_z_is y z = go y z (lt_z y z) refl
  where
    go : (y z : ℤ) (t : Bool) → lt_z y z ≡ t → t ≡ ltb (R y + L z) (R z + L y)
    go (pos m) (pos n) true e = sym (lt-ltb (m + L (pos n)) (n + L (pos m)) (let l = ltb-true m n e in omega (arith, no_left m, no_left n)))
    go (pos m) (pos n) false e = sym (le-ltb (m + L (pos n)) (n + L (pos m)) (let l = ltb-false m n e in omega (arith, no_left m, no_left n)))
    go (pos m) (negsuc n) t e = sym e ∙ sym (le-ltb (m + suc n) (0 + L (pos m)) (omega (arith, no_left m)))
    go (negsuc m) (pos n) t e = sym e ∙ sym (lt-ltb (0 + L (pos n)) (n + suc m) (omega (arith, no_left n)))
    go (negsuc m) (negsuc n) true e = sym (lt-ltb (0 + suc n) (0 + suc m) (let l = ltb-true n m e in omega arith))
    go (negsuc m) (negsuc n) false e = sym (le-ltb (0 + suc n) (0 + suc m) (let l = ltb-false n m e in omega arith))

pub lt_z_true : (y z : ℤ) → lt_z y z ≡ true → R y + L z < R z + L y
lt_z_true y z e = ltb-true (R y + L z) (R z + L y) (sym (lt_z_is y z) ∙ e)

pub lt_z_false : (y z : ℤ) → lt_z y z ≡ false → R z + L y ≤ R y + L z
lt_z_false y z e = ltb-false (R y + L z) (R z + L y) (sym (lt_z_is y z) ∙ e)

pub le_z_is : (y z : ℤ) → le_z y z ≡ leb (R y + L z) (R z + L y)
le_z_is y z = go y z (le_z y z) refl
  where
    go : (y z : ℤ) (t : Bool) → le_z y z ≡ t → t ≡ leb (R y + L z) (R z + L y)
    go (pos m) (pos n) true e = sym (le-leb (m + L (pos n)) (n + L (pos m)) (let l = leb-true m n e in omega (arith, no_left m, no_left n)))
    go (pos m) (pos n) false e = sym (lt-leb (m + L (pos n)) (n + L (pos m)) (let l = leb-false m n e in omega (arith, no_left m, no_left n)))
    go (pos m) (negsuc n) t e = sym e ∙ sym (lt-leb (m + suc n) (0 + L (pos m)) (omega (arith, no_left m)))
    go (negsuc m) (pos n) t e = sym e ∙ sym (le-leb (0 + L (pos n)) (n + suc m) (omega (arith, no_left n)))
    go (negsuc m) (negsuc n) true e = sym (le-leb (0 + suc n) (0 + suc m) (let l = leb-true n m e in omega arith))
    go (negsuc m) (negsuc n) false e = sym (lt-leb (0 + suc n) (0 + suc m) (let l = leb-false n m e in omega arith))

-- ---- orders with a natural number

pub pos_le : (m n : ℕ) → m ≤ n → pos m ≤ℤ pos n
pos_le m n l = record { le = le→leb m n l }

pub le_pos : (z : ℤ) (n : ℕ) → z ≤ℤ pos n → R z ≤ n
le_pos (pos m) n h = leb→le m n h.le
le_pos (negsuc m) n h = omega arith

pub pos_below : (n : ℕ) (z : ℤ) → pos n ≤ℤ z → (n ≤ R z) × (L z ≡ 0)
pos_below n (pos m) h = (leb→le n m h.le, no_left m)
pos_below n (negsuc m) h = absurd h.le

-- ---- products with a natural number

pub times_cross : (z : ℤ) (w : ℕ) → (R (z *ℤ pos w) ≡ R z * w) × (L (z *ℤ pos w) ≡ L z * w)
times_cross (pos m) w = rw (pos-*ℤ-pos m w, no_left (m * w), no_left m) (refl, omega arith)
times_cross (negsuc m) w = rw (negsuc-*ℤ-pos m w, no_left (suc m * w), neg_ℤ-neg_ℤ) (omega arith, refl)

times_one : (z : ℤ) (w : ℕ) → (R z * w ≡ 0) ⊎ (L z * w ≡ 0)
times_one (pos m) w = inr (rw (no_left m) (omega arith))
times_one (negsuc m) w = inl (omega arith)

-- a lower bound z·w on m says what max(z,0)·w does; an upper one as well, and where z is below 0 that w is 0
pub lower_bound : (z : ℤ) (w m : ℕ) → (z *ℤ pos w) ≤ℤ pos m → R z * w ≤ m
lower_bound z w m h =
    let e = times_cross z w in
    let l = le_cross (z *ℤ pos w) (pos m) h in
    ⊎_elim (λ p. omega arith) (λ p. omega (arith, pos_cross m)) (times_one z w)

pub upper_bound : (z : ℤ) (w m : ℕ) → pos m ≤ℤ (z *ℤ pos w) → (m ≤ R z * w) × (L z * w ≡ 0)
upper_bound z w m h =
    let e = times_cross z w in
    let l = le_cross (pos m) (z *ℤ pos w) h in
    ⊎_elim (λ p. (omega (arith, pos_cross m), omega (arith, pos_cross m))) (λ p. (omega (arith, pos_cross m), p)) (times_one z w)

-- and back, of a sum of three
module _ (x y z : ℤ) (a b c m : ℕ) where
  pub sum_lower : R x * a + R y * b + R z * c ≤ m → (x *ℤ pos a +ℤ y *ℤ pos b +ℤ z *ℤ pos c) ≤ℤ pos m
  sum_lower h =
      let u = x *ℤ pos a in
      let v = y *ℤ pos b in
      let w = z *ℤ pos c in
      cross_le (u +ℤ v +ℤ w) (pos m) (omega (arith, times_cross x a, times_cross y b, times_cross z c, add_cross u v, add_cross (u +ℤ v) w, pos_cross m))

  pub sum_upper : L x * a ≡ 0 → L y * b ≡ 0 → L z * c ≡ 0 → m ≤ R x * a + R y * b + R z * c → pos m ≤ℤ (x *ℤ pos a +ℤ y *ℤ pos b +ℤ z *ℤ pos c)
  sum_upper p q r h =
      let u = x *ℤ pos a in
      let v = y *ℤ pos b in
      let w = z *ℤ pos c in
      cross_le (pos m) (u +ℤ v +ℤ w) (omega (arith, times_cross x a, times_cross y b, times_cross z c, add_cross u v, add_cross (u +ℤ v) w, pos_cross m))

pub times_sum : (z : ℤ) (a b c : ℕ) → z *ℤ pos a +ℤ z *ℤ pos b +ℤ z *ℤ pos c ≡ z *ℤ pos (a + b + c)
times_sum z a b c =
    let u = z *ℤ pos a in
    let v = z *ℤ pos b in
    let w = z *ℤ pos c in
    from_cross (u +ℤ v +ℤ w) (z *ℤ pos (a + b + c))
    (omega (arith, times_cross z a, times_cross z b, times_cross z c, times_cross z (a + b + c), add_cross u v, add_cross (u +ℤ v) w))
