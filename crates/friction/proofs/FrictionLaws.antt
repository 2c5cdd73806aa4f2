-- Laws of friction: what the paper's list holds, what is left of a discharge by parts, and that its size never grows and its sign never turns.
-- Assumes nothing.
use mathlib.Core.Path.{◌≡◌, refl, sym, ap, ◌∙◌}
use mathlib.Core.Bool.{Bool, true, false, not, cond}
use mathlib.Core.Logic.{⊎_elim}
use mathlib.Core.List.{[], ◌∷◌}
use Prim.Native.Nat.{ℕ, zero, suc, ◌+◌, ◌-◌, ◌*◌, ◌/◌, ◌≤◌, ◌<◌, min}
use native.Mathlib.Nat.{mul-le-mul, lt_of_not-le, lt_irrefl, lt_of_le_of_lt, div-le_of_le-mul, div-mul-le_self, le-div_iff_mul-le, div-lt_iff_lt-mul, lt-div-mul-add, mul-le-mul_left, zero-mul, zero-div}
use native.Mathlib.Numerals.{add-one}
use native.Mathlib.Omega.{arith}
use lib.Dec.{T, eqb, leb, leb→le, le→leb, nleb→lt, not_T}
use lib.IntN.{ℤ, pos, sub_ℕ, ◌*ℤ◌}
use lib.Signed.{quot_z}
use borrow.Author.Tests.{leb-true, eq-eqb, ne_eqb}
use Rattle.numbers.specs.Index.{all_of}
use Rattle.numbers.proofs.IndexLaws.{all_of_lem}
use Rattle.numbers.proofs.SearchLaws.{climb_stops, climb_holds}
use Rattle.numbers.proofs.SignedLaws.{R, L, times_cross, from_cross, right_sub, left_sub, one_part}
use Rattle.flux.specs.Limits.{depth_most}
use Rattle.flux.specs.Velocity.{velocity}
use Rattle.flux.proofs.VelocityLaws.{velocity_right, velocity_left}
use Rattle.friction.specs.Friction.{strickler_fits, centimetres, cube_fits, four_thirds, table_most, slowed_by}
use Rattle.friction.specs.Ranges.{strickler_most, four_thirds_most}

-- ---- the coefficient

pub strickler_none : (F : ℕ) → F ≡ 0 → strickler_fits F ≡ true
unfolding strickler_fits
strickler_none F z = rw (eq-eqb F 0 z) refl

pub strickler_some : (F : ℕ) → (F ≡ 0 → ⊥) → strickler_fits F ≡ all_of (leb 10 F ∷ leb F 90 ∷ [])
unfolding strickler_fits
strickler_some F z = rw (ne_eqb F 0 z) refl

pub strickler_most_lem : (F : ℕ) → strickler_fits F ≡ true → F ≤ strickler_most
strickler_most_lem zero e = omega arith
strickler_most_lem (suc F) e =
    leb-true _ _ (all_of_lem (leb 10 (suc F) ∷ leb (suc F) 90 ∷ []) (sym (strickler_some (suc F) (λ z. absurd (omega (arith, z)))) ∙ e) 1)

-- ---- the list

-- no number is above its cube
le_cube : (n : ℕ) → n ≤ n * n * n
le_cube zero = omega arith
le_cube (suc n) = omega (arith, mul-le-mul_left (suc n) (mul-le-mul_left (suc n) (one n)))
  where
    one : (m : ℕ) → 1 ≤ suc m
    one m = omega arith

-- cubes keep the order
pub cube_lt : (a b : ℕ) → a * a * a < b * b * b → a < b
cube_lt a b h = lt_of_not-le (λ k. lt_irrefl _ (lt_of_le_of_lt (mul-le-mul (mul-le-mul k k) k) h))

pub four_thirds_fits : (k : ℕ) → four_thirds k * four_thirds k * four_thirds k ≤ 1_000 * (k * k * k * k)
unfolding four_thirds cube_fits
four_thirds_fits k =
    leb→le _ _ (climb_holds (λ r. leb (r * r * r) (1_000 * (k * k * k * k))) (1_000 * (k * k * k * k)) 0 (le→leb (0 * 0 * 0) (1_000 * (k * k * k * k)) (omega arith)))

-- nothing is above its cube, so that the search has turns enough
past : (x : ℕ) → T (not (leb (suc (0 + x) * suc (0 + x) * suc (0 + x)) x))
past x = not_T (leb (suc (0 + x) * suc (0 + x) * suc (0 + x)) x) (λ t. lt_irrefl x (omega (arith, leb→le (suc (0 + x) * suc (0 + x) * suc (0 + x)) x t, le_cube (suc (0 + x)))))

pub four_thirds_next : (k : ℕ) → 1_000 * (k * k * k * k) < (four_thirds k + 1) * (four_thirds k + 1) * (four_thirds k + 1)
unfolding four_thirds cube_fits
four_thirds_next k =
    let x = 1_000 * (k * k * k * k) in rw (add-one (four_thirds k)) (nleb→lt _ _ (climb_stops (λ r. leb (suc r * suc r * suc r) x) x 0 (past x)))

-- and only one number is both
pub four_thirds_is : (k r : ℕ) → r * r * r ≤ 1_000 * (k * k * k * k) → 1_000 * (k * k * k * k) < (r + 1) * (r + 1) * (r + 1) → four_thirds k ≡ r
four_thirds_is k r l m =
    let a = cube_lt (four_thirds k) (r + 1) (lt_of_le_of_lt (four_thirds_fits k) m) in
    let b = cube_lt r (four_thirds k + 1) (lt_of_le_of_lt l (four_thirds_next k)) in
    omega (arith, a, b)

-- of the list none is above the last
pub four_thirds_most_lem : (k : ℕ) → k ≤ table_most → four_thirds k ≤ four_thirds_most
four_thirds_most_lem k l =
    let m : 1_000 * (k * k * k * k) < 29_473 * 29_473 * 29_473 = omega (arith, mul-le-mul (mul-le-mul (mul-le-mul l l) l) l) in
    let b = cube_lt (four_thirds k) 29_473 (lt_of_le_of_lt (four_thirds_fits k) m) in
    omega (arith, b)

-- it goes as far as a depth in range
pub in_list : (h : ℕ) → h ≤ depth_most → centimetres h ≡ min (centimetres h) table_most
unfolding centimetres
in_list h l = omega (arith, l)

-- ---- what is left of a discharge

-- without friction all of it
pub slowed_none : (D E : ℕ) (q : ℤ) → slowed_by 0 D E q ≡ q
slowed_none D E q = refl

-- where D is 0, nothing
pub slowed_all : (F E : ℕ) (q : ℤ) → (F ≡ 0 → ⊥) → slowed_by F 0 E q ≡ pos 0
slowed_all F E q f = rw (ne_eqb F 0 f) refl

-- otherwise D/(D+E) of either part
module _ (F D E : ℕ) (q : ℤ) (f : F ≡ 0 → ⊥) (d : D ≡ 0 → ⊥) where
  as_velocity : slowed_by F D E q ≡ velocity (D + E) (q *ℤ pos D)
  unfolding velocity
  as_velocity = rw (ne_eqb F 0 f, ne_eqb D 0 d) refl

  pub slowed_right : R (slowed_by F D E q) ≡ R q * D / (D + E)
  slowed_right = ap R as_velocity ∙ velocity_right (D + E) (q *ℤ pos D) ∙ ap (λ (n : ℕ). n / (D + E)) (times_cross q D).0

  pub slowed_left : L (slowed_by F D E q) ≡ L q * D / (D + E)
  slowed_left = ap L as_velocity ∙ velocity_left (D + E) (q *ℤ pos D) ∙ ap (λ (n : ℕ). n / (D + E)) (times_cross q D).1

-- ---- floor(s·d / (d + e)) is s less what is lost, s·e / (d + e) rounded up

-- there is as much
pub lost_most : (s d e : ℕ) → 0 < d → (s * e + (d + e - 1)) / (d + e) ≤ s
lost_most s d e p =
    let m : 0 < d + e = omega arith in
    let l : (s * e + (d + e - 1)) / (d + e) < s + 1 = (div-lt_iff_lt-mul m).1 (omega (arith, p)) in
    omega (arith, l)

-- and the rest is the floor
pub kept_is : (s d e : ℕ) → 0 < d → s - (s * e + (d + e - 1)) / (d + e) ≡ s * d / (d + e)
kept_is s d e p = go ((s * e + (d + e - 1)) / (d + e)) (s - (s * e + (d + e - 1)) / (d + e)) (omega (arith, lost_most s d e p)) low high
  where
    m : 0 < d + e
    m = omega (arith, p)

    low : (s * e + (d + e - 1)) / (d + e) * (d + e) ≤ s * e + (d + e - 1)
    low = div-mul-le_self (s * e + (d + e - 1)) (d + e)

    high : s * e + (d + e - 1) < (s * e + (d + e - 1)) / (d + e) * (d + e) + (d + e)
    high = lt-div-mul-add {a = s * e + (d + e - 1)} m

    go : (c k : ℕ) → s ≡ k + c → c * (d + e) ≤ s * e + (d + e - 1) → s * e + (d + e - 1) < c * (d + e) + (d + e) → k ≡ s * d / (d + e)
    go c k w l h =
        let a : k ≤ s * d / (d + e) = (le-div_iff_mul-le m).1 (rw w (omega (arith, rw w at h, p))) in
        let b : s * d / (d + e) < k + 1 = (div-lt_iff_lt-mul m).1 (rw w (omega (arith, rw w at l, p))) in
        omega (arith, a, b)

-- ---- the parts of what is left

-- of nothing nothing
nothing : (d m : ℕ) → 0 * d / m ≡ 0
nothing d m = rw (zero-mul d) (zero-div m)

-- of a discharge to the left, and of one to the right
module _ (F D E r : ℕ) (p : ℤ) (f : F ≡ 0 → ⊥) (d : D ≡ 0 → ⊥) where
  pub leftward_kept : R p ≡ 0 → r ≡ L p * D / (D + E) → sub_ℕ 0 r ≡ slowed_by F D E p
  leftward_kept z e =
      let right = slowed_right F D E p f d ∙ ap (λ (n : ℕ). n * D / (D + E)) z ∙ nothing D (D + E) in
      from_cross _ _ (omega (arith, right, slowed_left F D E p f d ∙ sym e, right_sub 0 r, left_sub 0 r))

  pub rightward_kept : (R p ≡ 0 → ⊥) → r ≡ R p * D / (D + E) → sub_ℕ r 0 ≡ slowed_by F D E p
  rightward_kept z e =
      let none : L p ≡ 0 = ⊎_elim (λ n. absurd (z n)) (λ n. n) (one_part p) in
      let left = slowed_left F D E p f d ∙ ap (λ (n : ℕ). n * D / (D + E)) none ∙ nothing D (D + E) in
      from_cross _ _ (omega (arith, left, slowed_right F D E p f d ∙ sym e, right_sub r 0, left_sub r 0))

-- ---- neither part of a discharge grows: 'its size never grows and its sign never turns'

module _ (F D E : ℕ) (q : ℤ) where
  quotient_right : R (quot_z (q *ℤ pos D) (pos (D + E))) ≤ R q
  unfolding velocity
  quotient_right = rw (velocity_right (D + E) (q *ℤ pos D), (times_cross q D).0) (div-le_of_le-mul (D + E) (omega arith))

  quotient_left : L (quot_z (q *ℤ pos D) (pos (D + E))) ≤ L q
  unfolding velocity
  quotient_left = rw (velocity_left (D + E) (q *ℤ pos D), (times_cross q D).1) (div-le_of_le-mul (D + E) (omega arith))

  either : (a b : Bool) (z : ℤ) → (R z ≤ R q) × (L z ≤ L q) → (R (cond a q (cond b (pos 0) z)) ≤ R q) × (L (cond a q (cond b (pos 0) z)) ≤ L q)
  either true b z l = (omega arith, omega arith)
  either false true z l = (omega arith, omega arith)
  either false false z l = l

  pub slowed_most : (R (slowed_by F D E q) ≤ R q) × (L (slowed_by F D E q) ≤ L q)
  slowed_most = either (eqb F 0) (eqb D 0) _ (quotient_right, quotient_left)
