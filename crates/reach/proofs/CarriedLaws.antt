-- Ground 8 without signs: h = b + l − r − drawn says that two sums of natural numbers agree. Assumes nothing.
use mathlib.Core.Path.{◌≡◌, refl, sym, ap, ◌∙◌}
use mathlib.Core.Logic.{⊎_elim}
use mathlib.Core.List.{List, [], ◌∷◌}
use mathlib.Core.Bool.{Bool, true, false}
use Prim.Native.Nat.{ℕ, ◌+◌, ◌≤◌, ◌<◌}
use native.Mathlib.Omega.{arith}
use lib.IntN.{ℤ, pos, ◌+ℤ◌, ◌-ℤ◌, nat_abs}
use lib.Dec.{leb, eqb}
use lib.ListN.{get_or}
use mir.Syntax.{w64}
use mir.Facts.{to_z-of_z}
use mir.Val.{SFits, to_z, of_z}
use borrow.Author.Tests.{le-leb, lt-leb, eq-eqb, ne_eqb, eqb-true, eqb-false}
use Rattle.numbers.specs.Index.{all_of, sum}
use Rattle.numbers.specs.Signed.{eqℤ}
use Rattle.numbers.proofs.IndexLaws.{on, off, only}
use Rattle.numbers.proofs.SignedLaws.{R, L, one_part, abs_parts, mag_abs, eqℤ_is, add_cross, minus_cross, from_cross, pos_cross}
use Rattle.flux.specs.Limits.{depth_most}
use Rattle.reach.specs.Limits.{carried_most}
use Rattle.reach.specs.Grounds.{carried_fits}
use Rattle.reach.specs.Parts.{parts, outflow}
use Rattle.reach.proofs.PartsLaws.{outflow_is, sum_single}

-- two equations that say the same
same_test : (a b c d : ℕ) → a + d ≡ c + b → eqb a b ≡ eqb c d
same_test a b c d e = go (eqb c d) refl
  where
    go : (t : Bool) → eqb c d ≡ t → eqb a b ≡ t
    go true p = eq-eqb a b (let q = eqb-true c d p in omega arith)
    go false p = ne_eqb a b (λ q. eqb-false c d p (omega arith))

pub crossed_test : (a b c d : ℕ) → a + c ≡ b + d → eqb a b ≡ eqb c d
crossed_test a b c d e = go (eqb c d) refl
  where
    go : (t : Bool) → eqb c d ≡ t → eqb a b ≡ t
    go true p = eq-eqb a b (let q = eqb-true c d p in omega arith)
    go false p = ne_eqb a b (λ q. eqb-false c d p (omega arith))

-- the tests by the parts of l and r
pub carried_is : (h b : ℕ) (l r : ℤ) (ds : List ℕ) {left_inflow left_outflow right_inflow right_outflow drawn : ℕ} →
    left_inflow ≡ R l → left_outflow ≡ L l → right_inflow ≡ L r → right_outflow ≡ R r → drawn ≡ sum ds →
    carried_fits h b l r ds
    ≡ all_of
    (leb (left_inflow + left_outflow) depth_most
    ∷ leb (right_inflow + right_outflow) depth_most
    ∷ eqb (h + left_outflow + right_outflow + drawn) (b + left_inflow + right_inflow)
    ∷ leb (right_outflow + left_outflow + drawn) b
    ∷ [])
unfolding carried_fits
carried_is h b l r ds {left_inflow} {left_outflow} {right_inflow} {right_outflow} {drawn} p q s t d =
    let y = pos b +ℤ l in
    let left : nat_abs l ≡ left_inflow + left_outflow = omega (arith, abs_parts l) in
    let right : nat_abs r ≡ right_inflow + right_outflow = omega (arith, abs_parts r) in
    let x = y -ℤ r -ℤ pos (sum ds) in
    let balance : eqℤ (pos h) x ≡ eqb (h + left_outflow + right_outflow + drawn) (b + left_inflow + right_inflow) =
    eqℤ_is (pos h) x
    ∙ same_test (h + L x) (R x + L (pos h)) (h + left_outflow + right_outflow + drawn) (b + left_inflow + right_inflow)
    (omega (arith, minus_cross (y -ℤ r) (pos (sum ds)), minus_cross y r, add_cross (pos b) l, pos_cross b, pos_cross h, pos_cross (sum ds))) in
    let out : outflow l r ds ≡ right_outflow + left_outflow + drawn = omega (arith, outflow_is l r ds) in
    rw (left, right, balance, out) refl

-- ---- l in range: what is left to test, as the code does it

pub small_fits : (z : ℤ) → nat_abs z ≤ 2_000_000_000 → SFits w64 z
small_fits z l = record { sfits = omega (arith, mag_abs z) }

-- two words
pub same_word : (y z : ℤ) → SFits w64 y → SFits w64 z → eqb (of_z w64 y) (of_z w64 z) ≡ eqb (R y + L z) (R z + L y)
same_word y z f g = go (eqb (of_z w64 y) (of_z w64 z)) refl
  where
    go : (t : Bool) → eqb (of_z w64 y) (of_z w64 z) ≡ t → t ≡ eqb (R y + L z) (R z + L y)
    go true p = let e : y ≡ z = sym (to_z-of_z f) ∙ ap (to_z w64) (eqb-true (of_z w64 y) (of_z w64 z) p) ∙ to_z-of_z g in sym (eq-eqb (R y + L z) (R z + L y) (rw e refl))
    go false p = sym (ne_eqb (R y + L z) (R z + L y) (λ q. eqb-false (of_z w64 y) (of_z w64 z) p (ap (of_z w64) (from_cross y z q))))

second_off : (s : Bool) (ts : List Bool) {t : Bool} → t ≡ false → all_of (s ∷ t ∷ ts) ≡ false
second_off true ts e = on _ _ refl (off _ _ e)
second_off false ts e = off _ _ refl

module _ (h b : ℕ) (l r : ℤ) (d : ℕ) (left : nat_abs l ≤ carried_most) where
  rest : carried_fits h b l r (d ∷ []) ≡ all_of (leb (L r + R r) depth_most ∷ eqb (h + L l + R r + d) (b + R l + L r) ∷ leb (R r + L l + d) b ∷ [])
  rest = carried_is h b l r (d ∷ []) refl refl refl refl (sum_single d) ∙ on _ _ (le-leb (R l + L l) depth_most (omega (arith, abs_parts l))) refl

  -- more left than the base depth
  pub uncovered : b < R r + L l + d → false ≡ carried_fits h b l r (d ∷ [])
  uncovered more = sym (rest ∙ last_off (leb (L r + R r) depth_most) (eqb (h + L l + R r + d) (b + R l + L r)) (lt-leb (R r + L l + d) b more))
    where
      last_off : (s t : Bool) {u : Bool} → u ≡ false → all_of (s ∷ t ∷ u ∷ []) ≡ false
      last_off true t e = on _ _ refl (second_off t _ e)
      last_off false t e = off _ _ refl

  -- neither side alone, nor what was drawn, is more: then all of it is not where the balance holds, and r is in range
  pub covered : h ≤ depth_most → b ≤ depth_most → d ≤ b → R r + d ≤ b + L r → d + L l ≤ b + R l → eqb (h + L l + R r + d) (b + R l + L r) ≡ carried_fits h b l r (d ∷ [])
  covered deep base none onRight onLeft = go (eqb (h + L l + R r + d) (b + R l + L r)) refl ∙ sym rest
    where
      go : (t : Bool) → eqb (h + L l + R r + d) (b + R l + L r) ≡ t → t ≡ all_of (leb (L r + R r) depth_most ∷ t ∷ leb (R r + L l + d) b ∷ [])
      go true p =
          let e = eqb-true (h + L l + R r + d) (b + R l + L r) p in
          let right : L r + R r ≤ depth_most = ⊎_elim (λ y. omega (arith, y)) (λ y. omega (arith, y)) (one_part r) in
          let all : R r + L l + d ≤ b =
          ⊎_elim
          (λ x. ⊎_elim (λ y. omega (arith, x, y)) (λ y. omega (arith, x, y)) (one_part r))
          (λ x. ⊎_elim (λ y. omega (arith, x, y)) (λ y. omega (arith, x, y)) (one_part r))
          (one_part l) in
          sym (on _ _ (le-leb (L r + R r) depth_most right) (on _ _ refl (only _ ∙ le-leb (R r + L l + d) b all)))
      go false p = sym (second_off (leb (L r + R r) depth_most) _ refl)

-- ---- cell by cell

-- of cell i
abbrev pub carried_fits_at : (h b : List ℕ) (c : List ℤ) (drawn : ℕ → List ℕ) → ℕ → Bool
carried_fits_at h b c drawn i = carried_fits (get_or h i 0) (get_or b i 0) (get_or c i (pos 0)) (get_or c (i + 1) (pos 0)) (drawn i)

-- no outlet says the same as one that has drawn nothing
pub none_drawn_lem : (h b : ℕ) (l r : ℤ) → carried_fits h b l r (0 ∷ []) ≡ carried_fits h b l r []
unfolding carried_fits outflow parts sum
none_drawn_lem h b l r = refl
