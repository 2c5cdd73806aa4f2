-- Laws of CFL: the signal speed is small, the fastest place has the greatest speed and is the highest that has it, and the greatest step
-- is the one that this speed allows. Assumes nothing.
use mathlib.Core.Path.{◌≡◌, sym, ap, subst, ◌∙◌}
use mathlib.Core.Bool.{Bool, true, false, cond}
use mathlib.Core.List.{List}
use mathlib.Core.Logic.{⊎_elim}
use Prim.Native.Nat.{ℕ, zero, suc, ◌+◌, ◌*◌, ◌/◌, ◌≤◌, ◌<◌, min, zero-le}
use native.Mathlib.Nat.{le-div_iff_mul-le, le_antisymm, le_trans, eq-or-lt_of_le, le_of_suc-le-suc, lt_of_not-le, mul-le-mul_left, mul-le-mul_right, div-mul-le_self}
use native.Mathlib.Numerals.{add-one}
use native.Mathlib.Omega.{arith}
use lib.IntN.{ℤ, pos, nat_abs}
use lib.ListN.{length, get_or}
use lib.Dec.{leb, leb→le, le→leb, nleb→lt}
use borrow.Author.Tests.{le-leb, lt-leb, leb-true, lt-ltb, le-ltb}
use Rattle.numbers.proofs.IndexLaws.{all_below_lem, all_fails}
use Rattle.numbers.proofs.SearchLaws.{by_test, climb_holds, climb_most, climb_reaches}
use Rattle.flux.specs.Limits.{depth_most, velocity_most, time_step_most, cell_length_least}
use Rattle.flux.proofs.VelocityLaws.{velocity_most_lem}
use Rattle.flux.proofs.WaveLaws.{wave_speed_most}
use Rattle.cfl.specs.Cfl.{signal_speed, speed_at, meets_cfl, greatest_step, fastest_place}
use Rattle.cfl.specs.Ranges.{step_for}

-- at most 8,000 mm/s of current and 8,000 of wave
pub signal_speed_most : (h : ℕ) (q : ℤ) → h ≤ depth_most → nat_abs q ≤ velocity_most * h → signal_speed h q ≤ 16_000
unfolding signal_speed
signal_speed_most h q l m = omega (arith, velocity_most_lem velocity_most h q m, wave_speed_most h l)

-- ---- the speed at a place

module _ (h : List ℕ) (q : List ℤ) (left right : ℕ) where
  pub speed_of_cell : (i : ℕ) → i < length h → speed_at h q left right (i + 1) ≡ signal_speed (get_or h i 0) (get_or q i (pos 0))
  unfolding speed_at
  speed_of_cell i l = rw (add-one, lt-ltb i (length h) l)

  pub speed_of_right : speed_at h q left right (length h + 1) ≡ right
  unfolding speed_at
  speed_of_right = rw (add-one, le-ltb (length h) (length h) (omega arith))

-- ---- the step of one speed

module _ (X v : ℕ) where
  pub step_for_most : step_for X v ≤ time_step_most
  unfolding step_for
  step_for_most = climb_most (λ t. leb (suc t * v) (1_000 * X)) time_step_most 0

  pub step_for_meets : step_for X v * v ≤ 1_000 * X
  unfolding step_for
  step_for_meets = leb→le _ _ (climb_holds (λ t. leb (t * v) (1_000 * X)) time_step_most 0 (le→leb (0 * v) (1_000 * X) (omega arith)))

  pub step_for_greatest : (t : ℕ) → t ≤ time_step_most → t * v ≤ 1_000 * X → t ≤ step_for X v
  unfolding step_for
  step_for_greatest t l m =
      climb_reaches (λ n. leb (suc n * v) (1_000 * X)) time_step_most 0 t l (λ n k. le→leb _ _ (le_trans (mul-le-mul_right v k) m))

  -- in closed form: the whole of it where the signal is slow, and else the quotient, if that is less
  pub step_for_slow : time_step_most * v ≤ 1_000 * X → step_for X v ≡ time_step_most
  step_for_slow l = le_antisymm step_for_most (step_for_greatest time_step_most (omega arith) l)

  pub step_for_is : 0 < v → step_for X v ≡ min (1_000 * X / v) time_step_most
  step_for_is p =
      let least = min (1_000 * X / v) time_step_most in
      let below : least ≤ 1_000 * X / v = omega arith in
      le_antisymm
      (omega (arith, (le-div_iff_mul-le p).1 step_for_meets, step_for_most))
      (step_for_greatest least (omega arith) (le_trans (mul-le-mul_right v below) (div-mul-le_self (1_000 * X) v)))

-- ---- the fastest place

-- what makes p the fastest of the places j..k
pub record Leads (speed : ℕ → ℕ) (j k p : ℕ) : Type 0 where
  within : p ≤ k
  greatest : (i : ℕ) → j ≤ i → i ≤ k → speed i ≤ speed p
  highest : (i : ℕ) → p < i → i ≤ k → speed i < speed p

-- the last place, or one before it
by_last : (P : ℕ → Type 0) (k i : ℕ) → i ≤ suc k → P (suc k) → (i ≤ k → P i) → P i
by_last P k i l f g = ⊎_elim (λ e. subst P (sym e) f) (λ m. g (le_of_suc-le-suc m)) (eq-or-lt_of_le l)

-- by the two outcomes of 'at most'
by_most : (a b : ℕ) (P : Bool → Type 0) → (a ≤ b → P true) → (b < a → P false) → P (leb a b)
by_most a b P f g = by_test (leb a b) P (λ t. f (leb→le a b t)) (λ t. g (nleb→lt a b t))

-- p is the fastest of the places j..k, and v its speed
abbrev pub FastestFrom : (speed : ℕ → ℕ) (j k p v : ℕ) → Type 0
FastestFrom speed j k p v = Leads speed j k p × (v ≡ speed p)

module _ (speed : ℕ → ℕ) where
  alone : (k : ℕ) → Leads speed k k k
  alone k = record {
    within = omega arith;
    greatest = λ i l m. omega (arith, ap speed (le_antisymm m l));
    highest = λ i l m. absurd (omega arith);
  }

  leads : (k : ℕ) → Leads speed 0 k (fastest_place speed k)
  unfolding fastest_place
  leads zero = alone 0
  leads (suc k) =
      let old = leads k in
      by_most _ _ (λ b. Leads speed 0 (suc k) (cond b (suc k) (fastest_place speed k)))
      (λ asFast. record {
        within = omega arith;
        greatest = λ i z l. by_last (λ i. speed i ≤ speed (suc k)) k i l (omega arith) (λ m. omega (arith, old.greatest i z m));
        highest = λ i l m. absurd (omega arith);
      })
      (λ slower. record {
        within = omega arith;
        greatest = λ i z l. by_last (λ i. speed i ≤ speed (fastest_place speed k)) k i l (omega arith) (old.greatest i z);
        highest = λ i l m. by_last (λ i. speed i < speed (fastest_place speed k)) k i m (omega arith) (old.highest i l);
      })

  pub fastest_within : (k : ℕ) → fastest_place speed k ≤ k
  fastest_within k = (leads k).within

  pub fastest_greatest : (k i : ℕ) → i ≤ k → speed i ≤ speed (fastest_place speed k)
  fastest_greatest k i = (leads k).greatest i zero-le

  pub fastest_highest : (k i : ℕ) → fastest_place speed k < i → i ≤ k → speed i < speed (fastest_place speed k)
  fastest_highest k = (leads k).highest

  -- ---- from the right to the left, as the code goes

  pub from_last : (k p v : ℕ) → p ≡ k → v ≡ speed k → FastestFrom speed k k p v
  from_last k p v e m = rw e (alone k, m)

  -- the next place at the left, of speed w, is taken where it is faster
  pub from_taken : (i j k p v q w : ℕ) → FastestFrom speed i k p v → i ≡ j + 1 → j ≤ k → q ≡ j → w ≡ speed j → v < w → FastestFrom speed j k q w
  from_taken i j k p v q w f n l e m faster =
      rw e (
        record {
          within = l;
          greatest = λ x y z. ⊎_elim (λ d. omega (arith, ap speed d)) (λ d. omega (arith, f.0.greatest x (omega arith) z)) (eq-or-lt_of_le y);
          highest = λ x y z. omega (arith, f.0.greatest x (omega arith) z);
        },
        m,
      )

  -- and passed over where it is not
  pub from_passed : (i j k p v w : ℕ) → FastestFrom speed i k p v → i ≡ j + 1 → w ≡ speed j → w ≤ v → FastestFrom speed j k p v
  from_passed i j k p v w f n m slower = (
    record {
      within = f.0.within;
      greatest = λ x y z. ⊎_elim (λ d. omega (arith, ap speed d)) (λ d. f.0.greatest x (omega arith) z) (eq-or-lt_of_le y);
      highest = f.0.highest;
    },
    f.1,
  )

  -- no lower place leads than another that does
  not_lower : (k p q : ℕ) → Leads speed 0 k p → Leads speed 0 k q → q ≤ p
  not_lower k p q f g = le_of_suc-le-suc (lt_of_not-le (λ l. omega (arith, f.highest q l g.within, g.greatest p zero-le f.within)))

  -- so that, all places passed, it is the fastest
  pub from_first : (k p v : ℕ) → FastestFrom speed 0 k p v → (p ≡ fastest_place speed k) × (v ≡ speed p)
  from_first k p v f =
      (le_antisymm (not_lower k (fastest_place speed k) p (leads k) f.0) (not_lower k p (fastest_place speed k) f.0 (leads k)), f.1)

  -- ---- the greatest step

  -- the fastest place decides
  pub meets_cfl_is : (k X t : ℕ) → meets_cfl speed k X t ≡ leb (t * speed (fastest_place speed k)) (1_000 * X)
  unfolding meets_cfl
  meets_cfl_is k X t =
      by_test (meets (fastest_place speed k)) (λ b. meets_cfl speed k X t ≡ b)
      (λ h. all_below_lem meets _ (λ i l. le-leb _ _ (le_trans (mul-le-mul_left t (fastest_greatest k i (omega arith))) (leb→le _ _ h))))
      (λ h. all_fails meets _ (fastest_place speed k) (omega (arith, fastest_within k)) (lt-leb (t * speed (fastest_place speed k)) (1_000 * X) (nleb→lt _ _ h)))
    where
      meets : ℕ → Bool
      meets i = leb (t * speed i) (1_000 * X)

  pub greatest_step_is : (k X : ℕ) → greatest_step speed k X ≡ step_for X (speed (fastest_place speed k))
  unfolding greatest_step step_for
  greatest_step_is k X = simp meets_cfl_is

  pub greatest_step_most : (k X : ℕ) → greatest_step speed k X ≤ time_step_most
  greatest_step_most k X = rw greatest_step_is (step_for_most X (speed (fastest_place speed k)))

  pub greatest_step_meets : (k X : ℕ) → meets_cfl speed k X (greatest_step speed k X) ≡ true
  greatest_step_meets k X = rw (meets_cfl_is, greatest_step_is) (le-leb _ _ (step_for_meets X (speed (fastest_place speed k))))

  pub greatest_step_greatest : (k X t : ℕ) → t ≤ time_step_most → meets_cfl speed k X t ≡ true → t ≤ greatest_step speed k X
  greatest_step_greatest k X t l m =
      rw greatest_step_is (step_for_greatest X (speed (fastest_place speed k)) t l (leb-true _ _ (sym (meets_cfl_is k X t) ∙ m)))

  -- 1 ms meets CFL in every record
  pub greatest_step_some : (k X : ℕ) → ((i : ℕ) → i ≤ k → speed i ≤ 16_000) → cell_length_least ≤ X → 1 ≤ greatest_step speed k X
  greatest_step_some k X f l =
      rw greatest_step_is (step_for_greatest X (speed (fastest_place speed k)) 1 (omega arith) (omega (arith, f _ (fastest_within k))))

  pub all_dry : (k X : ℕ) → ((i : ℕ) → i ≤ k → speed i ≡ 0) → (fastest_place speed k ≡ k) × (greatest_step speed k X ≡ time_step_most)
  all_dry k X f =
      let still = f _ (fastest_within k) in (
        ⊎_elim (λ e. e) (λ l. absurd (omega (arith, fastest_highest k k l (omega arith)))) (eq-or-lt_of_le (fastest_within k)),
        greatest_step_is k X ∙ step_for_slow X (speed (fastest_place speed k)) (omega arith),
      )
