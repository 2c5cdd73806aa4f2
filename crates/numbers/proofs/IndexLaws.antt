-- Laws of tests, lists and sums by index, and of a column that is written in place. Assumes nothing.
use mathlib.Core.Path.{◌≡◌, refl, sym, ap, ◌∙◌}
use mathlib.Core.Logic.{⊎_elim}
use mathlib.Core.List.{List, [], ◌∷◌}
use mathlib.Core.Bool.{Bool, true, false, cond, ◌&&◌, and-false, and-true}
use Prim.Native.Nat.{ℕ, zero, suc, ◌+◌, ◌*◌, ◌≤◌, ◌<◌}
use native.Mathlib.Nat.{not-suc-le-zero, le_of_suc-le-suc, eq-or-lt_of_le}
use native.Mathlib.Numerals.{add-one}
use native.Mathlib.Omega.{arith}
use lib.Dec.{eqb, ltb}
use lib.ListN.{length, get_or, set, replicate, length-set, take}
use Rattle.std.proofs.lemmas.List.{get_or-take, length-take-le}
use lib.Seq.{ext_get_or, get_or-set_same, get_or-set_other}
use borrow.Author.Tests.{eq-eqb, ne_eqb, eqb-true, eqb-false, ltb-true, ltb-false}
use Rattle.numbers.specs.Index.{all_below, all_of, tabulate, sum_below, sum}

-- ---- tests

pub and_both : (a b : Bool) → a ≡ true → b ≡ true → (a && b) ≡ true
and_both a b p q = rw (p, q)

pub and_left : (a b : Bool) → (a && b) ≡ true → a ≡ true
and_left true b p = refl
and_left false b p = p

pub and_right : (a b : Bool) → (a && b) ≡ true → b ≡ true
and_right true b p = p
and_right false b p = let z : true ≡ false = cc in cc

-- each test of a list that holds
pub all_of_lem : (l : List Bool) → all_of l ≡ true → (k : ℕ) → get_or l k true ≡ true
unfolding all_of
all_of_lem [] e k = refl
all_of_lem (t ∷ l) e zero = and_left t (all_of l) e
all_of_lem (t ∷ l) e (suc k) = all_of_lem l (and_right t (all_of l) e) k

module _ (f : ℕ → Bool) where
  pub all_none : all_below 0 f ≡ true
  unfolding all_below
  all_none = refl

  pub all_more : (n : ℕ) → all_below n f ≡ true → f n ≡ true → all_below (n + 1) f ≡ true
  unfolding all_below
  all_more n p q = rw add-one (and_both (all_below n f) (f n) p q)

  pub all_at : (n i : ℕ) → all_below n f ≡ true → i < n → f i ≡ true
  unfolding all_below
  all_at zero i p l = absurd (not-suc-le-zero l)
  all_at (suc n) i p l =
      ⊎_elim
      (λ e. rw e (and_right (all_below n f) (f n) p))
      (λ k. all_at n i (and_left (all_below n f) (f n) p) k)
      (eq-or-lt_of_le (le_of_suc-le-suc l))

  pub all_fails : (n i : ℕ) → i < n → f i ≡ false → all_below n f ≡ false
  unfolding all_below
  all_fails zero i l q = absurd (not-suc-le-zero l)
  all_fails (suc n) i l q =
      ⊎_elim
      (λ e. rw (← e, q) (and-false (all_below i f)))
      (λ k. rw (all_fails n i k q) refl)
      (eq-or-lt_of_le (le_of_suc-le-suc l))

-- ---- lists by index

module _ {A : Type 0} where
  pub length_tabulate : (n : ℕ) (f : ℕ → A) → length (tabulate n f) ≡ n
  unfolding tabulate
  length_tabulate zero f = refl
  length_tabulate (suc n) f = ap suc (length_tabulate n (λ i. f (suc i)))

  pub get_or_tabulate : (n : ℕ) (f : ℕ → A) (i : ℕ) (d : A) → i < n → get_or (tabulate n f) i d ≡ f i
  unfolding tabulate
  get_or_tabulate zero f i d l = absurd (not-suc-le-zero l)
  get_or_tabulate (suc n) f zero d l = refl
  get_or_tabulate (suc n) f (suc i) d l = get_or_tabulate n (λ j. f (suc j)) i d (le_of_suc-le-suc l)

  -- a list is f by index where each entry is
  pub by_index : (n : ℕ) (f : ℕ → A) (d : A) (l : List A) → length l ≡ n → ((i : ℕ) → i < n → get_or l i d ≡ f i) → l ≡ tabulate n f
  by_index n f d l e h =
      ext_get_or d l (tabulate n f) (e ∙ sym (length_tabulate n f))
      (λ i k. let k' : i < n = omega arith in h i k' ∙ sym (get_or_tabulate n f i d k'))

  -- the first of a list
  pub take_tabulate : (n : ℕ) (l : List A) (d : A) → n ≤ length l → take n l ≡ tabulate n (λ i. get_or l i d)
  take_tabulate n l d h = by_index n (λ i. get_or l i d) d (take n l) (length-take-le n l h) (λ i k. get_or-take n l i d k)

  -- one entry written
  pub set_tabulate : (n : ℕ) (f g : ℕ → A) (c : ℕ) (v : A) → v ≡ g c → ((i : ℕ) → i < n → (i ≡ c → ⊥) → f i ≡ g i) → set (tabulate n f) c v ≡ tabulate n g
  set_tabulate n f g c v e h = by_index n g v (set (tabulate n f) c v) (length-set (tabulate n f) c v ∙ length_tabulate n f) (λ i l. at i l (eqb i c) refl)
    where
      at : (i : ℕ) → i < n → (b : Bool) → eqb i c ≡ b → get_or (set (tabulate n f) c v) i v ≡ g i
      at i l true q =
          let s : i ≡ c = eqb-true i c q in
          rw s (get_or-set_same (tabulate n f) c v v (omega (arith, length_tabulate n f)) ∙ e)
      at i l false q = get_or-set_other (tabulate n f) c i v v (eqb-false i c q) ∙ get_or_tabulate n f i v l ∙ h i l (eqb-false i c q)

-- a column of zeros, and past its end
pub zeros : (n i : ℕ) → get_or {A = ℕ} (replicate n 0) i 0 ≡ 0
zeros zero i = refl
zeros (suc n) zero = refl
zeros (suc n) (suc i) = zeros n i

-- A list l whose first i entries have been written as f, and whose others are d's: what a loop keeps that writes a column from the front.
pub record Written {A : Type 0} (z : A) (f : ℕ → A) (d : List A) (i : ℕ) (l : List A) : Type 0 where
  pub long : length l ≡ length d
  pub done : (k : ℕ) → k < i → get_or l k z ≡ f k
  pub same : (k : ℕ) → i ≤ k → get_or l k z ≡ get_or d k z

module _ {A : Type 0} (z : A) (f : ℕ → A) (d : List A) where
  pub written_none : Written z f d 0 d
  written_none = record { long = refl; done = λ k l. absurd (not-suc-le-zero l); same = λ k l. refl }

  pub written_more : (i : ℕ) (l : List A) (v : A) → Written z f d i l → i < length d → v ≡ f i → Written z f d (i + 1) (set l i v)
  written_more i l v w h e = record {
    long = length-set l i v ∙ w.long;
    done = λ k q. ⊎_elim (λ s. rw s (get_or-set_same l i v z (omega (arith, w.long)) ∙ e)) (λ s. get_or-set_other l i k v z (λ x. absurd (omega arith)) ∙ w.done k s) (eq-or-lt_of_le (le_of_suc-le-suc (rw add-one at q)));
    same = λ k q. get_or-set_other l i k v z (λ x. absurd (omega arith)) ∙ w.same k (omega arith);
  }

  pub written_all : (i : ℕ) (l : List A) → Written z f d i l → i ≡ length d → l ≡ tabulate (length d) f
  written_all i l w e = by_index (length d) f z l w.long (λ k q. w.done k (omega arith))

  -- written so far, and the rest as it was
  pub written_below : (i : ℕ) (l : List A) → Written z f d i l → l ≡ tabulate (length d) (λ k. cond (ltb k i) (f k) (get_or d k z))
  written_below i l w = by_index (length d) (λ k. cond (ltb k i) (f k) (get_or d k z)) z l w.long (λ k q. at k (ltb k i) refl)
    where
      at : (k : ℕ) (b : Bool) → ltb k i ≡ b → get_or l k z ≡ cond (ltb k i) (f k) (get_or d k z)
      at k true e = rw e (w.done k (ltb-true k i e))
      at k false e = rw e (w.same k (ltb-false k i e))

-- the first entry by itself, for a loop that starts after it
pub written_first : {A : Type 0} (z : A) (f : ℕ → A) (l : List A) (v : A) → 0 < length l → v ≡ f 0 → Written z f (set l 0 v) 1 (set l 0 v)
written_first z f l v p e = record {
  long = refl;
  done = λ k q. let n : k ≡ 0 = omega arith in rw n (get_or-set_same l 0 v z p ∙ e);
  same = λ k q. refl;
}

-- ---- sums

-- what crosses from one index to the next cancels: a runs up, b runs down
pub telescope : (n : ℕ) (new old a b : ℕ → ℕ) → ((i : ℕ) → i < n → new i + a (suc i) + b i ≡ old i + a i + b (suc i)) → sum_below n new + a n + b 0 ≡ sum_below n old + a 0 + b n
unfolding sum_below
telescope zero new old a b h = refl
telescope (suc n) new old a b h = omega (arith, telescope n new old a b (λ i l. h i (omega arith)), h n (omega arith))

pub sum_first : (n : ℕ) (f : ℕ → ℕ) → sum_below (suc n) f ≡ f 0 + sum_below n (λ i. f (suc i))
unfolding sum_below
sum_first zero f = omega arith
sum_first (suc n) f = omega (arith, sum_first n f)

pub sum_tabulate : (n : ℕ) (f : ℕ → ℕ) → sum (tabulate n f) ≡ sum_below n f
unfolding tabulate sum sum_below
sum_tabulate zero f = refl
sum_tabulate (suc n) f = omega (arith, sum_tabulate n (λ i. f (suc i)), sum_first n f)

pub sum_by_index : (l : List ℕ) → sum l ≡ sum_below (length l) (λ i. get_or l i 0)
unfolding sum sum_below
sum_by_index [] = refl
sum_by_index (x ∷ l) = omega (arith, sum_by_index l, sum_first (length l) (λ i. get_or (x ∷ l) i 0))

-- two sums that agree term by term
pub sum_same : (n : ℕ) (f g : ℕ → ℕ) → ((i : ℕ) → i < n → f i ≡ g i) → sum_below n f ≡ sum_below n g
unfolding sum_below
sum_same zero f g h = refl
sum_same (suc n) f g h = omega (arith, sum_same n f g (λ i l. h i (omega arith)), h n (omega arith))

pub sum_none : (n : ℕ) (f : ℕ → ℕ) → ((i : ℕ) → i < n → f i ≡ 0) → sum_below n f ≡ 0
unfolding sum_below
sum_none zero f h = refl
sum_none (suc n) f h = omega (arith, sum_none n f (λ i l. h i (omega arith)), h n (omega arith))

pub sum_small : (n : ℕ) (f : ℕ → ℕ) (m : ℕ) → ((i : ℕ) → i < n → f i ≤ m) → sum_below n f ≤ n * m
unfolding sum_below
sum_small zero f m h = omega arith
sum_small (suc n) f m h = omega (arith, sum_small n f m (λ i l. h i (omega arith)), h n (omega arith))

-- the first terms, with the next, are at most all of them
pub sum_part : (n : ℕ) (f : ℕ → ℕ) (k : ℕ) → k < n → sum_below k f + f k ≤ sum_below n f
unfolding sum_below
sum_part zero f k l = absurd (not-suc-le-zero l)
sum_part (suc n) f k l =
    ⊎_elim
    (λ (e : k ≡ n). rw e (omega arith))
    (λ (m : k < n). omega (arith, sum_part n f k m))
    (eq-or-lt_of_le (le_of_suc-le-suc l))

pub sum_more : (n : ℕ) (f : ℕ → ℕ) → sum_below (n + 1) f ≡ sum_below n f + f n
unfolding sum_below
sum_more n f = rw (add-one n) refl

pub sum_add : (n : ℕ) (f g : ℕ → ℕ) → sum_below n (λ i. f i + g i) ≡ sum_below n f + sum_below n g
unfolding sum_below
sum_add zero f g = refl
sum_add (suc n) f g = omega (arith, sum_add n f g)

-- a double sum goes by rows or by columns
pub sum_swap : (n m : ℕ) (g : ℕ → ℕ → ℕ) → sum_below n (λ i. sum_below m (λ k. g k i)) ≡ sum_below m (λ k. sum_below n (λ i. g k i))
unfolding sum_below
sum_swap n zero g = sum_none n (λ i. 0) (λ i l. refl)
sum_swap n (suc m) g = sum_add n (λ i. sum_below m (λ k. g k i)) (λ i. g m i) ∙ ap (λ (s : ℕ). s + sum_below n (λ i. g m i)) (sum_swap n m g)

-- a sum with one term that counts
pub sum_one : (n : ℕ) (f : ℕ → ℕ) (c : ℕ) → c < n → sum_below n (λ i. cond (eqb c i) (f i) 0) ≡ f c
unfolding sum_below
sum_one zero f c l = absurd (not-suc-le-zero l)
sum_one (suc n) f c l =
    ⊎_elim
    (λ (e : c ≡ n).
    let before : sum_below n (λ i. cond (eqb c i) (f i) 0) ≡ 0 =
    sum_none n (λ i. cond (eqb c i) (f i) 0) (λ i k. rw (ne_eqb c i (λ x. absurd (omega arith))) refl) in
    rw (before, eq-eqb c n e, e) (omega arith))
    (λ (k : c < n). rw (ne_eqb c n (λ x. absurd (omega arith))) (omega (arith, sum_one n f c k)))
    (eq-or-lt_of_le (le_of_suc-le-suc l))

-- a list of tests, test by test, as code that returns at the first that fails
pub on : (t : Bool) (ts : List Bool) {x : Bool} → t ≡ true → all_of ts ≡ x → all_of (t ∷ ts) ≡ x
unfolding all_of
on t ts {x} e f = rw e f

pub off : (t : Bool) (ts : List Bool) → t ≡ false → all_of (t ∷ ts) ≡ false
unfolding all_of
off t ts e = rw e refl

pub only : (t : Bool) → all_of (t ∷ []) ≡ t
unfolding all_of
only t = and-true t

-- a test that holds at each index below n
pub all_below_lem : (f : ℕ → Bool) (n : ℕ) → ((i : ℕ) → i < n → f i ≡ true) → all_below n f ≡ true
unfolding all_below
all_below_lem f zero h = refl
all_below_lem f (suc n) h = and_both (all_below n f) (f n) (all_below_lem f n (λ i l. h i (omega arith))) (h n (omega arith))

-- two tests that agree below n
pub all_same : (f g : ℕ → Bool) (n : ℕ) → ((i : ℕ) → i < n → f i ≡ g i) → all_below n f ≡ all_below n g
unfolding all_below
all_same f g zero h = refl
all_same f g (suc n) h = rw (all_same f g n (λ i l. h i (omega arith)), h n (omega arith)) refl

-- two lists by index that agree
pub tabulate_same : {A : Type 0} (n : ℕ) (f g : ℕ → A) → ((i : ℕ) → i < n → f i ≡ g i) → tabulate n f ≡ tabulate n g
unfolding tabulate
tabulate_same zero f g h = refl
tabulate_same (suc n) f g h = rw (h zero (omega arith), tabulate_same n (λ i. f (suc i)) (λ i. g (suc i)) (λ i l. h (suc i) (omega arith))) refl
