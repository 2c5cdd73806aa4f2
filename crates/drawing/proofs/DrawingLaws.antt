-- Laws of columns that are written by cell, and of sums by cell. Assumes nothing.
use mathlib.Core.Path.{◌≡◌, refl, sym, ◌∙◌, ap}
use mathlib.Core.Bool.{Bool, true, false, cond}
use mathlib.Core.List.{List}
use mathlib.Core.Logic.{⊎_elim, inl, inr, ◌⊎◌}
use Prim.Native.Nat.{ℕ, zero, suc, ◌+◌, ◌*◌, ◌≤◌, ◌<◌, min}
use native.Mathlib.Nat.{add-zero}
use native.Mathlib.Omega.{arith}
use lib.Dec.{eqb, leb}
use lib.ListN.{length, get_or, set}
use borrow.Author.Tests.{eq-eqb, ne_eqb, leb-true, leb-false}
use Rattle.numbers.specs.Index.{sum_below, tabulate, sum}
use Rattle.numbers.proofs.IndexLaws.{by_index, length_tabulate, get_or_tabulate, set_tabulate, sum_more, sum_small, sum_same, sum_tabulate, sum_swap, sum_one}
use Rattle.outlet.specs.Outlets.{no_outlet, outlet_at, from_cell}
use Rattle.outlet.specs.declared.Outlet.{Outlet}
use Rattle.outlet.specs.declared.Outlets.{Outlets}
use Rattle.drawing.specs.Ranges.{by_cell}

-- ---- a column that is written by cell

pub as_long : (n : ℕ) (f : ℕ → ℕ) (l : List ℕ) → l ≡ tabulate n f → length l ≡ n
as_long n f l e = ap length e ∙ length_tabulate n f

-- with no outlet nothing is added
pub none_added : (os : Outlets) (column amounts : List ℕ) → os.count ≡ 0 → column ≡ tabulate (length column) (λ i. get_or column i 0 + by_cell os amounts i)
unfolding by_cell sum_below
none_added os column amounts e = by_index (length column) (λ i. get_or column i 0 + by_cell os amounts i) 0 column refl (λ i l. rw e (sym (add-zero (get_or column i 0))))

-- an amount of outlet k, as far as it concerns cell i
unfoldable pub there : List Outlet → (k i amount : ℕ) → ℕ
there l k i amount = cond (eqb (get_or l k no_outlet).cell i) amount 0

pub there_here : (l : List Outlet) (k amount : ℕ) → there l k (get_or l k no_outlet).cell amount ≡ amount
unfolding there
there_here l k amount = rw (eq-eqb (get_or l k no_outlet).cell (get_or l k no_outlet).cell refl) refl

pub there_else : (l : List Outlet) (k i amount : ℕ) → (i ≡ (get_or l k no_outlet).cell → ⊥) → there l k i amount ≡ 0
unfolding there
there_else l k i amount n = rw (ne_eqb (get_or l k no_outlet).cell i (λ (e : (get_or l k no_outlet).cell ≡ i). n (sym e))) refl

pub there_small : (l : List Outlet) (k i amount m : ℕ) → amount ≤ m → there l k i amount ≤ m
unfolding there
there_small l k i amount m h = go (eqb (get_or l k no_outlet).cell i)
  where
    go : (b : Bool) → cond b amount 0 ≤ m
    go true = h
    go false = omega arith

-- d with the amounts of the first k outlets added, each to its cell's entry
unfoldable pub added : List Outlet → List ℕ → List ℕ → (k i : ℕ) → ℕ
added l a d k i = get_or d i 0 + sum_below k (λ j. there l j i (get_or a j 0))

module _ (l : List Outlet) (a d : List ℕ) where
  pub added_none : d ≡ tabulate (length d) (added l a d 0)
  unfolding added sum_below
  added_none = by_index (length d) (added l a d 0) 0 d refl (λ i k. sym (add-zero (get_or d i 0)))

  pub added_more : (k : ℕ) (column : List ℕ) (v : ℕ) → column ≡ tabulate (length d) (added l a d k) → (get_or l k no_outlet).cell < length d
      → v ≡ get_or column (get_or l k no_outlet).cell 0 + get_or a k 0 → set column (get_or l k no_outlet).cell v ≡ tabulate (length d) (added l a d (k + 1))
  unfolding added
  added_more k column v e h s =
      let c = (get_or l k no_outlet).cell in
      let term : ℕ → ℕ → ℕ = λ i j. there l j i (get_or a j 0) in
      let at : get_or column c 0 ≡ added l a d k c = rw e (get_or_tabulate (length d) (added l a d k) c 0 h) in
      let this : v ≡ added l a d (k + 1) c = omega (arith, s, at, sum_more k (term c), there_here l k (get_or a k 0)) in
      let others : (i : ℕ) → i < length d → (i ≡ c → ⊥) → added l a d k i ≡ added l a d (k + 1) i = λ i q n. omega (arith, sum_more k (term i), there_else l k i (get_or a k 0) n) in
      rw e (set_tabulate (length d) (added l a d k) (added l a d (k + 1)) c v this others)

  pub added_small : (n k : ℕ) (column : List ℕ) → column ≡ tabulate (length d) (added l a d k) → k ≤ n → n ≤ 32
      → ((j : ℕ) → j < n → get_or a j 0 ≤ 1_000_000_000) → (i : ℕ) → i < length d → get_or d i 0 ≤ 1_000_000_000 → get_or column i 0 ≤ 33_000_000_000
  unfolding added
  added_small n k column e h m f i q p =
      let s : sum_below k (λ j. there l j i (get_or a j 0)) ≤ k * 1_000_000_000 =
      sum_small k (λ j. there l j i (get_or a j 0)) 1_000_000_000 (λ j o. there_small l j i (get_or a j 0) 1_000_000_000 (f j (omega arith))) in
      rw (e, get_or_tabulate (length d) (added l a d k) i 0 q) (omega (arith, s))

-- ---- sums by cell

module _ (os : Outlets) where
  -- an amount of each outlet, as a list of cell i and as a column of all
  pub sum_from_cell : (f : Outlet → ℕ) (a : List ℕ) → ((k : ℕ) → k < os.count → get_or a k 0 ≡ f (outlet_at os k)) → (i : ℕ) → sum (from_cell f os i) ≡ by_cell os a i
  unfolding from_cell by_cell
  sum_from_cell f a h i =
      sum_tabulate os.count (λ k. cond (eqb (outlet_at os k).cell i) (f (outlet_at os k)) 0)
      ∙ sum_same os.count (λ k. cond (eqb (outlet_at os k).cell i) (f (outlet_at os k)) 0) (λ k. cond (eqb (outlet_at os k).cell i) (get_or a k 0) 0)
      (λ k l. ap (λ (x : ℕ). cond (eqb (outlet_at os k).cell i) x 0) (sym (h k l)))

  -- all outlets of all cells are all outlets
  pub all_cells : (g : ℕ → ℕ → ℕ) (n : ℕ) → ((k : ℕ) → k < os.count → (outlet_at os k).cell < n)
      → sum_below n (λ i. sum_below os.count (λ k. cond (eqb (outlet_at os k).cell i) (g k i) 0)) ≡ sum_below os.count (λ k. g k (outlet_at os k).cell)
  all_cells g n h =
      sum_swap n os.count (λ k i. cond (eqb (outlet_at os k).cell i) (g k i) 0)
      ∙ sum_same os.count (λ k. sum_below n (λ i. cond (eqb (outlet_at os k).cell i) (g k i) 0)) (λ k. g k (outlet_at os k).cell)
      (λ k l. sum_one n (g k) (outlet_at os k).cell (h k l))

-- amounts that are cut at m: their sum is that of the amounts, or both are m at least
cut : (n m : ℕ) (f g : ℕ → ℕ) → ((k : ℕ) → k < n → g k ≡ min (f k) m) → (sum_below n g ≡ sum_below n f) ⊎ ((m ≤ sum_below n g) × (m ≤ sum_below n f))
unfolding sum_below
cut zero m f g h = inl refl
cut (suc n) m f g h = go (f n) (g n) (h n (omega arith)) (cut n m f g (λ k l. h k (omega arith)))
  where
    go : (x y : ℕ) → y ≡ min x m → (sum_below n g ≡ sum_below n f) ⊎ ((m ≤ sum_below n g) × (m ≤ sum_below n f)) → (sum_below n g + y ≡ sum_below n f + x) ⊎ ((m ≤ sum_below n g + y) × (m ≤ sum_below n f + x))
    go x y e (inl s) = by (leb x m) refl
      where
        by : (b : Bool) → leb x m ≡ b → (sum_below n g + y ≡ sum_below n f + x) ⊎ ((m ≤ sum_below n g + y) × (m ≤ sum_below n f + x))
        by true q = inl (omega (arith, leb-true x m q))
        by false q = let l = leb-false x m q in inr (omega (arith, l), omega (arith, l))
    go x y e (inr s) = inr (omega (arith, s.0), omega (arith, s.1))

-- drawn water cut at one more than any base depth fits a base depth where all of it does, and is then all of it
module _ (os : Outlets) (a : List ℕ) (h : (k : ℕ) → k < os.count → get_or a k 0 ≡ min (outlet_at os k).drawn 4_000_001) (i : ℕ) where
  drawn_cut : (by_cell os a i ≡ sum (from_cell (λ o. o.drawn) os i)) ⊎ ((4_000_001 ≤ by_cell os a i) × (4_000_001 ≤ sum (from_cell (λ o. o.drawn) os i)))
  unfolding from_cell by_cell
  drawn_cut =
      rw (sum_tabulate os.count (λ k. cond (eqb (outlet_at os k).cell i) (outlet_at os k).drawn 0))
      (cut os.count 4_000_001 (λ k. cond (eqb (outlet_at os k).cell i) (outlet_at os k).drawn 0) (λ k. cond (eqb (outlet_at os k).cell i) (get_or a k 0) 0)
      (λ k l. at (eqb (outlet_at os k).cell i) (outlet_at os k).drawn (get_or a k 0) (h k l)))
    where
      at : (b : Bool) (x y : ℕ) → y ≡ min x 4_000_001 → cond b y 0 ≡ min (cond b x 0) 4_000_001
      at true x y e = e
      at false x y e = refl

  pub drawn_fits : (P b : ℕ) → b ≤ 4_000_000 → P + sum (from_cell (λ o. o.drawn) os i) ≤ b → P + by_cell os a i ≤ b
  drawn_fits P b s l = ⊎_elim (λ e. omega (arith, e)) (λ e. absurd (omega (arith, e.1))) drawn_cut

  pub drawn_same : (P b : ℕ) → b ≤ 4_000_000 → P + by_cell os a i ≤ b → by_cell os a i ≡ sum (from_cell (λ o. o.drawn) os i)
  drawn_same P b s l = ⊎_elim (λ e. e) (λ e. absurd (omega (arith, e.0))) drawn_cut
