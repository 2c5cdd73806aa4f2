-- Laws of a transport: nothing is lost, bounds by place are kept, and every amount is small. They rest on the laws of shares for any number of
-- parts; only `three_shares` and what reads a single share know which they are. Assumes nothing.
use mathlib.Core.Path.{◌≡◌, refl, sym, ap, ◌∙◌}
use mathlib.Core.Bool.{Bool, true, false, cond}
use mathlib.Core.Logic.{⊎_elim}
use mathlib.Core.List.{List, [], ◌∷◌}
use Prim.Native.Nat.{ℕ, zero, suc, ◌+◌, ◌-◌, ◌*◌, ◌/◌, ◌≤◌, ◌<◌}
use native.Mathlib.Nat.{zero-add, eq-or-lt_of_le, add-sub_of_le}
use native.Mathlib.Numerals.{add-one}
use native.Mathlib.Omega.{arith}
use borrow.Author.Tests.{lt-ltb, le-ltb}
use lib.Dec.{eqb}
use lib.IntN.{ℤ, pos, neg_ℤ}
use lib.ListN.{length, get_or}
use Rattle.numbers.specs.Index.{sum, sum_below, tabulate}
use Rattle.numbers.specs.Shares.{share, shares, rest}
use Rattle.numbers.specs.Signed.{positive}
use Rattle.numbers.proofs.IndexLaws.{telescope, sum_add, sum_tabulate, sum_by_index, sum_same, sum_part, length_tabulate}
use Rattle.numbers.proofs.SharesLaws.{floor_none, share_nothing, shares_at, length_shares, shares_rest, shares_lo, shares_hi, rest_lo, rest_hi, rest_of_all}
use Rattle.outlet.specs.Outlets.{outlet_at, from_cell}
use Rattle.outlet.specs.declared.Outlets.{Outlets}
use Rattle.drawing.proofs.DrawingLaws.{all_cells}
use Rattle.reach.specs.Parts.{parts, outflow, drawn_from}
use Rattle.reach.specs.Ranges.{undrawn}
use Rattle.reach.proofs.PartsLaws.{outflow_is}
use Rattle.mass.specs.Transport.{MassColumns, mass_columns, cell_parts, cell_outflow, cell_shares, right_share, left_share, outlet_share, rightwards, leftwards, moved_cell}
use Rattle.mass.specs.Ranges.{ReadyAt, Ready, mass_most, moved_mass}

-- the water that crossed interface i rightwards, and leftwards
abbrev pub water_rightwards : MassColumns → ℕ → ℕ
water_rightwards s i = positive (get_or s.carried i (pos 0))

abbrev pub water_leftwards : MassColumns → ℕ → ℕ
water_leftwards s i = positive (neg_ℤ (get_or s.carried i (pos 0)))

-- and that stayed in cell i
abbrev pub water_stayed : MassColumns → ℕ → ℕ
water_stayed s i = get_or s.base i 0 - cell_outflow s i

module _ (s : MassColumns) where
  abbrev n : ℕ
  n = length s.mass

  abbrev M : ℕ → ℕ
  M i = get_or s.mass i 0

  abbrev B : ℕ → ℕ
  B i = get_or s.base i 0

  -- R and L
  abbrev R : ℕ → ℕ
  R i = water_rightwards s (i + 1)

  abbrev L : ℕ → ℕ
  L i = water_leftwards s i

  -- what its outlets have of cell i, after right and left
  abbrev outlet_shares : ℕ → List ℕ
  outlet_shares i = shares (M i) (B i) (R i + L i) (s.drawn i)

  -- the mass that left cell i by its outlets
  unfoldable pub drawn_mass : ℕ → ℕ
  drawn_mass i = sum (outlet_shares i)

  by_outlets : (i : ℕ) → cell_shares s i ≡ right_share s i ∷ left_share s i ∷ outlet_shares i
  unfolding cell_shares parts shares
  by_outlets i = ap (λ (P : ℕ). right_share s i ∷ left_share s i ∷ shares (M i) (B i) P (s.drawn i)) (ap (λ (x : ℕ). x + L i) (zero-add (R i)))

  pub outlet_share_is : (i k : ℕ) → outlet_share s i k ≡ get_or (outlet_shares i) k 0
  outlet_share_is i k = ap (λ (l : List ℕ). get_or l (suc (suc k)) 0) (by_outlets i)

  -- the shares of a cell are these
  three_shares : (i : ℕ) → sum (cell_shares s i) ≡ right_share s i + left_share s i + drawn_mass i
  unfolding sum drawn_mass
  three_shares i = ap sum (by_outlets i) ∙ omega arith

  -- the paper's own words for the first two
  pub right_share_floor : (i : ℕ) → right_share s i ≡ M i * R i / B i
  unfolding cell_shares parts shares share
  right_share_floor i = rw zero-add (omega (arith, floor_none (M i) (B i)))

  pub left_share_floor : (i : ℕ) → left_share s i ≡ M i * (R i + L i) / B i - right_share s i
  unfolding cell_shares parts shares share
  left_share_floor i = rw zero-add (omega (arith, floor_none (M i) (B i)))

  pub rightwards_next : (i : ℕ) → rightwards s (i + 1) ≡ right_share s i
  unfolding rightwards
  rightwards_next i = rw add-one refl

  pub leftwards_cell : (i : ℕ) → i < n → leftwards s i ≡ left_share s i
  unfolding leftwards
  leftwards_cell i l = rw (lt-ltb i n l) refl

  pub leftwards_end : (i : ℕ) → n ≤ i → leftwards s i ≡ s.right_inflow
  unfolding leftwards
  leftwards_end i e = rw (le-ltb i n e) refl

  -- a cell that gave no more water than its base
  module _ (i : ℕ) (covered : cell_outflow s i ≤ B i) where
    -- its shares and what stays make up its mass
    whole : sum (cell_shares s i) + rest (M i) (B i) (cell_outflow s i) ≡ M i
    unfolding cell_shares outflow
    whole = shares_rest (M i) (B i) (cell_parts s i) covered

    pub shares_fit : right_share s i + left_share s i + drawn_mass i ≤ M i
    shares_fit = omega (arith, whole, three_shares i)

    pub moved_is : moved_cell s i + (right_share s i + left_share s i + drawn_mass i) ≡ M i + rightwards s i + leftwards s (i + 1)
    unfolding moved_cell
    moved_is = omega (arith, whole, three_shares i)

  -- the mass that stays in cell i
  abbrev pub stayed : ℕ → ℕ
  stayed i = rest (M i) (B i) (cell_outflow s i)

  -- what is written, in the order that it comes together
  pub moved_by : (i : ℕ) (v held left : ℕ) → v ≡ held + left → held ≡ stayed i + rightwards s i → left ≡ leftwards s (i + 1) → v ≡ moved_cell s i
  unfolding moved_cell
  moved_by i v held left e p q = omega arith

  -- a cell that gave all its water keeps nothing of its mass
  pub moved_all : (hi i : ℕ) → M i ≤ hi * B i → cell_outflow s i ≡ B i → moved_cell s i ≡ rightwards s i + leftwards s (i + 1)
  unfolding moved_cell
  moved_all hi i l e = rw e (omega (arith, rest_of_all (M i) hi (B i) l))

  -- ---- where each cell gave no more water than its base
  module _ (covered : (i : ℕ) → i < n → cell_outflow s i ≤ B i) where
    cell_balance : (i : ℕ) → i < n → (moved_cell s i + drawn_mass i) + rightwards s (suc i) + leftwards s i ≡ M i + rightwards s i + leftwards s (suc i)
    cell_balance i l =
        let r : rightwards s (suc i) ≡ right_share s i = rw (← add-one i) (rightwards_next i) in
        let e : leftwards s (i + 1) ≡ leftwards s (suc i) = ap (leftwards s) (add-one i) in
        omega (arith, moved_is i (covered i l), leftwards_cell i l)

    -- mass held after, and what went out, is mass held before and what came in
    pub conserved : sum (moved_mass s) + sum_below n drawn_mass + rightwards s n + leftwards s 0 ≡ sum s.mass + rightwards s 0 + leftwards s n
    conserved =
        omega (
          arith,
          sum_tabulate n (moved_cell s),
          sum_by_index s.mass,
          sum_add n (moved_cell s) drawn_mass,
          telescope n (λ i. moved_cell s i + drawn_mass i) M (rightwards s) (leftwards s) cell_balance,
        )

    -- bounds by place, 0 the left boundary, 1..n the cells, n + 1 the right boundary: water keeps the bounds of the place that it comes from
    module _
        (lo : ℕ → ℕ)
        (held : (i : ℕ) → i < n → lo (i + 1) * B i ≤ M i)
        (left : lo 0 * water_rightwards s 0 ≤ s.left_inflow)
        (right : lo (n + 1) * water_leftwards s n ≤ s.right_inflow)
      where
        share_above : (i : ℕ) → i < n → (k : ℕ) → k < length (cell_parts s i) → lo (i + 1) * get_or (cell_parts s i) k 0 ≤ get_or (cell_shares s i) k 0
        unfolding cell_shares outflow
        share_above i l = shares_lo (M i) (lo (i + 1)) (B i) 0 (cell_parts s i) (omega (arith, covered i l)) (held i l)

        rightwards_lo : (i : ℕ) → i ≤ n → lo i * water_rightwards s i ≤ rightwards s i
        unfolding rightwards parts
        rightwards_lo zero l = left
        rightwards_lo (suc i) l = rw (← add-one i) (share_above i l 0 (omega arith))

        leftwards_lo : (i : ℕ) → i ≤ n → lo (i + 1) * water_leftwards s i ≤ leftwards s i
        unfolding parts
        leftwards_lo i l =
            ⊎_elim
            (λ e. rw (leftwards_end i (omega arith), e) right)
            (λ k. rw (leftwards_cell i k) (share_above i k 1 (omega arith)))
            (eq-or-lt_of_le l)

        pub moved_lo : (i : ℕ) → i < n → lo i * water_rightwards s i + lo (i + 1) * water_stayed s i + lo (i + 2) * water_leftwards s (i + 1) ≤ moved_cell s i
        unfolding moved_cell
        moved_lo i l =
            let e : i + 2 ≡ i + 1 + 1 = omega arith in
            rw e
            (omega (
              arith,
              rest_lo (M i) (lo (i + 1)) (B i) (cell_outflow s i) (water_stayed s i) (add-sub_of_le (covered i l)) (held i l),
              rightwards_lo i (omega arith),
              leftwards_lo (i + 1) (omega arith),
            ))

    module _
        (hi : ℕ → ℕ)
        (held : (i : ℕ) → i < n → M i ≤ hi (i + 1) * B i)
        (left : s.left_inflow ≤ hi 0 * water_rightwards s 0)
        (right : s.right_inflow ≤ hi (n + 1) * water_leftwards s n)
      where
        share_below : (i : ℕ) → i < n → (k : ℕ) → k < length (cell_parts s i) → get_or (cell_shares s i) k 0 ≤ hi (i + 1) * get_or (cell_parts s i) k 0
        unfolding cell_shares
        share_below i l = shares_hi (M i) (hi (i + 1)) (B i) 0 (cell_parts s i) (held i l)

        rightwards_hi : (i : ℕ) → i ≤ n → rightwards s i ≤ hi i * water_rightwards s i
        unfolding rightwards parts
        rightwards_hi zero l = left
        rightwards_hi (suc i) l = rw (← add-one i) (share_below i l 0 (omega arith))

        leftwards_hi : (i : ℕ) → i ≤ n → leftwards s i ≤ hi (i + 1) * water_leftwards s i
        unfolding parts
        leftwards_hi i l =
            ⊎_elim
            (λ e. rw (leftwards_end i (omega arith), e) right)
            (λ k. rw (leftwards_cell i k) (share_below i k 1 (omega arith)))
            (eq-or-lt_of_le l)

        pub moved_hi : (i : ℕ) → i < n → moved_cell s i ≤ hi i * water_rightwards s i + hi (i + 1) * water_stayed s i + hi (i + 2) * water_leftwards s (i + 1)
        unfolding moved_cell
        moved_hi i l =
            let e : i + 2 ≡ i + 1 + 1 = omega arith in
            rw e
            (omega (
              arith,
              rest_hi (M i) (hi (i + 1)) (B i) (cell_outflow s i) (water_stayed s i) (add-sub_of_le (covered i l)) (held i l),
              rightwards_hi i (omega arith),
              leftwards_hi (i + 1) (omega arith),
            ))

-- ---- sizes

module _ (s : MassColumns) (i : ℕ) (r : ReadyAt s i) where
  pub mass_small : i < length s.mass → get_or s.mass i 0 ≤ mass_most
  mass_small l = let g = r.giving l in omega (arith, g.deep, g.rich)

  pub stayed_small : i < length s.mass → stayed s i ≤ mass_most
  unfolding rest
  stayed_small l = omega (arith, mass_small l)

  pub leftwards_small : i ≤ length s.mass → leftwards s i ≤ mass_most
  leftwards_small h =
      ⊎_elim
      (λ e. rw (leftwards_end s i (omega arith)) r.entering)
      (λ k. rw (leftwards_cell s i k) (omega (arith, shares_fit s i (r.giving k).covered, mass_small k)))
      (eq-or-lt_of_le h)

pub rightwards_small : (s : MassColumns) → Ready s → (i : ℕ) → i ≤ length s.mass → rightwards s i ≤ mass_most
unfolding rightwards
rightwards_small s r zero l = r.entering
rightwards_small s r (suc i) l = omega (arith, shares_fit s i ((r.each i).giving l).covered, mass_small s i (r.each i) l)

-- ---- What is read of a cell depends on the mass there alone, so a column that is written in place up to i serves at i and above;
-- and nothing of it depends on what enters over the left boundary.
module _ (m m₀ b : List ℕ) (c : List ℤ) (d : ℕ → List ℕ) (x x₀ y : ℕ) (long : length m ≡ length m₀) where
  pub ready_same : (j : ℕ) → get_or m j 0 ≡ get_or m₀ j 0 → ReadyAt (mass_columns m₀ b c d x₀ y) j → ReadyAt (mass_columns m b c d x y) j
  ready_same j e r = record {
    bases = r.bases ∙ sym long;
    interfaces = r.interfaces ∙ ap (λ (k : ℕ). k + 1) (sym long);
    giving = λ l. rw e (r.giving (omega arith));
    entering = r.entering;
  }

  pub shares_same : (j : ℕ) → get_or m j 0 ≡ get_or m₀ j 0 → cell_shares (mass_columns m b c d x y) j ≡ cell_shares (mass_columns m₀ b c d x₀ y) j
  unfolding cell_shares
  shares_same j e = rw e refl

-- ---- What leaves a cell, and what stays in it, does not depend on what enters over the boundaries.
module _ (s : MassColumns) where
  abbrev inside : MassColumns
  inside = mass_columns s.mass s.base s.carried s.drawn 0 0

  pub ready_inside : (i : ℕ) → ReadyAt s i → ReadyAt inside i
  ready_inside i r = record { bases = r.bases; interfaces = r.interfaces; giving = r.giving; entering = omega arith }

  pub shares_inside : (i : ℕ) → cell_shares inside i ≡ cell_shares s i
  unfolding cell_shares
  shares_inside i = refl

-- ---- What the outlets of a cell have drawn changes nothing of what crosses its sides, and is taken off what is left then.

pub sum_empty : sum [] ≡ 0
unfolding sum
sum_empty = refl

module _ (m b : List ℕ) (c : List ℤ) (d : ℕ → List ℕ) (x y : ℕ) where
  abbrev drawing : MassColumns
  drawing = mass_columns m b c d x y

  abbrev undrawing : MassColumns
  undrawing = mass_columns m b c undrawn x y

  less_undrawn : (i : ℕ) → cell_outflow undrawing i ≤ cell_outflow drawing i
  less_undrawn i =
      let l = get_or c i (pos 0) in
      let r = get_or c (i + 1) (pos 0) in
      omega (arith, outflow_is l r (d i), outflow_is l r [], sum_empty)

  pub ready_undrawn : ((i : ℕ) → ReadyAt drawing i) → (i : ℕ) → ReadyAt undrawing i
  ready_undrawn r i = record {
    bases = (r i).bases;
    interfaces = (r i).interfaces;
    giving = λ l. let g = (r i).giving l in record { deep = g.deep; rich = g.rich; covered = omega (arith, less_undrawn i, g.covered) };
    entering = (r i).entering;
  }

  pub rightwards_undrawn : (i : ℕ) → rightwards undrawing i ≡ rightwards drawing i
  unfolding rightwards cell_shares parts shares
  rightwards_undrawn zero = refl
  rightwards_undrawn (suc i) = refl

  pub leftwards_undrawn : (i : ℕ) → leftwards undrawing i ≡ leftwards drawing i
  unfolding leftwards cell_shares parts shares
  leftwards_undrawn i = refl

  no_mass : (i : ℕ) → drawn_mass undrawing i ≡ 0
  unfolding drawn_mass shares sum
  no_mass i = refl

  right_undrawn : (i : ℕ) → right_share undrawing i ≡ right_share drawing i
  unfolding cell_shares parts shares
  right_undrawn i = refl

  left_undrawn : (i : ℕ) → left_share undrawing i ≡ left_share drawing i
  unfolding cell_shares parts shares
  left_undrawn i = refl

  pub moved_undrawn : (i : ℕ) → cell_outflow drawing i ≤ get_or b i 0 → moved_cell drawing i + drawn_mass drawing i ≡ moved_cell undrawing i
  moved_undrawn i covered =
      omega (
        arith,
        moved_is drawing i covered,
        moved_is undrawing i (omega (arith, less_undrawn i, covered)),
        no_mass i,
        right_undrawn i,
        left_undrawn i,
        rightwards_undrawn i,
        leftwards_undrawn (i + 1),
      )

-- ---- outlets: each share by itself, and all of them

module _ (m b : List ℕ) (c : List ℤ) (os : Outlets) (x y : ℕ) where
  abbrev of : MassColumns
  of = mass_columns m b c (drawn_from os) x y

  -- what outlet k has drawn of cell i
  abbrev drawn_of : ℕ → ℕ → ℕ
  drawn_of i k = cond (eqb (outlet_at os k).cell i) (outlet_at os k).drawn 0

  -- an outlet's share comes after right, left and the outlets before it
  pub outlet_share_at : (i k : ℕ) → k < os.count
      → outlet_share of i k ≡ share (get_or m i 0) (get_or b i 0) (water_rightwards of (i + 1) + water_leftwards of i + sum_below k (drawn_of i)) (drawn_of i k)
  unfolding from_cell
  outlet_share_at i k l = outlet_share_is of i k ∙ shares_at (get_or m i 0) (get_or b i 0) (water_rightwards of (i + 1) + water_leftwards of i) os.count (drawn_of i) k l

  -- one of another cell has nothing of this one
  share_here : (i k : ℕ) → k < os.count → outlet_share of i k ≡ cond (eqb (outlet_at os k).cell i) (outlet_share of i k) 0
  share_here i k l = go (eqb (outlet_at os k).cell i) refl
    where
      go : (t : Bool) → eqb (outlet_at os k).cell i ≡ t → outlet_share of i k ≡ cond t (outlet_share of i k) 0
      go true e = refl
      go false e = outlet_share_at i k l ∙ rw e (share_nothing (get_or m i 0) (get_or b i 0) _)

  pub drawn_mass_is : (i : ℕ) → drawn_mass of i ≡ sum_below os.count (λ k. cond (eqb (outlet_at os k).cell i) (outlet_share of i k) 0)
  unfolding drawn_mass from_cell
  drawn_mass_is i =
      sum_by_index (shares (get_or m i 0) (get_or b i 0) _ (tabulate os.count (drawn_of i)))
      ∙ ap (λ (n : ℕ). sum_below n (λ k. get_or (shares (get_or m i 0) (get_or b i 0) (water_rightwards of (i + 1) + water_leftwards of i) (tabulate os.count (drawn_of i))) k 0)) (length_shares (get_or m i 0) (get_or b i 0) _ _ ∙ length_tabulate os.count (drawn_of i))
      ∙ sum_same os.count _ _ (λ k l. sym (outlet_share_is of i k) ∙ share_here i k l)

  -- all that left by the outlets of the cells is what the outlets have
  pub drawn_mass_sum : ((k : ℕ) → k < os.count → (outlet_at os k).cell < length m) → sum_below (length m) (drawn_mass of) ≡ sum_below os.count (λ k. outlet_share of (outlet_at os k).cell k)
  drawn_mass_sum inside =
      sum_same (length m) _ _ (λ i l. drawn_mass_is i)
      ∙ all_cells os (λ k i. outlet_share of i k) (length m) inside

  -- up to outlet k no more is drawn of a cell than all of it
  pub drawn_before : (i k : ℕ) → k < os.count → sum_below k (drawn_of i) + drawn_of i k ≤ sum (drawn_from os i)
  unfolding from_cell
  drawn_before i k l = rw (sum_tabulate os.count (drawn_of i)) (sum_part os.count (drawn_of i) k l)

-- and it is small
pub outlet_share_small : (m b : List ℕ) (c : List ℤ) (os : Outlets) (i k : ℕ) → i < length m → ReadyAt (mass_columns m b c (drawn_from os) 0 0) i → k < os.count
    → outlet_share (mass_columns m b c (drawn_from os) 0 0) i k ≤ mass_most
unfolding drawn_mass from_cell
outlet_share_small m b c os i k l r q =
    let s = mass_columns m b c (drawn_from os) 0 0 in
    let all = shares (get_or m i 0) (get_or b i 0) (water_rightwards s (i + 1) + water_leftwards s i) (drawn_from os i) in
    let long : length all ≡ os.count = length_shares (get_or m i 0) (get_or b i 0) _ _ ∙ length_tabulate os.count _ in
    let one = sum_part (length all) (λ j. get_or all j 0) k (omega (arith, long, q)) in
    omega (arith, outlet_share_is s i k, one, sum_by_index all, shares_fit s i (r.giving l).covered, mass_small s i r l)
