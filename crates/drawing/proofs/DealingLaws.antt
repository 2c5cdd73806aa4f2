-- Laws of a grant dealt out in two passes: the floors, and the units left. Assumes nothing.
use mathlib.Core.Path.{◌≡◌, refl, sym, ◌∙◌, ap}
use mathlib.Core.Bool.{Bool, true, false, cond}
use mathlib.Core.List.{List}
use Prim.Native.Nat.{ℕ, zero, suc, ◌+◌, ◌-◌, ◌*◌, ◌/◌, ◌≤◌, ◌<◌}
use native.Mathlib.Nat.{sub-zero, mul-le-mul_right, div-le_of_le-mul}
use native.Mathlib.Omega.{arith}
use lib.Dec.{ltb}
use lib.ListN.{length, get_or, set, replicate, length-replicate}
use borrow.Author.Tests.{ltb-true, lt-ltb}
use Rattle.numbers.specs.Index.{sum_below, tabulate, sum}
use Rattle.numbers.specs.Deal.{floors, units_left, has_unit, dealt, weighing_below}
use Rattle.numbers.proofs.IndexLaws.{Written, written_below, and_right, by_index, length_tabulate, get_or_tabulate, set_tabulate, tabulate_same, sum_more, sum_small, sum_same, sum_part, sum_tabulate}
use Rattle.numbers.proofs.SharesLaws.{floor_none}
use Rattle.numbers.proofs.DealLaws.{floors_tabulate, floors_most, handed_then, unit_taken}
use Rattle.outlet.specs.Outlets.{outlet_at, from_cell}
use Rattle.outlet.specs.declared.Outlets.{Outlets}
use Rattle.drawing.specs.Ranges.{Granted, floor_at, unit_at}
use Rattle.drawing.proofs.DrawingLaws.{there, there_here, there_else, there_small}

-- what outlet j wants of cell i
unfoldable pub want_of : Outlets → (i j : ℕ) → ℕ
want_of os i j = there os.list j i (outlet_at os j).want

want_here : (os : Outlets) (k : ℕ) → want_of os (outlet_at os k).cell k ≡ (outlet_at os k).want
unfolding want_of
want_here os k = there_here os.list k (outlet_at os k).want

want_else : (os : Outlets) (k i : ℕ) → (i ≡ (outlet_at os k).cell → ⊥) → want_of os i k ≡ 0
unfolding want_of
want_else os k i n = there_else os.list k i (outlet_at os k).want n

wants_list : (os : Outlets) (i : ℕ) → from_cell (λ o. o.want) os i ≡ tabulate os.count (want_of os i)
unfolding from_cell want_of there
wants_list os i = refl

-- ---- the floors

zero_at : (n k : ℕ) → get_or {A = ℕ} (replicate n 0) k 0 ≡ 0
zero_at zero k = refl
zero_at (suc n) zero = refl
zero_at (suc n) (suc k) = zero_at n k

-- a list of zeros, written so far
pub written_in_zeros : (n : ℕ) (f : ℕ → ℕ) (i : ℕ) (l : List ℕ) → Written 0 f (replicate n 0) i l → l ≡ tabulate n (λ k. cond (ltb k i) (f k) 0)
written_in_zeros n f i l w =
    written_below 0 f (replicate n 0) i l w
    ∙ ap (λ (m : ℕ). tabulate m (λ k. cond (ltb k i) (f k) (get_or (replicate n 0) k 0))) (length-replicate n 0)
    ∙ tabulate_same n (λ k. cond (ltb k i) (f k) (get_or (replicate n 0) k 0)) (λ k. cond (ltb k i) (f k) 0) (λ k q. ap (λ (z : ℕ). cond (ltb k i) (f k) z) (zero_at n k))

-- what is left of each grant after the floors of the first k outlets
unfoldable pub left_after : Outlets → (wanted granted : List ℕ) → (k i : ℕ) → ℕ
left_after os W G k i = get_or G i 0 - sum_below k (λ j. get_or G i 0 * want_of os i j / get_or W i 0)

module _ (os : Outlets) (W G : List ℕ) where
  pub left_none : (left : List ℕ) → left ≡ G → left ≡ tabulate (length left) (left_after os W G 0)
  unfolding left_after sum_below
  left_none left e = by_index (length left) (left_after os W G 0) 0 left refl (λ i l. rw e (sym (sub-zero (get_or G i 0))))

  pub left_more : (n k : ℕ) (column : List ℕ) (v : ℕ) → column ≡ tabulate n (left_after os W G k) → (outlet_at os k).cell < n
      → v ≡ get_or column (outlet_at os k).cell 0 - floor_at os W G k → set column (outlet_at os k).cell v ≡ tabulate n (left_after os W G (k + 1))
  unfolding left_after floor_at
  left_more n k column v e h d =
      let c = (outlet_at os k).cell in
      let term : ℕ → ℕ → ℕ = λ i j. get_or G i 0 * want_of os i j / get_or W i 0 in
      let at : get_or column c 0 ≡ left_after os W G k c = rw e (get_or_tabulate n (left_after os W G k) c 0 h) in
      let here : term c k ≡ get_or G c 0 * (outlet_at os k).want / get_or W c 0 = ap (λ (w : ℕ). get_or G c 0 * w / get_or W c 0) (want_here os k) in
      let none : (i : ℕ) → (i ≡ c → ⊥) → term i k ≡ 0 = λ i m. ap (λ (w : ℕ). get_or G i 0 * w / get_or W i 0) (want_else os k i m) ∙ floor_none (get_or G i 0) (get_or W i 0) in
      let this : v ≡ left_after os W G (k + 1) c = omega (arith, d, at, sum_more k (term c), here) in
      let others : (i : ℕ) → i < n → (i ≡ c → ⊥) → left_after os W G k i ≡ left_after os W G (k + 1) i = λ i q m. omega (arith, sum_more k (term i), none i m) in
      rw e (set_tabulate n (left_after os W G k) (left_after os W G (k + 1)) c v this others)

  module _ (g : Granted os W G) where
    -- all floors of a cell together
    all_floors : (i : ℕ) → i < length W → sum_below os.count (λ j. get_or G i 0 * want_of os i j / get_or W i 0) ≡ sum (floors (get_or G i 0) (sum (from_cell (λ o. o.want) os i)) (from_cell (λ o. o.want) os i))
    all_floors i l =
        rw (← g.wants i l, wants_list os i, floors_tabulate (get_or G i 0) (get_or W i 0) os.count (want_of os i))
        (sym (sum_tabulate os.count (λ j. get_or G i 0 * want_of os i j / get_or W i 0)))

    pub left_enough : (n k : ℕ) (column : List ℕ) → column ≡ tabulate n (left_after os W G k) → n ≡ length W → k < os.count → floor_at os W G k ≤ get_or column (outlet_at os k).cell 0
    unfolding left_after floor_at
    left_enough n k column e same l =
        let c = (outlet_at os k).cell in
        let h : c < length W = g.within k l in
        let here : get_or G c 0 * want_of os c k / get_or W c 0 ≡ get_or G c 0 * (outlet_at os k).want / get_or W c 0 = ap (λ (w : ℕ). get_or G c 0 * w / get_or W c 0) (want_here os k) in
        let part = sum_part os.count (λ j. get_or G c 0 * want_of os c j / get_or W c 0) k l in
        let most = floors_most (get_or G c 0) (from_cell (λ o. o.want) os c) (λ z. omega (arith, z, g.wants c h, g.most c h)) in
        rw (e, get_or_tabulate n (left_after os W G k) c 0 (omega (arith, h))) (omega (arith, part, here, all_floors c h, most))

    pub left_done : (n : ℕ) → n ≡ length W → tabulate n (left_after os W G os.count) ≡ tabulate n (λ i. units_left (get_or G i 0) (from_cell (λ o. o.want) os i))
    unfolding left_after units_left
    left_done n same =
        tabulate_same n (left_after os W G os.count) (λ i. units_left (get_or G i 0) (from_cell (λ o. o.want) os i))
        (λ i l. ap (λ (s : ℕ). get_or G i 0 - s) (all_floors i (omega arith)))

    pub grant_small : (i : ℕ) → i < length W → get_or G i 0 ≤ 128_000_000
    unfolding want_of
    grant_small i l =
        let each = sum_small os.count (want_of os i) 4_000_000 (λ j q. there_small os.list j i (outlet_at os j).want 4_000_000 (g.small j q)) in
        let all = ap sum (wants_list os i) ∙ sum_tabulate os.count (want_of os i) in
        omega (arith, each, all, g.wants i l, g.most i l, g.few)

    pub floor_small : (k : ℕ) → k < os.count → floor_at os W G k ≤ 4_000_000
    unfolding floor_at
    floor_small k l =
        let c = (outlet_at os k).cell in
        let part : get_or G c 0 * (outlet_at os k).want / get_or W c 0 ≤ (outlet_at os k).want =
        div-le_of_le-mul (get_or W c 0) (omega (arith, mul-le-mul_right (outlet_at os k).want (g.most c (g.within k l)))) in
        omega (arith, part, g.small k l)

-- ---- the units left

-- what is left of each cell's units after the first k outlets
unfoldable pub units_after : Outlets → (units : List ℕ) → (k i : ℕ) → ℕ
units_after os U k i = get_or U i 0 - weighing_below k (want_of os i)

pub unit_few : (x w : ℕ) → (cond (has_unit x w) 1 0 ≤ x) × (cond (has_unit x w) 1 0 ≤ 1)
unfolding has_unit
unit_few x w = go (has_unit x w) refl
  where
    go : (b : Bool) → has_unit x w ≡ b → (cond (has_unit x w) 1 0 ≤ x) × (cond (has_unit x w) 1 0 ≤ 1)
    go true e = rw e (ltb-true 0 x (and_right (ltb 0 w) (ltb 0 x) e), omega arith)
    go false e = rw e (omega arith, omega arith)

module _ (os : Outlets) (U : List ℕ) where
  pub units_none : U ≡ tabulate (length U) (units_after os U 0)
  unfolding units_after weighing_below sum_below
  units_none = by_index (length U) (units_after os U 0) 0 U refl (λ i l. sym (sub-zero (get_or U i 0)))

  pub units_more : (k : ℕ) (column : List ℕ) (v : ℕ) → column ≡ tabulate (length U) (units_after os U k) → (outlet_at os k).cell < length U
      → v ≡ get_or column (outlet_at os k).cell 0 - cond (has_unit (get_or column (outlet_at os k).cell 0) (outlet_at os k).want) 1 0
      → set column (outlet_at os k).cell v ≡ tabulate (length U) (units_after os U (k + 1))
  unfolding units_after weighing_below
  units_more k column v e h d =
      let c = (outlet_at os k).cell in
      let w = (outlet_at os k).want in
      let s = weighing_below k (want_of os c) in
      let term : ℕ → ℕ → ℕ = λ i j. cond (ltb 0 (want_of os i j)) 1 0 in
      let at : get_or column c 0 ≡ get_or U c 0 - s = rw e (get_or_tabulate (length U) (units_after os U k) c 0 h) in
      let here : term c k ≡ cond (ltb 0 w) 1 0 = ap (λ (x : ℕ). cond (ltb 0 x) 1 0) (want_here os k) in
      let none : (i : ℕ) → (i ≡ c → ⊥) → term i k ≡ 0 = λ i m. ap (λ (x : ℕ). cond (ltb 0 x) 1 0) (want_else os k i m) in
      let taken : get_or column c 0 - cond (has_unit (get_or column c 0) w) 1 0 ≡ get_or U c 0 - (s + cond (ltb 0 w) 1 0) = rw at (unit_taken s (get_or U c 0) w) in
      let this : v ≡ units_after os U (k + 1) c = d ∙ taken ∙ ap (λ (x : ℕ). get_or U c 0 - x) (sym (sum_more k (term c) ∙ ap (λ (x : ℕ). s + x) here)) in
      let others : (i : ℕ) → i < length U → (i ≡ c → ⊥) → units_after os U k i ≡ units_after os U (k + 1) i = λ i q m. omega (arith, sum_more k (term i), none i m) in
      ap (λ (l : List ℕ). set l c v) e ∙ set_tabulate (length U) (units_after os U k) (units_after os U (k + 1)) c v this others

  -- the unit of an outlet is had of what those before it leave
  pub unit_is : (k : ℕ) (column : List ℕ) → column ≡ tabulate (length U) (units_after os U k) → (outlet_at os k).cell < length U → k < os.count
      → cond (has_unit (get_or column (outlet_at os k).cell 0) (outlet_at os k).want) 1 0 ≡ unit_at os U k
  unfolding units_after unit_at weighing_below
  unit_is k column e h l =
      let c = (outlet_at os k).cell in
      let same : weighing_below k (want_of os c) ≡ weighing_below k (λ j. get_or (from_cell (λ o. o.want) os c) j 0) =
      sum_same k (λ j. cond (ltb 0 (want_of os c j)) 1 0) (λ j. cond (ltb 0 (get_or (from_cell (λ o. o.want) os c) j 0)) 1 0)
      (λ j q. ap (λ (w : ℕ). cond (ltb 0 w) 1 0) (sym (ap (λ (ws : List ℕ). get_or ws j 0) (wants_list os c) ∙ get_or_tabulate os.count (want_of os c) j 0 (omega arith)))) in
      let at : get_or column c 0 ≡ get_or U c 0 - weighing_below k (λ j. get_or (from_cell (λ o. o.want) os c) j 0) =
      rw e (get_or_tabulate (length U) (units_after os U k) c 0 h) ∙ ap (λ (s : ℕ). get_or U c 0 - s) same in
      rw at refl

-- ---- both passes

module _ (os : Outlets) (W G : List ℕ) (g : Granted os W G) (f : List ℕ) (hf : f ≡ tabulate 32 (λ k. cond (ltb k os.count) (floor_at os W G k) 0)) where
  floor_at_lem : (k : ℕ) → k < os.count → get_or f k 0 ≡ floor_at os W G k
  floor_at_lem k l =
      rw (hf, get_or_tabulate 32 (λ j. cond (ltb j os.count) (floor_at os W G j) 0) k 0 (omega (arith, g.few)))
      (rw (lt-ltb k os.count l) refl)

  pub floors_small : (k : ℕ) → k < os.count → get_or f k 0 ≤ 4_000_000
  floors_small k l = rw (floor_at_lem k l) (floor_small os W G g k l)

  module _ (U : List ℕ) (hU : U ≡ tabulate (length W) (λ i. units_left (get_or G i 0) (from_cell (λ o. o.want) os i))) where
    dealt_one : (k : ℕ) → k < os.count → get_or f k 0 + unit_at os U k ≡ get_or (dealt (get_or G (outlet_at os k).cell 0) (from_cell (λ o. o.want) os (outlet_at os k).cell)) k 0
    unfolding dealt floor_at unit_at
    dealt_one k l =
        let c = (outlet_at os k).cell in
        let ws = from_cell (λ o. o.want) os c in
        let h : c < length W = g.within k l in
        let long : k < length ws = rw (wants_list os c, length_tabulate os.count (want_of os c)) l in
        let want : get_or ws k 0 ≡ (outlet_at os k).want = ap (λ (v : List ℕ). get_or v k 0) (wants_list os c) ∙ get_or_tabulate os.count (want_of os c) k 0 l ∙ want_here os k in
        let units : get_or U c 0 ≡ units_left (get_or G c 0) ws = rw hU (get_or_tabulate (length W) (λ i. units_left (get_or G i 0) (from_cell (λ o. o.want) os i)) c 0 h) in
        let one = handed_then (units_left (get_or G c 0) ws) (get_or G c 0) (sum ws) ws k long in
        sym (one ∙ rw (want, ← g.wants c h, ← units, floor_at_lem k l) refl)

    pub dealt_both : tabulate 32 (λ k. cond (ltb k os.count) (get_or f k 0 + unit_at os U k) (get_or f k 0))
        ≡ tabulate 32 (λ k. cond (ltb k os.count) (get_or (dealt (get_or G (outlet_at os k).cell 0) (from_cell (λ o. o.want) os (outlet_at os k).cell)) k 0) 0)
    dealt_both =
        tabulate_same 32 (λ k. cond (ltb k os.count) (get_or f k 0 + unit_at os U k) (get_or f k 0))
        (λ k. cond (ltb k os.count) (get_or (dealt (get_or G (outlet_at os k).cell 0) (from_cell (λ o. o.want) os (outlet_at os k).cell)) k 0) 0)
        (λ k l. at k l (ltb k os.count) refl)
      where
        at : (k : ℕ) → k < 32 → (b : Bool) → ltb k os.count ≡ b → cond (ltb k os.count) (get_or f k 0 + unit_at os U k) (get_or f k 0) ≡ cond (ltb k os.count) (get_or (dealt (get_or G (outlet_at os k).cell 0) (from_cell (λ o. o.want) os (outlet_at os k).cell)) k 0) 0
        at k l true e = rw e (dealt_one k (ltb-true k os.count e))
        at k l false e = rw (e, hf, get_or_tabulate 32 (λ j. cond (ltb j os.count) (floor_at os W G j) 0) k 0 l, e) refl
