-- Not the paper's: sums of an amount of each outlet by its cell, as a column of the record's length holds them, and what is known of the columns
-- by which grants are dealt out.
use Rattle.std.specs.Prelude.{◌≡◌, cond, List, ℕ, ◌-◌, ◌*◌, ◌/◌, ◌≤◌, ◌<◌, eqb, length, get_or}
use Rattle.numbers.specs.Index.{sum_below, sum}
use Rattle.numbers.specs.Deal.{has_unit, weighing_below}
use Rattle.outlet.specs.Outlets.{outlets_most, want_most, outlet_at, from_cell}
use Rattle.outlet.specs.declared.Outlets.{Outlets}

-- an amount that stands at the same place as its outlet, summed over the outlets of cell i
unfoldable pub by_cell : Outlets → (amounts : List ℕ) → (i : ℕ) → ℕ
by_cell os amounts i = sum_below os.count (λ k. cond (eqb (outlet_at os k).cell i) (get_or amounts k 0) 0)

-- a column of what each cell's outlets want together, and one of what the cell gives them, at most that
pub record Granted (os : Outlets) (wanted granted : List ℕ) : Type 0 where
  pub few : os.count ≤ outlets_most
  pub long : length granted ≡ length wanted
  pub within : (k : ℕ) → k < os.count → (outlet_at os k).cell < length wanted
  pub small : (k : ℕ) → k < os.count → (outlet_at os k).want ≤ want_most
  pub wants : (i : ℕ) → i < length wanted → get_or wanted i 0 ≡ sum (from_cell (λ o. o.want) os i)
  pub most : (i : ℕ) → i < length wanted → get_or granted i 0 ≤ get_or wanted i 0

-- the floor of outlet k's part of its cell's grant
unfoldable pub floor_at : Outlets → (wanted granted : List ℕ) → (k : ℕ) → ℕ
floor_at os wanted granted k = get_or granted (outlet_at os k).cell 0 * (outlet_at os k).want / get_or wanted (outlet_at os k).cell 0

-- the unit that it has, or has not, of the units that are left in its cell
unfoldable pub unit_at : Outlets → (left : List ℕ) → (k : ℕ) → ℕ
unit_at os left k =
    let ws = from_cell (λ o. o.want) os (outlet_at os k).cell in
    cond (has_unit (get_or left (outlet_at os k).cell 0 - weighing_below k (λ j. get_or ws j 0)) (outlet_at os k).want) 1 0
