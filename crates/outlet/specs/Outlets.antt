-- Document 02, point 1: the list of outlets that is lent with a record, as a call looks at it.
use Rattle.std.specs.Prelude.{cond, List, ◌++◌, ℕ, eqb, ltb, length, get_or, replicate, take, drop}
use Rattle.numbers.specs.Index.{tabulate}
use Rattle.outlet.specs.declared.Outlet.{Outlet}
use Rattle.outlet.specs.declared.Outlets.{Outlets}

-- 'up to 32 outlets'
abbrev pub outlets_most : ℕ
outlets_most = 32

-- the depth that an outlet wants per step: 0..4,000,000
abbrev pub want_most : ℕ
want_most = 4_000_000

-- what stands where there is no outlet
abbrev pub no_outlet : Outlet
no_outlet = record { cell = 0; want = 0; drawn = 0; water = 0; mass = 0 }

-- an empty list
abbrev pub no_outlets : Outlets
no_outlets = record { count = 0; list = replicate outlets_most no_outlet }

-- outlet k of the list, counted from 0
abbrev pub outlet_at : Outlets → ℕ → Outlet
outlet_at os k = get_or os.list k no_outlet

-- an amount of each outlet in list order, as far as it concerns cell i: an outlet of another cell stands there with 0
unfoldable pub from_cell : (Outlet → ℕ) → Outlets → (i : ℕ) → List ℕ
from_cell f os i = tabulate os.count (λ k. cond (eqb (outlet_at os k).cell i) (f (outlet_at os k)) 0)

-- the list with outlet k replaced by f k, for each k
unfoldable pub each_outlet : (ℕ → Outlet) → Outlets → Outlets
each_outlet f os = record { count = os.count; list = tabulate outlets_most (λ k. cond (ltb k os.count) (f k) (outlet_at os k)) }

-- 'An opening sets each outlet's drawn water and totals to 0': its cell and its want stay
abbrev pub cleared_outlet : Outlet → Outlet
cleared_outlet o = record { cell = o.cell; want = o.want; drawn = 0; water = 0; mass = 0 }

unfoldable pub cleared : Outlets → Outlets
cleared os = each_outlet (λ k. cleared_outlet (outlet_at os k)) os

-- one list laid over another: entry by entry as far as both reach, and then what the second has more. It is as long as the second
unfoldable pub over : List Outlet → List Outlet → List Outlet
over front back = take (length back) front ++ drop (length front) back

-- a lent list by value: the count is its length, above 32 too; its first 32 outlets, and none after them
abbrev pub loaded : List Outlet → Outlets
loaded os = record { count = length os; list = over os (replicate outlets_most no_outlet) }
