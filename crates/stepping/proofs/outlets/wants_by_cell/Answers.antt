-- `stepping::outlets::wants_by_cell` meets its contract. Assumes nothing.
use mathlib.Core.Path.{◌≡◌, refl, sym, ◌∙◌}
use mathlib.Core.List.{List}
use Prim.Native.Nat.{ℕ, ◌+◌, ◌<◌, ◌≤◌}
use native.Mathlib.Nat.{zero-add}
use native.Mathlib.Omega.{arith}
use lib.ListN.{length, get_or}
use Rattle.numbers.specs.Index.{sum, tabulate}
use Rattle.numbers.proofs.IndexLaws.{get_or_tabulate, tabulate_same}
use Rattle.outlet.specs.Outlets.{outlets_most, outlet_at}
use Rattle.outlet.specs.declared.Outlets.{Outlets}
use Rattle.drawing.specs.Ranges.{by_cell}
use Rattle.drawing.proofs.DrawingLaws.{none_added, sum_from_cell}
use Rattle.water.specs.Water.{wants_from}
use Rattle.stepping.proofs.outlets.wants_by_cell.Goals as goal

want_at_lem : (os : Outlets) (a : List ℕ) → a ≡ tabulate 32 (λ k. (outlet_at os k).want) → (k : ℕ) → k < 32 → get_or a k 0 ≡ (outlet_at os k).want
want_at_lem os a e k l = rw e (get_or_tabulate 32 (λ k. (outlet_at os k).want) k 0 l)

-- added to zeros
from_zeros : (os : Outlets) (column a : List ℕ) → os.count ≤ outlets_most → ((i : ℕ) → get_or column i 0 ≡ 0) → a ≡ tabulate 32 (λ k. (outlet_at os k).want)
    → tabulate (length column) (λ i. get_or column i 0 + by_cell os a i) ≡ tabulate (length column) (λ i. sum (wants_from os i))
from_zeros os column a few z e =
    tabulate_same (length column) _ _
    (λ i l. rw (z i) (zero-add (by_cell os a i)) ∙ sym (sum_from_cell os (λ o. o.want) a (λ k q. want_at_lem os a e k (omega (arith, q, few))) i))

pub returns-then-held-eq0 : goal.returns-then-held-eq0
returns-then-held-eq0 c =
    none_added c.args.held.outlets c.args.column.now _ c.if-held-eq0.true ∙ from_zeros c.args.held.outlets c.args.column.now _ c.requires.count_le_outlets_most c.requires.by_index_2 refl

pub returns : goal.returns
returns c =
    c.add_by_cell.ensures ∙ from_zeros c.args.held.outlets c.args.column.now _ c.requires.count_le_outlets_most c.requires.by_index_2 c.wants_of-amounts.ensures

pub add_by_cell-requires-clause-by_index : goal.add_by_cell-requires-clause-by_index
add_by_cell-requires-clause-by_index c =
    let p = c.requires.by_index in
    (λ k l. ((p k l).0, omega (arith, want_at_lem c.args.held.outlets _ c.wants_of-amounts.ensures k (omega (arith, l, c.requires.count_le_outlets_most)), (p k l).1)))
