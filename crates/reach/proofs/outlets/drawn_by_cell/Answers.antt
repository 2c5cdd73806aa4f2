-- `reach::outlets::drawn_by_cell` meets its contract. Assumes nothing.
use mathlib.Core.Path.{◌≡◌, refl, ◌∙◌}
use mathlib.Core.List.{List}
use Prim.Native.Nat.{ℕ, ◌+◌, ◌<◌, ◌≤◌, min}
use native.Mathlib.Nat.{zero-add}
use native.Mathlib.Omega.{arith}
use lib.ListN.{length, get_or}
use Rattle.numbers.specs.Index.{tabulate}
use Rattle.numbers.proofs.IndexLaws.{get_or_tabulate, tabulate_same}
use Rattle.outlet.specs.Outlets.{outlet_at}
use Rattle.outlet.specs.declared.Outlets.{Outlets}
use Rattle.drawing.specs.Ranges.{by_cell}
use Rattle.drawing.proofs.DrawingLaws.{none_added}
use Rattle.reach.specs.Ranges.{cut_drawn}
use Rattle.reach.proofs.outlets.drawn_by_cell.Goals as goal

-- added to zeros
from_zeros : (os : Outlets) (column a : List ℕ) → ((i : ℕ) → get_or column i 0 ≡ 0) → a ≡ tabulate 32 (λ k. min (outlet_at os k).drawn 4_000_001)
    → tabulate (length column) (λ i. get_or column i 0 + by_cell os a i) ≡ tabulate (length column) (cut_drawn os)
from_zeros os column a z e = tabulate_same (length column) _ _ (λ i l. rw (z i, e) (zero-add (cut_drawn os i)))

small : (os : Outlets) (k : ℕ) → k < 32 → get_or (tabulate 32 (λ k. min (outlet_at os k).drawn 4_000_001)) k 0 ≤ 1_000_000_000
small os k l = rw (get_or_tabulate 32 (λ k. min (outlet_at os k).drawn 4_000_001) k 0 l) (omega arith)

pub returns-then-outlets-eq0 : goal.returns-then-outlets-eq0
returns-then-outlets-eq0 c =
    none_added c.args.outlets c.args.column.now _ c.if-outlets-eq0.true ∙ from_zeros c.args.outlets c.args.column.now _ c.requires.by_index_2 refl

pub add_by_cell-requires-clause-by_index : goal.add_by_cell-requires-clause-by_index
add_by_cell-requires-clause-by_index c =
    let a = c.drawn_of-amounts.ensures in
    (λ k l. (c.requires.by_index k l, rw a (small c.args.outlets k (omega (arith, l, c.requires.count_le_outlets_most)))))
