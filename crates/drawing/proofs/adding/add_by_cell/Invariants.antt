use mathlib.Core.Path.{◌≡◌}
use lib.ListN.{length}
use Rattle.numbers.specs.Index.{tabulate}
use Rattle.drawing.proofs.DrawingLaws.{added}
use Rattle.drawing.proofs.adding.add_by_cell.Given as goal

abbrev pub invariant-loop-k : goal.invariant-loop-k
invariant-loop-k l = l.column ≡ tabulate (length l.initial.column) (added l.fn.outlets.list l.amounts l.initial.column l.k)
