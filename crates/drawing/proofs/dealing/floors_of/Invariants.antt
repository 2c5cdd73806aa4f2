use mathlib.Core.Path.{◌≡◌}
use lib.ListN.{length}
use Rattle.numbers.specs.Index.{tabulate}
use Rattle.numbers.proofs.IndexLaws.{Written}
use Rattle.drawing.specs.Ranges.{floor_at}
use Rattle.drawing.proofs.DealingLaws.{left_after}
use Rattle.drawing.proofs.dealing.floors_of.Given as goal

abbrev pub invariant-loop-k : goal.invariant-loop-k
invariant-loop-k l = (l.left ≡ tabulate (length l.initial.left) (left_after l.fn.outlets l.wanted l.granted l.k))
    × Written 0 (floor_at l.fn.outlets l.wanted l.granted) l.initial.floors l.k l.floors
