use mathlib.Core.Path.{◌≡◌}
use Prim.Native.Nat.{◌+◌}
use lib.ListN.{length, get_or}
use Rattle.numbers.specs.Index.{tabulate}
use Rattle.numbers.proofs.IndexLaws.{Written}
use Rattle.drawing.specs.Ranges.{unit_at}
use Rattle.drawing.proofs.DealingLaws.{units_after}
use Rattle.drawing.proofs.dealing.hand_out.Given as goal

abbrev pub invariant-loop-k : goal.invariant-loop-k
invariant-loop-k l = (l.left ≡ tabulate (length l.initial.left) (units_after l.fn.outlets l.initial.left l.k))
    × Written 0 (λ j. get_or l.initial.floors j 0 + unit_at l.fn.outlets l.initial.left j) l.initial.floors l.k l.floors
