use mathlib.Core.Path.{◌≡◌}
use lib.ListN.{length}
use Rattle.numbers.specs.Index.{tabulate}
use Rattle.mass.proofs.GainsLaws.{taken_at}
use Rattle.mass.proofs.outlets.take_gains.Given as goal

abbrev pub invariant-loop-k : goal.invariant-loop-k
invariant-loop-k l = l.mass ≡ tabulate (length l.initial.mass) (taken_at l.initial.mass l.fn.old l.fn.new l.k)
