use Prim.Native.Nat.{◌+◌}
use lib.ListN.{get_or}
use Rattle.numbers.proofs.IndexLaws.{Written}
use Rattle.outlet.specs.Outlets.{no_outlet, outlet_at}
use Rattle.tally.specs.Call.{wanting_outlet}
use Rattle.script.proofs.words.wanting_from.Given as goal

abbrev pub invariant-loop-k : goal.invariant-loop-k
invariant-loop-k l = Written no_outlet (λ i. wanting_outlet (get_or l.words (l.at + i) 0) (outlet_at l.fn.outlets i)) l.initial.o-items l.k l.o-items
