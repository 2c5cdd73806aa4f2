use Prim.Native.Nat.{◌+◌, ◌*◌}
use Rattle.numbers.proofs.IndexLaws.{Written}
use Rattle.outlet.specs.Outlets.{no_outlet}
use Rattle.script.specs.Script.{outlet_from}
use Rattle.script.proofs.words.outlets_from.Given as goal

abbrev pub invariant-loop-k : goal.invariant-loop-k
invariant-loop-k l = Written no_outlet (λ i. outlet_from l.words (l.at + 1 + 5 * i)) l.initial.o-items l.k l.o-items
