use Rattle.numbers.proofs.IndexLaws.{Written}
use Rattle.outlet.specs.Outlets.{no_outlet, cleared_outlet, outlet_at}
use Rattle.outlet.proofs.clearing.clear.Given as goal

abbrev pub invariant-loop-o : goal.invariant-loop-o
invariant-loop-o l = Written no_outlet (λ j. cleared_outlet (outlet_at l.fn.outlets j)) l.initial.o-items l.o-index l.o-items
