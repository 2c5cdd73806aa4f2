use Rattle.numbers.proofs.IndexLaws.{Written}
use Rattle.outlet.specs.Outlets.{no_outlet}
use Rattle.stepping.specs.Ranges.{outlet_with}
use Rattle.stepping.proofs.outlets.draw.Given as goal

abbrev pub invariant-loop-k : goal.invariant-loop-k
invariant-loop-k l = Written no_outlet (outlet_with l.fn.outlets l.got) l.initial.o-items l.k l.o-items
