use mathlib.Core.Path.{◌≡◌}
use mathlib.Core.Bool.{true}
use lib.Dec.{eqb}
use Rattle.numbers.specs.Index.{all_below}
use Rattle.outlet.specs.Outlets.{outlet_at}
use Rattle.writing.proofs.write.check_none_drawn.Given as goal

abbrev pub invariant-loop-k : goal.invariant-loop-k
invariant-loop-k l = (all_below l.k (λ j. eqb (outlet_at l.outlets j).drawn 0) ≡ true)
