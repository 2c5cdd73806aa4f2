use mathlib.Core.Path.{◌≡◌}
use mathlib.Core.Bool.{true}
use Rattle.numbers.specs.Index.{all_below}
use Rattle.outlet.specs.Outlets.{outlet_at}
use Rattle.reach.specs.Grounds.{outlet_totals_fit}
use Rattle.reach.proofs.outlets.each_totals_fit.Given as goal

abbrev pub invariant-loop-k : goal.invariant-loop-k
invariant-loop-k l = (all_below l.k (λ j. outlet_totals_fit (outlet_at l.outlets j)) ≡ true)
