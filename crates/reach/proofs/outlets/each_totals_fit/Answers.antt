-- `reach::outlets::each_totals_fit` meets its contract. The loop: the totals passed fit. Assumes nothing.
use mathlib.Core.Path.{sym, ◌∙◌}
use borrow.Author.Rules.{rules}
use Rattle.numbers.proofs.IndexLaws.{all_none, all_more, all_fails}
use Rattle.reach.proofs.outlets.each_totals_fit.Goals as goal

pub loop-k-init : goal.loop-k-init
loop-k-init c = all_none _

pub returns-then-not-outlet_totals_fit : goal.returns-then-not-outlet_totals_fit
returns-then-not-outlet_totals_fit c =
    sym (all_fails _ _ c.loop-k.k (search rules) (sym c.outlet_totals_fit.ensures ∙ c.if-not-outlet_totals_fit.true))

pub loop-k-preserved : goal.loop-k-preserved
loop-k-preserved c =
    let l = c.loop-k in
    all_more _ l.k l.invariant (sym c.outlet_totals_fit.ensures ∙ c.if-not-outlet_totals_fit.false)
