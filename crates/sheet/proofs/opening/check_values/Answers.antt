-- `sheet::opening::check_values` meets its contract. Assumes nothing.
use mathlib.Core.Path.{sym, ◌∙◌}
use borrow.Author.Rules.{rules}
use Rattle.numbers.proofs.IndexLaws.{all_none, all_more, all_fails}
use Rattle.reach.proofs.GroundsLaws.{refuses}
use Rattle.reach.specs.declared.refusal.Refusal.TheVariants as refusal
use Rattle.sheet.proofs.opening.check_values.Goals as goal

pub loop-i-init : goal.loop-i-init
loop-i-init c = all_none _

pub returns-then-not-cell_at : goal.returns-then-not-cell_at
returns-then-not-cell_at c =
    refuses refusal.Values (all_fails _ _ c.loop-i.i (search rules) (sym c.cell_at.ensures ∙ c.if-not-cell_at.true))

pub loop-i-preserved : goal.loop-i-preserved
loop-i-preserved c =
    let l = c.loop-i in
    all_more _ l.i l.invariant (sym c.cell_at.ensures ∙ c.if-not-cell_at.false)
