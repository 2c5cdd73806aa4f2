-- `reach::outlets::check_outlets` meets its contract. The loop: the outlets passed fit. Assumes nothing.
use mathlib.Core.Path.{◌≡◌, sym, ◌∙◌}
use native.Mathlib.Omega.{arith}
use borrow.Author.Rules.{rules}
use borrow.Author.Tests.{le-leb, lt-leb}
use Rattle.numbers.proofs.IndexLaws.{on, off, only, all_none, all_more, all_fails}
use Rattle.reach.specs.Grounds.{outlets_fit}
use Rattle.reach.specs.declared.refusal.Refusal.TheVariants as refusal
use Rattle.reach.proofs.GroundsLaws.{passes, refuses}
use Rattle.reach.proofs.outlets.check_outlets.Goals as goal

pub returns-then-outlets-gt-OUTLETS_MOST : goal.returns-then-outlets-gt-OUTLETS_MOST
unfolding outlets_fit
returns-then-outlets-gt-OUTLETS_MOST c = refuses refusal.Outlets (off _ _ (lt-leb _ _ c.if-outlets-gt-OUTLETS_MOST.true))

pub loop-k-init : goal.loop-k-init
loop-k-init c = all_none _

pub returns-then-not-outlet_fits : goal.returns-then-not-outlet_fits
unfolding outlets_fit
returns-then-not-outlet_fits c =
    refuses refusal.Outlets (on _ _ (le-leb _ _ c.if-outlets-gt-OUTLETS_MOST.false) (only _ ∙ all_fails _ _ c.loop-k.k (search rules) (sym c.outlet_fits.ensures ∙ c.if-not-outlet_fits.true)))

pub loop-k-preserved : goal.loop-k-preserved
loop-k-preserved c =
    let l = c.loop-k in
    all_more _ l.k l.invariant (sym c.outlet_fits.ensures ∙ c.if-not-outlet_fits.false)

pub returns : goal.returns
unfolding outlets_fit
returns c =
    let e : c.loop-k.k ≡ c.args.outlets.count = omega arith in
    passes refusal.Outlets (on _ _ (le-leb _ _ c.if-outlets-gt-OUTLETS_MOST.false) (only _ ∙ (rw e at c.loop-k.invariant)))
