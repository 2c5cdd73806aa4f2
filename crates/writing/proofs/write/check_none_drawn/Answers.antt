-- `writing::write::check_none_drawn` meets its contract. The loop: the outlets passed have drawn nothing. Assumes nothing.
use mathlib.Core.Path.{◌≡◌}
use native.Mathlib.Omega.{arith}
use borrow.Author.Rules.{rules}
use borrow.Author.Tests.{eq-eqb, ne_eqb}
use Rattle.numbers.proofs.IndexLaws.{all_none, all_more, all_fails}
use Rattle.reach.proofs.GroundsLaws.{passes, refuses}
use Rattle.writing.specs.Writing.{none_drawn}
use Rattle.reach.specs.declared.refusal.Refusal.TheVariants as refusal
use Rattle.writing.proofs.write.check_none_drawn.Goals as goal

pub loop-k-init : goal.loop-k-init
loop-k-init c = all_none _

pub returns-then-outlets-k-ne0 : goal.returns-then-outlets-k-ne0
unfolding none_drawn
returns-then-outlets-k-ne0 c =
    let l = c.loop-k in
    refuses refusal.NotTransported (all_fails _ _ l.k (search rules) (ne_eqb _ _ c.if-outlets-k-ne0.true))

pub loop-k-preserved : goal.loop-k-preserved
loop-k-preserved c =
    let l = c.loop-k in
    all_more _ l.k l.invariant (eq-eqb _ _ c.if-outlets-k-ne0.false)

pub returns : goal.returns
unfolding none_drawn
returns c =
    let l = c.loop-k in
    let e : l.k ≡ c.args.outlets.count = omega arith in
    passes refusal.NotTransported (rw e at l.invariant)
