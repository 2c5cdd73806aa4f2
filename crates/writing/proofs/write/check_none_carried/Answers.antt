-- `writing::write::check_none_carried` meets its contract. Assumes nothing.
use borrow.Author.Rules.{rules}
use Rattle.numbers.proofs.IndexLaws.{all_none, all_more, all_fails}
use Rattle.reach.proofs.GroundsLaws.{passes, refuses}
use Rattle.reach.specs.declared.refusal.Refusal.TheVariants as refusal
use Rattle.writing.specs.Writing.{none_carried}
use Rattle.writing.proofs.write.check_none_carried.Goals as goal

pub loop-c-init : goal.loop-c-init
loop-c-init c = all_none _

pub returns-then-c-ne0 : goal.returns-then-c-ne0
unfolding none_carried
returns-then-c-ne0 c =
    refuses refusal.NotTransported (all_fails _ _ c.loop-c.c-index (search rules) (search rules))

pub loop-c-preserved : goal.loop-c-preserved
loop-c-preserved c =
    let l = c.loop-c in
    all_more _ l.c-index l.invariant (search rules)

pub returns : goal.returns
unfolding none_carried
returns c = passes refusal.NotTransported (search rules)
