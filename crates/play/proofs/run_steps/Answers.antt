-- `play::run_steps` meets its contract: the steps that are left of the record at hand are those of the first. Assumes nothing.
use mathlib.Core.Path.{◌≡◌, sym, ap, ◌∙◌}
use borrow.Author.Rules.{rules}
use Rattle.reach.specs.Reach.{Reach, reach_of}
use Rattle.reach.specs.Outcome.{Outcome}
use Rattle.update.specs.Step.{step}
use Rattle.stepping.proofs.StepCallLaws.{left_by_step}
use Rattle.play.proofs.PlayLaws.{steps_on, steps_stop, steps_done}
use Rattle.play.proofs.run_steps.Goals as goal
use Rattle.play.proofs.run_steps.Goals.{At-loop-i}

-- the record at hand
abbrev reach : At-loop-i → Reach
reach c =
    let l = c.loop-i in
    reach_of c.args.bed.now l.depth l.discharge l.mass l.base l.carried c.args.x l.last

pub returns-then-r-ne0 : goal.returns-then-r-ne0
returns-then-r-ne0 c =
    let s = reach (goal.at.returns-then-r-ne0 c).At-loop-i in
    let t = c.args.t in
    let e = c.step-r.ensures.refusal_is in
    let n : (step s t 0).refusal ≡ 0 → ⊥ = λ z. c.if-r-ne0.true (e ∙ z) in
    let o = c.loop-i.invariant.0 ∙ steps_stop c.args.count c.loop-i.i t s c.loop-i-test.true n in
    record {
      refusal_is = e ∙ ap (λ (o : Outcome). o.refusal) (sym o);
      reach_is = left_by_step s t 0 c.step-r.ensures ∙ ap (λ (o : Outcome). o.reach) (sym o);
    }

pub loop-i-preserved : goal.loop-i-preserved
loop-i-preserved c =
    let s = reach (goal.at.loop-i-preserved c).At-loop-i in
    let t = c.args.t in
    let l = c.loop-i-test.true in
    let f = c.step-r in
    let e = sym f.ensures.refusal_is ∙ c.if-r-ne0.false in (
      c.loop-i.invariant.0 ∙ steps_on c.args.count c.loop-i.i t s _ l e (left_by_step s t 0 f.ensures),
      f.auto.depth ∙ c.loop-i.invariant.1,
      f.auto.discharge ∙ c.loop-i.invariant.2,
      f.auto.mass ∙ c.loop-i.invariant.3,
      f.auto.base ∙ c.loop-i.invariant.4,
      f.auto.carried ∙ c.loop-i.invariant.5,
    )

pub returns : goal.returns
returns c =
    let o = c.loop-i.invariant.0 ∙ steps_done c.args.count c.loop-i.i c.args.t (reach (goal.at.returns c).At-loop-i) (search rules) c.loop-i-test.false in
    record {
      refusal_is = ap (λ (o : Outcome). o.refusal) (sym o);
      reach_is = ap (λ (o : Outcome). o.reach) (sym o);
    }
