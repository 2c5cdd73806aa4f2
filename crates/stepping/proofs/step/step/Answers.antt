-- `stepping::step::step` meets its contract: it stops at grounds 4 to 10 and 17, or goes on to `advance`. Assumes nothing.
use mathlib.Core.Path.{◌≡◌, refl, sym, ap, ◌∙◌}
use mathlib.Core.Bool.{true}
use Rattle.reach.specs.Reach.{Reach, reach_of}
use Rattle.reach.specs.Grounds.{first_refusal, record_grounds}
use Rattle.reach.specs.Grounds.{pass_or}
use Rattle.reach.proofs.GroundsLaws.{passed, refused_by, refusal_of}
use Rattle.update.specs.Step.{time_fits}
use Rattle.stepping.proofs.StepCallLaws.{stays_by, stopped_before, stopped_10, stopped_17}
use Rattle.std.specs.Prelude.{Ok}
use Rattle.reach.specs.declared.refusal.Refusal.TheVariants as refusal
use Rattle.stepping.proofs.step.step.Goals as goal
use Rattle.stepping.proofs.step.step.Goals.{In_default, In_default-check_time, Start}

abbrev reach : Start → Reach
reach s =
    reach_of s.args.bed.now s.args.depth.now s.args.discharge.now s.args.mass.now s.args.base.now s.args.carried.now s.args.x s.args.held

checked : (c : In_default) → first_refusal (record_grounds (reach (goal.at.In_default c).Start) c.args.held.boundaries) ≡ Ok tt
checked c = sym c.check_record.ensures ∙ c.in_default.is

-- ground 10 stood
timely : (c : In_default-check_time) → time_fits c.args.t ≡ true
timely c = passed refusal.TimeStep _ _ c.check_time.ensures c.in_default-check_time.is

pub returns-in-Err : goal.returns-in-Err
returns-in-Err c =
    let r = c.in-Err.r in
    stays_by (reach (goal.at.returns-in-Err c).Start) c.args.t c.args.f r r _ refl c.refused.ensures (stopped_before _ _ _ r (sym c.check_record.ensures ∙ c.in-Err.is))

pub returns-in-Err-check_time : goal.returns-in-Err-check_time
returns-in-Err-check_time c =
    let s = reach (goal.at.returns-in-Err-check_time c).Start in
    stays_by s c.args.t c.args.f refusal.TimeStep _ _ (refusal_of refusal.TimeStep _ _ _ c.check_time.ensures c.in-Err-check_time.is) c.refused-in-Err-check_time.ensures
    (stopped_10 s c.args.t c.args.f (checked (goal.at.returns-in-Err-check_time c).In_default) (refused_by refusal.TimeStep _ _ _ c.check_time.ensures c.in-Err-check_time.is))

pub returns-in-Err-unless : goal.returns-in-Err-unless
returns-in-Err-unless c =
    let s = reach (goal.at.returns-in-Err-unless c).Start in
    let v = c.unless.ensures ∙ ap (pass_or refusal.Strickler) c.strickler_fits.ensures in
    stays_by s c.args.t c.args.f refusal.Strickler _ _ (refusal_of refusal.Strickler _ _ _ v c.in-Err-unless.is) c.refused-in-Err-unless.ensures
    (stopped_17 s c.args.t c.args.f (checked (goal.at.returns-in-Err-unless c).In_default) (timely (goal.at.returns-in-Err-unless c).In_default-check_time) (refused_by refusal.Strickler _ _ _ v c.in-Err-unless.is))
