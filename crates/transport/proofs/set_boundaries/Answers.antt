-- `transport::set_boundaries` meets its contract: `stopped`, or what `transport_under` came to. Assumes nothing.
use mathlib.Core.Path.{refl, sym, ap, ◌∙◌}
use Rattle.reach.specs.Reach.{Reach, reach_of}
use Rattle.transport.proofs.CallsLaws.{stopped}
use Rattle.transport.proofs.set_boundaries.Goals as goal
use Rattle.transport.proofs.set_boundaries.Goals.{Start}

abbrev reach : Start → Reach
reach s =
    reach_of s.args.bed.now s.args.depth.now s.args.discharge.now s.args.mass.now s.args.base.now s.args.carried.now s.args.x s.args.held

pub returns-in-Err : goal.returns-in-Err
returns-in-Err c =
    rw (stopped (reach (goal.at.returns-in-Err c).Start) c.args.given c.in-Err.r (sym c.check_record.ensures ∙ c.in-Err.is))
    (record {
      refusal_is = ap (λ r. r.refusal) c.refused.ensures;
      held_is = ap (λ r. r.held) c.refused.ensures;
      mass_is = refl;
      base_is = refl;
      carried_is = refl;
    })
