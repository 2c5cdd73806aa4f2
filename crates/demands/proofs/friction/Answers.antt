use Rattle.demands.proofs.FrictionLaws.{friction_is, without_friction}
use Rattle.demands.proofs.friction.Goals as goal

pub returns : goal.returns
returns c = record { friction = friction_is; without_friction = without_friction }
