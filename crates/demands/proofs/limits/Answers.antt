use Rattle.demands.proofs.LimitsLaws.{limits, lists}
use Rattle.demands.proofs.limits.Goals as goal

pub returns : goal.returns
returns c = record { limits = limits; lists = lists }
