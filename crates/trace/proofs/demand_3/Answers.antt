use Rattle.trace.proofs.TraceLaws.{demand_3}
use Rattle.trace.proofs.demand_3.Goals as goal

pub returns : goal.returns
returns c = demand_3
