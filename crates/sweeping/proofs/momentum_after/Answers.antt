-- `sweeping::momentum_after` meets its contract. Assumes nothing.
use mathlib.Core.Path.{sym}
use Rattle.water.proofs.WaterLaws.{nearest_dry}
use Rattle.sweeping.proofs.momentum_after.Goals as goal

-- no water, no discharge
pub returns-then-depth-eq0 : goal.returns-then-depth-eq0
returns-then-depth-eq0 c = sym (nearest_dry c.args.depth _ c.if-depth-eq0.true)
