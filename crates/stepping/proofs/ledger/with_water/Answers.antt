-- `stepping::ledger::with_water` meets its contract. Assumes nothing.
use mathlib.Core.Path.{refl}
use Rattle.update.specs.Step.{with_water}
use Rattle.stepping.proofs.ledger.with_water.Goals as goal

pub returns : goal.returns
unfolding with_water
returns c = refl
