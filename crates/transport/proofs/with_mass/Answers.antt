-- `transport::with_mass` meets its contract. Assumes nothing.
use mathlib.Core.Path.{refl}
use Rattle.transport.specs.Calls.{with_mass}
use Rattle.transport.proofs.with_mass.Goals as goal

pub returns : goal.returns
unfolding with_mass
returns c = refl
