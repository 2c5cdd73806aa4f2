-- `flux::crossing::water_of` meets its contract: each product fits, and the quotient is the definition's. Assumes nothing.
use mathlib.Core.Path.{refl}
use Rattle.flux.specs.Crossing.{water_of}
use Rattle.flux.proofs.crossing.water_of.Goals as goal

pub returns : goal.returns
unfolding water_of
returns c = refl
