-- `flux::crossing::second_moment` meets its contract: each product fits, and the quotient is the definition's. Assumes nothing.
use mathlib.Core.Path.{refl}
use Rattle.flux.specs.Crossing.{second_moment}
use Rattle.flux.proofs.crossing.second_moment.Goals as goal

pub returns : goal.returns
unfolding second_moment
returns c = refl
