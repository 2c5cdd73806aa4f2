-- `figures::figures_met` meets its contract: every figure is computed from the definitions. Assumes nothing.
use mathlib.Core.Path.{refl}
use Rattle.numbers.specs.Search.{climb, least_reaching}
use Rattle.numbers.specs.Shares.{share, shares, rest}
use Rattle.flux.specs.Wave.{wave_speed}
use Rattle.flux.specs.Crossing.{upper, lower, water_of, water_flux, second_moment, momentum_of, momentum_flux}
use Rattle.friction.specs.Friction.{cube_fits, four_thirds}
use Rattle.figures.proofs.figures_met.Goals as goal

pub returns : goal.returns
unfolding four_thirds cube_fits wave_speed climb least_reaching water_flux water_of momentum_flux momentum_of second_moment upper lower shares share rest
returns c =
    record {
      a_dry = refl;
      a_1 = refl;
      a_100_000 = refl;
      a_1_000_000 = refl;
      a_4_000_000 = refl;
      W_1_000_000 = refl;
      Q_1_000_000 = refl;
      W_100_000 = refl;
      shares_of_1 = refl;
      none_stays = refl;
      r_1 = refl;
      r_100 = refl;
      r_400 = refl;
      A_most = refl;
      A_1 = refl;
      A_0 = refl;
      A_below_0 = refl;
      B_1 = refl;
      B_0 = refl;
      B_below_0 = refl;
      B_least = refl;
    }
