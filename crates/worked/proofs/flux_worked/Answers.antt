-- `worked::flux_worked` meets its contract: every value is computed from the definitions. Assumes nothing.
use mathlib.Core.Path.{refl}
use Rattle.numbers.specs.Search.{climb, least_reaching}
use Rattle.flux.specs.Crossing.{upper, lower, water_of, water_flux, second_moment, momentum_of, momentum_flux, still_thrust}
use Rattle.flux.specs.Velocity.{velocity}
use Rattle.flux.specs.Wave.{wave_speed}
use Rattle.worked.proofs.flux_worked.Goals as goal

pub returns : goal.returns
unfolding climb least_reaching upper lower water_of water_flux second_moment momentum_of momentum_flux still_thrust velocity wave_speed
returns c =
    record {
      velocity_cut = refl;
      wave = refl;
      A_fast = refl;
      B_fast = refl;
      W_fast = refl;
      K_fast = refl;
      Q_fast = refl;
      A_against = refl;
      B_against = refl;
      W_against = refl;
      K_against = refl;
      Q_against = refl;
      W_away = refl;
      Q_away = refl;
      S_still = refl;
    }
