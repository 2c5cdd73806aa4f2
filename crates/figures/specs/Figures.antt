-- Document 01, 'Figures to meet': the starred figures, in one table, with the wave speed of document 02, point 3, three of the list of its point 4, and the ends of its point 5. Depths in micrometres, X in mm, t in ms.
use Rattle.std.specs.Prelude.{◌≡◌, [], ◌∷◌, ℕ, ◌+◌, pos, neg_ℤ}
use Rattle.numbers.specs.Shares.{shares, rest}
use Rattle.flux.specs.Wave.{wave_speed}
use Rattle.flux.specs.Crossing.{upper, lower, water_flux, momentum_flux}
use Rattle.friction.specs.Friction.{four_thirds}

pub record Figures : Type 0 where
  -- a(0) = 0, a(1) = 4, a(100,000) = 1,213, a(1,000,000) = 3,836, a(4,000,000) = 7,671
  pub a_dry : wave_speed 0 ≡ 0
  pub a_1 : wave_speed 1 ≡ 4
  pub a_100_000 : wave_speed 100_000 ≡ 1_213
  pub a_1_000_000 : wave_speed 1_000_000 ≡ 3_836
  pub a_4_000_000 : wave_speed 4_000_000 ≡ 7_671
  -- X 1,000, t 100: W(1,000,000, 0) = 95,900; Q = 245,248,200; W(100,000, 0) = 3,032
  pub W_1_000_000 : water_flux 100 1_000 1_000_000 (pos 0) ≡ 95_900
  pub Q_1_000_000 : momentum_flux 100 1_000 1_000_000 (pos 0) ≡ 245_248_200
  pub W_100_000 : water_flux 100 1_000 100_000 (pos 0) ≡ 3_032
  -- b 2, m 1, R = L = 1: shares 0 and 1, none stays
  pub shares_of_1 : shares 1 2 0 (1 ∷ 1 ∷ []) ≡ 0 ∷ 1 ∷ []
  pub none_stays : rest 1 2 (1 + 1) ≡ 0
  -- the greatest r with r³ ≤ 1,000·k⁴: 10³ = 1,000; 4,641³ = 99,961,946,721 ≤ 100,000,000,000 < 4,642³; 29,472³ ≤ 25,600,000,000,000 < 29,473³
  pub r_1 : four_thirds 1 ≡ 10
  pub r_100 : four_thirds 100 ≡ 4_641
  pub r_400 : four_thirds 400 ≡ 29_472
  -- the larger of x and 0, at both ends of ±16,000 and about 0: A of x = u+a, B of x = u−a
  pub A_most : upper 8_000 (pos 8_000) ≡ 16_000
  pub A_1 : upper 8_000 (neg_ℤ (pos 7_999)) ≡ 1
  pub A_0 : upper 8_000 (neg_ℤ (pos 8_000)) ≡ 0
  pub A_below_0 : upper 7_999 (neg_ℤ (pos 8_000)) ≡ 0
  pub B_1 : lower 7_999 (pos 8_000) ≡ 1
  pub B_0 : lower 8_000 (pos 8_000) ≡ 0
  pub B_below_0 : lower 8_000 (pos 7_999) ≡ 0
  pub B_least : lower 8_000 (neg_ℤ (pos 8_000)) ≡ 0
