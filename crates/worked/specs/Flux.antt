-- Document 01, 'A water step': velocity (its 'speed') and fluxes (its 'crossing amounts') of one side, worked out where every floor cuts something off.
-- Depth 199,900 micrometres, X 1,030 mm, t 70 ms. h·t / (1,000·X) is 13,993,000 / 1,030,000, 13 and a rest.
use Rattle.std.specs.Prelude.{◌≡◌, pos, neg_ℤ}
use Rattle.flux.specs.Wave.{wave_speed}
use Rattle.flux.specs.Velocity.{velocity}
use Rattle.flux.specs.Crossing.{upper, lower, water_flux, second_moment, momentum_flux, still_thrust}

pub record FluxWorked : Type 0 where
  -- u of discharge −3 over depth 2: −1.5 cut towards zero is −1; the floor is −2
  pub velocity_cut : velocity 2 (neg_ℤ (pos 3)) ≡ neg_ℤ (pos 1)
  -- 14,709,975·199,900 / 1,000,000 is 2,940,524; 1,715² is 2,941,225, 1,714² is 2,937,796
  pub wave : wave_speed 199_900 ≡ 1_715
  -- u = 2,000: A = 3,715, B = 285. W = floor(13,993,000·(3,715²−285²) / (4,000·1,715·1,030)) = floor(191,983,960,000,000 / 7,065,800,000)
  pub A_fast : upper 1_715 (pos 2_000) ≡ 3_715
  pub B_fast : lower 1_715 (pos 2_000) ≡ 285
  pub W_fast : water_flux 70 1_030 199_900 (pos 2_000) ≡ 27_170
  -- K = floor(u² + a²/3) = floor(4,980,408.33); Q = floor(13,993,000·4,980,408 / 1,030,000). With h·t / (1,000·X) floored first Q is
  -- 13·4,980,408 = 64,745,304, with one floor for K and Q 67,661,023
  pub K_fast : second_moment 1_715 3_715 285 ≡ 4_980_408
  pub Q_fast : momentum_flux 70 1_030 199_900 (pos 2_000) ≡ 67_661_018
  -- u = −1,000: A = 715, B = 0. W = floor(13,993,000·715² / 7,065,800,000), K = floor(715³ / 10,290); the other two floors give Q 461,786
  -- and 482,587
  pub A_against : upper 1_715 (neg_ℤ (pos 1_000)) ≡ 715
  pub B_against : lower 1_715 (neg_ℤ (pos 1_000)) ≡ 0
  pub W_against : water_flux 70 1_030 199_900 (neg_ℤ (pos 1_000)) ≡ 1_012
  pub K_against : second_moment 1_715 715 0 ≡ 35_522
  pub Q_against : momentum_flux 70 1_030 199_900 (neg_ℤ (pos 1_000)) ≡ 482_581
  -- u = −2,000: all of it goes the other way
  pub W_away : water_flux 70 1_030 199_900 (neg_ℤ (pos 2_000)) ≡ 0
  pub Q_away : momentum_flux 70 1_030 199_900 (neg_ℤ (pos 2_000)) ≡ 0
  -- S: K = floor(1,715² / 6) = 490,204, and twice floor(13,993,000·490,204 / 1,030,000); doubled before the floor it is 13,319,271
  pub S_still : still_thrust 70 1_030 199_900 ≡ 13_319_270
