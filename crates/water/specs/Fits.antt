-- Not the paper's: the invariants of a side and of what crosses an interface. A reader of the model may skip this file.
use Rattle.std.specs.Prelude.{◌≡◌, ℕ, ◌+◌, ◌≤◌, ℤ, nat_abs}
use Rattle.std.proofs.Math.IntN.{sub_ℕ}
use Rattle.flux.specs.Limits.{bed_most, depth_most, velocity_most}
use Rattle.flux.specs.Wave.{wave_speed}

-- of a `SideState`: its values are in range, and its wave speed is that of its depth
pub record SideStateFits (z : ℤ) (h a right left : ℕ) : Type 0 where
  pub bed : nat_abs z ≤ bed_most
  pub depth : h ≤ depth_most
  pub wave : a ≡ wave_speed h
  pub right_most : right ≤ velocity_most
  pub left_most : left ≤ velocity_most
  -- one of the two parts is 0
  pub speed : nat_abs (sub_ℕ right left) ≡ right + left

-- bounds of what crosses an interface, far below what 64 bits hold
abbrev pub flux_most : ℕ
flux_most = 640_000_000

abbrev pub thrust_most : ℕ
thrust_most = 20_480_000_000_000

-- of an `Exchange`
pub record ExchangeFits (rightward leftward momentum lost_left lost_right : ℕ) : Type 0 where
  pub rightward_most : rightward ≤ flux_most
  pub leftward_most : leftward ≤ flux_most
  pub momentum_most : momentum ≤ thrust_most
  pub lost_left_most : lost_left ≤ thrust_most
  pub lost_right_most : lost_right ≤ thrust_most
