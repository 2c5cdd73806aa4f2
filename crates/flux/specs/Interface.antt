-- Document 01, 'A water step': an interface between a left side l and a right side r, by hydrostatic reconstruction (Audusse,
-- Bouchut, Bristeau, Klein and Perthame, 2004).
use Rattle.std.specs.Prelude.{ℕ, ◌+◌, ℤ, pos, ◌+ℤ◌, ◌-ℤ◌, neg_ℤ}
use Rattle.numbers.specs.Signed.{positive, maxℤ}
use Rattle.flux.specs.Crossing.{water_flux, momentum_flux}

-- what stands on one side of an interface, a cell or a boundary: bed level z, depth h, velocity u
pub record Side : Type 0 where
  pub bed : ℤ
  pub depth : ℕ
  pub velocity : ℤ

-- h* = max(0, h + z − z*) of a depth h over a bed z, beside a bed w, with z* = max(z, w)
unfoldable pub reduced_depth : (h : ℕ) (z w : ℤ) → ℕ
reduced_depth h z w = positive (pos h +ℤ z -ℤ maxℤ z w)

-- hl* and hr*
unfoldable pub left_depth : (l r : Side) → ℕ
left_depth l r = reduced_depth l.depth l.bed r.bed

unfoldable pub right_depth : (l r : Side) → ℕ
right_depth l r = reduced_depth r.depth r.bed l.bed

-- N = W(hl*,ul) − W(hr*,−ur), water, positive rightwards
unfoldable pub net_water : (t X : ℕ) (l r : Side) → ℤ
net_water t X l r =
    pos (water_flux t X (left_depth l r) l.velocity) -ℤ pos (water_flux t X (right_depth l r) (neg_ℤ r.velocity))

-- P = Q(hl*,ul) + Q(hr*,−ur), the paper's 'push'
unfoldable pub momentum_sum : (t X : ℕ) (l r : Side) → ℕ
momentum_sum t X l r =
    momentum_flux t X (left_depth l r) l.velocity + momentum_flux t X (right_depth l r) (neg_ℤ r.velocity)

-- what a wall shows to the cell beside it: the cell's own bed and depth, its velocity turned round
unfoldable pub mirrored : Side → Side
mirrored s = record { bed = s.bed; depth = s.depth; velocity = neg_ℤ s.velocity }
