-- Document 01, 'A water step', and document 02, points 1 and 4: what a step of t makes of the water of a record, as formulas; whether the step is refused and whether it
-- transports first is another matter.
use Rattle.std.specs.Prelude.{cond, List, ℕ, suc, ◌*◌, ℤ, pos, ◌+ℤ◌, ◌-ℤ◌, neg_ℤ, nat_abs, get_or}
use Rattle.std.specs.Int.Signed.{le_z}
use Rattle.numbers.specs.Deal.{dealt}
use Rattle.numbers.specs.Index.{sum}
use Rattle.numbers.specs.Signed.{positive}
use Rattle.outlet.specs.Outlets.{outlet_at, from_cell}
use Rattle.outlet.specs.declared.Outlets.{Outlets}
use Rattle.flux.specs.Limits.{velocity_most}
use Rattle.flux.specs.Crossing.{water_flux, still_thrust}
use Rattle.flux.specs.Interface.{left_depth, right_depth, net_water, momentum_sum}
use Rattle.friction.specs.Friction.{centimetres, slowed}
use Rattle.reach.specs.Reach.{Reach, depth_at, discharge_at}
use Rattle.water.specs.Sides.{cell_side, left_side, right_side}

-- N and P at interface i
unfoldable pub net_at : Reach → (t i : ℕ) → ℤ
net_at s t i = net_water t s.cell_length (left_side s i) (right_side s i)

unfoldable pub momentum_at : Reach → (t i : ℕ) → ℕ
momentum_at s t i = momentum_sum t s.cell_length (left_side s i) (right_side s i)

-- own h* of cell i at its left and at its right: it is the right side of interface i and the left side of interface i+1
unfoldable pub own_left : Reach → ℕ → ℕ
own_left s i = right_depth (left_side s i) (right_side s i)

unfoldable pub own_right : Reach → ℕ → ℕ
own_right s i = left_depth (left_side s (suc i)) (right_side s (suc i))

-- ---- outlets (document 02, point 1)

-- 'what a cell can give is its old depth less its own two outgoing W', over its right and over its left, in ℤ: that it is never below 0 is a
-- law (`available_is`). W towards a wall counts, inflow does not
unfoldable pub available : Reach → (t i : ℕ) → ℤ
available s t i =
    pos (depth_at s i)
    -ℤ pos (water_flux t s.cell_length (own_right s i) (cell_side s i).velocity)
    -ℤ pos (water_flux t s.cell_length (own_left s i) (neg_ℤ (cell_side s i).velocity))

-- what each outlet wants of cell i, in list order
abbrev pub wants_from : Outlets → (i : ℕ) → List ℕ
wants_from = from_cell (λ o. o.want)

-- what each outlet has of cell i in the step: 'if the wants fit, each has its want; if not, each has floor(available times want / sum of wants), and
-- the units left go singly, in list order, to those with a want above 0'
unfoldable pub draws : Reach → (t i : ℕ) → List ℕ
draws s t i =
    let wants = wants_from s.held.outlets i in
    cond (le_z (pos (sum wants)) (available s t i)) wants (dealt (positive (available s t i)) wants)

-- and outlet k, of its own cell
unfoldable pub draw_of : Reach → (t k : ℕ) → ℕ
draw_of s t k = get_or (draws s t (outlet_at s.held.outlets k).cell) k 0

-- ---- depth and discharge

-- h + N(left) − N(right)
unfoldable pub undrawn_depth : Reach → (t i : ℕ) → ℤ
undrawn_depth s t i = pos (depth_at s i) +ℤ net_at s t i -ℤ net_at s t (suc i)

-- h' = h + N(left) − N(right), less what its outlets draw, in ℤ: that it is never below 0 is a law (`new_depth_is`)
unfoldable pub new_depth : Reach → (t i : ℕ) → ℤ
new_depth s t i = undrawn_depth s t i -ℤ pos (sum (draws s t i))

-- q + P(left) − P(right) + S(own h* at the right) − S(own h* at the left)
unfoldable pub pushed : Reach → (t i : ℕ) → ℤ
pushed s t i =
    discharge_at s i
    +ℤ pos (momentum_at s t i)
    -ℤ pos (momentum_at s t (suc i))
    +ℤ pos (still_thrust t s.cell_length (own_right s i))
    -ℤ pos (still_thrust t s.cell_length (own_left s i))

-- the nearest value to z in −most..most
unfoldable pub nearest : (most : ℕ) (z : ℤ) → ℤ
nearest most z = cond (le_z (pos most) z) (pos most) (cond (le_z z (neg_ℤ (pos most))) (neg_ℤ (pos most)) z)

-- q': friction of the bed (document 02, point 4) 'after the push and before the cut', with Strickler's coefficient F, the old speed and the new depth; then
-- moved to the nearest value in ±8,000·h': 'drawing precedes the cut of the discharge'
unfoldable pub new_discharge : Reach → (t F i : ℕ) → ℤ
new_discharge s t F i =
    let h = positive (new_depth s t i) in
    nearest (velocity_most * h) (slowed F t (nat_abs (cell_side s i).velocity) (centimetres h) (pushed s t i))
