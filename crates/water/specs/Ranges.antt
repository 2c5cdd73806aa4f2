-- Not the paper's: what the inner functions require and give. A reader of the model may skip this file.
use Rattle.std.specs.Prelude.{◌≡◌, Bool, ◌&&◌, List, [], ℕ, suc, ◌-◌, ◌*◌, ◌≤◌, ◌<◌, min, leb, ℤ, pos, ◌-ℤ◌, nat_abs, neg_ℤ, length, get_or}
use Rattle.std.proofs.Math.IntN.{sub_ℕ}
use Rattle.numbers.specs.Index.{all_below}
use Rattle.numbers.specs.Signed.{positive}
use Rattle.outlet.specs.Outlets.{no_outlets}
use Rattle.flux.specs.Limits.{bed_most, depth_most, velocity_most}
use Rattle.flux.specs.Crossing.{water_flux, still_thrust}
use Rattle.flux.specs.Interface.{Side, left_depth, right_depth, momentum_sum}
use Rattle.friction.specs.Friction.{centimetres, table_most, slowed}
use Rattle.reach.specs.Reach.{Reach, reach_of, cells, bed_at, depth_at, discharge_at, left_boundary, right_boundary, held_with}
use Rattle.reach.specs.declared.boundary.Boundary.{Boundary}
use Rattle.reach.specs.declared.ledger.Totals.{Totals}
use Rattle.water.specs.Sides.{cell_side, side_speed, left_side, right_side}
use Rattle.water.specs.Water.{net_at, available, undrawn_depth, pushed, nearest}
use Rattle.water.specs.declared.sides.SideState.{SideState}

-- the side that a cell is
abbrev pub side_of : SideState → Side
side_of c = record { bed = c.bed; depth = c.depth; velocity = sub_ℕ c.right c.left }

-- what crosses an interface between l and r: both W, P, and what the bed takes of either side's S
pub record ExchangeOf (t X : ℕ) (l r : Side) (rightward leftward momentum lostLeft lostRight : ℕ) : Type 0 where
  pub rightward_is : rightward ≡ water_flux t X (left_depth l r) l.velocity
  pub leftward_is : leftward ≡ water_flux t X (right_depth l r) (neg_ℤ r.velocity)
  pub momentum_is : momentum ≡ momentum_sum t X l r
  pub lost_left_is : lostLeft ≡ still_thrust t X l.depth - still_thrust t X (left_depth l r)
  pub lost_right_is : lostRight ≡ still_thrust t X r.depth - still_thrust t X (right_depth l r)

-- ---- a whole reach

-- a record of which a step reads the water alone: what it holds besides does not matter (`swept_same`)
abbrev pub flow_of : List ℤ → List ℕ → List ℤ → ℕ → List Boundary → Reach
flow_of z h q X es =
    let none : Totals = record { water_in = 0; water_out = 0; mass_in = 0; mass_out = 0 } in
    reach_of z h q [] [] [] X (held_with es (record { left = none; right = none }) no_outlets)

-- bed level, depth and discharge in range
abbrev pub InRange : ℤ → ℕ → ℤ → Type 0
InRange z h q = (nat_abs z ≤ bed_most) × ((h ≤ depth_most) × (nat_abs q ≤ velocity_most * h))

-- what the sweep requires of a record's water
pub record FlowFits (s : Reach) : Type 0 where
  pub some : 1 ≤ cells s
  -- far above any reach: an index fits its type
  pub few : cells s ≤ 1_000_000
  pub depths : length s.depth ≡ cells s
  pub discharges : length s.discharge ≡ cells s
  pub cell : (i : ℕ) → i < cells s → InRange (bed_at s i) (depth_at s i) (discharge_at s i)
  pub left : ((left_boundary s.held.boundaries).depth ≤ depth_most) × (nat_abs (left_boundary s.held.boundaries).discharge ≤ velocity_most * (left_boundary s.held.boundaries).depth)
  pub right : ((right_boundary s.held.boundaries).depth ≤ depth_most) × (nat_abs (right_boundary s.held.boundaries).discharge ≤ velocity_most * (right_boundary s.held.boundaries).depth)

-- |u|+a of a side meets CFL
unfoldable pub side_meets : (t X : ℕ) → Side → Bool
side_meets t X s = leb (t * side_speed s) (1_000 * X)

-- of every side: the left boundary, each cell, the right boundary. A wall and an open boundary show their cell's speed, so that they add nothing
unfoldable pub sides_meet : Reach → (t : ℕ) → Bool
sides_meet s t = side_meets t s.cell_length (left_side s 0) && all_below (suc (cells s)) (λ i. side_meets t s.cell_length (right_side s i))

-- what a cell gives of `wanted`, and the depth and the discharge that it then has; with the wants of its outlets these are `draws`, `new_depth` and,
-- where the depth is in range, `new_discharge` (`granted_is`, `depth_is`, `discharge_is`)
unfoldable pub granted : Reach → (t wanted i : ℕ) → ℕ
granted s t wanted i = min (positive (available s t i)) wanted

unfoldable pub granted_depth : Reach → (t wanted i : ℕ) → ℤ
granted_depth s t wanted i = undrawn_depth s t i -ℤ pos (granted s t wanted i)

-- (k up to 400: a greater one is of a depth that ground 12 refuses)
unfoldable pub granted_discharge : Reach → (t F wanted i : ℕ) → ℤ
granted_discharge s t F wanted i =
    let h = positive (granted_depth s t wanted i) in
    nearest (velocity_most * h) (slowed F t (nat_abs (cell_side s i).velocity) (min (centimetres h) table_most) (pushed s t i))

-- what the sweep gives: N at each interface; what each cell gives of the wants; and depth and discharge of each cell after the step
pub record Swept (s : Reach) (t F : ℕ) (wanted : List ℕ) (net : List ℤ) (given depth : List ℕ) (discharge : List ℤ) : Type 0 where
  pub nets : (i : ℕ) → i ≤ cells s → get_or net i (pos 0) ≡ net_at s t i
  pub grants : (i : ℕ) → i < cells s → get_or given i 0 ≡ granted s t (get_or wanted i 0) i
  pub depths : (i : ℕ) → i < cells s → get_or depth i 0 ≡ positive (granted_depth s t (get_or wanted i 0) i)
  pub discharges : (i : ℕ) → i < cells s → get_or discharge i (pos 0) ≡ granted_discharge s t F (get_or wanted i 0) i
