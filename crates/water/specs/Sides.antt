-- Document 01, 'A water step': what stands on either side of each interface of a record.
use Rattle.std.specs.Prelude.{cond, ℕ, zero, suc, ◌+◌, ◌-◌, eqb, ltb, nat_abs}
use Rattle.flux.specs.Interface.{Side, mirrored}
use Rattle.flux.specs.Velocity.{velocity}
use Rattle.flux.specs.Wave.{wave_speed}
use Rattle.reach.specs.Limits.{wall, open_boundary}
use Rattle.reach.specs.Reach.{Reach, cells, bed_at, depth_at, discharge_at, left_boundary, right_boundary}
use Rattle.reach.specs.declared.boundary.Boundary.{Boundary}
use Rattle.reach.specs.declared.boundary.BoundaryPlace.{BoundaryPlace}
use Rattle.reach.specs.declared.boundary.BoundaryPlace.TheVariants.{Left, Right}

-- cell i
unfoldable pub cell_side : Reach → ℕ → Side
cell_side s i = record { bed = bed_at s i; depth = depth_at s i; velocity = velocity (depth_at s i) (discharge_at s i) }

-- a boundary (the paper's 'end') at the place p beside the cell c: it has the bed of its cell; a wall mirrors the cell (h, speed −u), an
-- open one copies it, a fed one uses its own depth and speed
unfoldable pub boundary_side : BoundaryPlace → Boundary → Side → Side
boundary_side p e c =
    cond (eqb e.kind wall) (mirrored c)
    (cond (eqb e.kind open_boundary) c (record { bed = c.bed; depth = e.depth; velocity = velocity e.depth e.discharge }))

-- |u|+a of a side
unfoldable pub side_speed : Side → ℕ
side_speed c = nat_abs c.velocity + wave_speed c.depth

-- the left and the right side of interface i
unfoldable pub left_side : Reach → ℕ → Side
left_side s zero = boundary_side Left (left_boundary s.held.boundaries) (cell_side s 0)
left_side s (suc i) = cell_side s i

unfoldable pub right_side : Reach → ℕ → Side
right_side s i = cond (ltb i (cells s)) (cell_side s i) (boundary_side Right (right_boundary s.held.boundaries) (cell_side s (cells s - 1)))
