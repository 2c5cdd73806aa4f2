-- Document 01, 'The greatest step'; document 02, point 2.
use Rattle.std.specs.Prelude.{cond, ℕ, ◌+◌, ◌-◌, eqb, Ok, Err}
use Rattle.cfl.specs.Cfl.{speed_at, greatest_step, fastest_place}
use Rattle.reach.specs.Limits.{fed}
use Rattle.reach.specs.Reach.{Reach, cells, left_boundary, right_boundary}
use Rattle.reach.specs.Refusals.{number}
use Rattle.reach.specs.Grounds.{Verdict, first_refusal, record_grounds}
use Rattle.reach.specs.declared.boundary.Boundary.{Boundary}
use Rattle.reach.specs.declared.boundary.BoundaryPlace.{BoundaryPlace}
use Rattle.reach.specs.declared.boundary.BoundaryPlace.TheVariants.{Left, Right}
use Rattle.reach.specs.declared.held.Held.{Held}
use Rattle.flux.specs.Interface.{Side}
use Rattle.water.specs.Sides.{cell_side, boundary_side, side_speed}
use Rattle.timestep.specs.declared.GreatestAnswer.{GreatestAnswer}

-- |u|+a of a boundary at the place p beside the cell c; one that is not fed counts as 0
unfoldable pub boundary_speed : BoundaryPlace → Boundary → Side → ℕ
boundary_speed p e c = cond (eqb e.kind fed) (side_speed (boundary_side p e c)) 0

unfoldable pub left_speed : Reach → ℕ
left_speed s = boundary_speed Left (left_boundary s.held.boundaries) (cell_side s 0)

unfoldable pub right_speed : Reach → ℕ
right_speed s = boundary_speed Right (right_boundary s.held.boundaries) (cell_side s (cells s - 1))

-- |u|+a by place: 0 the left boundary, 1..n the cells, n+1 the right boundary
unfoldable pub place_speed : Reach → ℕ → ℕ
place_speed s = speed_at s.depth s.discharge (left_speed s) (right_speed s)

-- the greatest t in 1..1,000 that meets CFL at all places
unfoldable pub greatest_time : Reach → ℕ
greatest_time s = greatest_step (place_speed s) (cells s + 1) s.cell_length

-- the place of the greatest |u|+a, the highest among equals
unfoldable pub greatest_place : Reach → ℕ
greatest_place s = fastest_place (place_speed s) (cells s + 1)

-- a refusal: its number, the boundaries and the ledger as they came, 0 in the other fields
abbrev pub refused_with : ℕ → Held → GreatestAnswer
refused_with n k = record { refusal = n; held = k; time = 0; place = 0 }

-- the answer, by what grounds 4 to 9 say
abbrev pub greatest_by : Verdict → Reach → GreatestAnswer
greatest_by (Ok u) s = record { refusal = 0; held = s.held; time = greatest_time s; place = greatest_place s }
greatest_by (Err r) s = refused_with (number r) s.held

unfoldable pub greatest : Reach → GreatestAnswer
greatest s = greatest_by (first_refusal (record_grounds s s.held.boundaries)) s
