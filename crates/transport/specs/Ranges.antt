-- Not the paper's: what the inner functions require and give. A reader of the model may skip this file.
use Rattle.std.specs.Prelude.{◌≡◌, List, ℕ, ◌*◌, ◌≤◌, ℤ, pos, neg_ℤ, length, get_or}
use Rattle.numbers.specs.Signed.{positive}
use Rattle.mass.specs.Transport.{MassColumns, mass_columns, rightwards, leftwards}
use Rattle.mass.specs.Ranges.{mass_most}
use Rattle.reach.specs.Reach.{left_boundary, right_boundary}
use Rattle.reach.specs.declared.boundary.Boundary.{Boundary}
use Rattle.reach.specs.declared.held.Held.{Held}
use Rattle.transport.specs.declared.TransportAnswer.{TransportAnswer}

-- columns with a pair of boundaries: what enters is the water that came in times the boundary's concentration
abbrev pub mass_columns_with : List ℕ → List ℕ → List ℤ → (ℕ → List ℕ) → List Boundary → MassColumns
mass_columns_with m b c drawn es =
    mass_columns m b c drawn
    (positive (get_or c 0 (pos 0)) * (left_boundary es).concentration)
    (positive (neg_ℤ (get_or c (length m) (pos 0))) * (right_boundary es).concentration)

-- the mass that crosses both boundaries, in and out
pub record BoundaryMassOf (s : MassColumns) (left_inflow left_outflow right_inflow right_outflow : ℕ) : Type 0 where
  pub left_in : left_inflow ≡ s.left_inflow
  pub left_out : left_outflow ≡ leftwards s 0
  pub right_in : right_inflow ≡ s.right_inflow
  pub right_out : right_outflow ≡ rightwards s (length s.mass)

-- and that none of it is more than a full cell holds
pub record Small (left_inflow left_outflow right_inflow right_outflow : ℕ) : Type 0 where
  pub left_in : left_inflow ≤ mass_most
  pub left_out : left_outflow ≤ mass_most
  pub right_in : right_inflow ≤ mass_most
  pub right_out : right_outflow ≤ mass_most

abbrev pub answer : ℕ → Held → TransportAnswer
answer n k = record { refusal = n; held = k }
