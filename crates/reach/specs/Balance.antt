-- Demand 3: what it measures of a record: water and mass held, what came in and went out, and bounds on the concentration.
use Rattle.std.specs.Prelude.{◌≡◌, List, ℕ, ◌+◌, ◌<◌, ℤ, pos, ◌*ℤ◌, ◌≤ℤ◌}
use Rattle.numbers.specs.Index.{sum, sum_below}
use Rattle.outlet.specs.Outlets.{outlet_at}
use Rattle.outlet.specs.declared.Outlets.{Outlets}
use Rattle.reach.specs.Limits.{wall}
use Rattle.reach.specs.Reach.{Reach, cells, mass_at, base_at, left_boundary, right_boundary}
use Rattle.reach.specs.declared.boundary.Boundary.{Boundary}
use Rattle.reach.specs.declared.held.Held.{Held}
use Rattle.reach.specs.declared.ledger.Ledger.{Ledger}

unfoldable pub water_held : Reach → ℕ
water_held s = sum s.depth

unfoldable pub total_water_in : Ledger → ℕ
total_water_in k = k.left.water_in + k.right.water_in

unfoldable pub total_water_out : Ledger → ℕ
total_water_out k = k.left.water_out + k.right.water_out

-- what the outlets have drawn (document 02, point 1: 'the balance has the outlets beside the ends')
unfoldable pub outlet_water : Outlets → ℕ
outlet_water os = sum_below os.count (λ k. (outlet_at os k).water)

-- all that went out, over the boundaries and by the outlets
unfoldable pub water_gone : Held → ℕ
water_gone h = total_water_out h.ledger + outlet_water h.outlets

-- from s to t no water is lost or made: what is held changes by what came in less what went out
unfoldable pub WaterBalanced : (s t : Reach) → Type 0
WaterBalanced s t = water_held t + water_gone t.held + total_water_in s.held.ledger ≡ water_held s + water_gone s.held + total_water_in t.held.ledger

unfoldable pub mass_held : Reach → ℕ
mass_held s = sum s.mass

unfoldable pub total_mass_in : Ledger → ℕ
total_mass_in k = k.left.mass_in + k.right.mass_in

unfoldable pub total_mass_out : Ledger → ℕ
total_mass_out k = k.left.mass_out + k.right.mass_out

unfoldable pub outlet_mass : Outlets → ℕ
outlet_mass os = sum_below os.count (λ k. (outlet_at os k).mass)

unfoldable pub mass_gone : Held → ℕ
mass_gone h = total_mass_out h.ledger + outlet_mass h.outlets

-- the same of mass
unfoldable pub MassBalanced : (s t : Reach) → Type 0
MassBalanced s t = mass_held t + mass_gone t.held + total_mass_in s.held.ledger ≡ mass_held s + mass_gone s.held + total_mass_in t.held.ledger

-- Bounds are whole numbers by place: 0 the left boundary, 1..n the cells, n+1 the right boundary. A number by itself, at every place:
abbrev pub everywhere : ℤ → ℕ → ℤ
everywhere z place = z

-- two numbers bound a cell when m is at least the lower times b and at most the upper times b
pub record CellsWithin (lo hi : ℕ → ℤ) (s : Reach) : Type 0 where
  pub above : (i : ℕ) → i < cells s → (lo (i + 1) *ℤ pos (base_at s i)) ≤ℤ pos (mass_at s i)
  pub below : (i : ℕ) → i < cells s → pos (mass_at s i) ≤ℤ (hi (i + 1) *ℤ pos (base_at s i))

-- and a boundary, but a wall, when its concentration lies from the lower to the upper
pub record BoundaryWithin (lo hi : ℤ) (e : Boundary) : Type 0 where
  pub above : (e.kind ≡ wall → ⊥) → lo ≤ℤ pos e.concentration
  pub below : (e.kind ≡ wall → ⊥) → pos e.concentration ≤ℤ hi

-- both boundaries of n cells
pub record BoundariesWithin (lo hi : ℕ → ℤ) (n : ℕ) (es : List Boundary) : Type 0 where
  pub left : BoundaryWithin (lo 0) (hi 0) (left_boundary es)
  pub right : BoundaryWithin (lo (n + 1)) (hi (n + 1)) (right_boundary es)
