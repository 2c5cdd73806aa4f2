-- What bounds a boundary, in plain inequalities: a wall is exempt.
use mathlib.Core.Path.{◌≡◌}
use lib.IntN.{ℤ, pos}
use lib.Signed.{◌≤ℤ◌}
use Rattle.reach.specs.Balance.{BoundaryWithin}
use Rattle.reach.specs.declared.boundary.Boundary.{Boundary}

pub boundary_within : (lo hi : ℤ) (e : Boundary) → ((e.kind ≡ 0 → ⊥) → (lo ≤ℤ pos e.concentration) × (pos e.concentration ≤ℤ hi)) → BoundaryWithin lo hi e
boundary_within lo hi e b = record { above = λ w. (b w).0; below = λ w. (b w).1 }
