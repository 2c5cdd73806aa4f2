-- Laws of a list that is cleared: what each of its outlets is. Assumes nothing.
use mathlib.Core.Path.{◌≡◌}
use Prim.Native.Nat.{ℕ, ◌≤◌, ◌<◌}
use Rattle.outlet.specs.Outlets.{outlets_most, outlet_at, cleared_outlet, cleared}
use Rattle.outlet.specs.declared.Outlets.{Outlets}
use Rattle.outlet.proofs.OutletLaws.{each_at, each_count}

pub cleared_at : (os : Outlets) → os.count ≤ outlets_most → (k : ℕ) → k < os.count → outlet_at (cleared os) k ≡ cleared_outlet (outlet_at os k)
unfolding cleared
cleared_at os few k l = each_at (λ k. cleared_outlet (outlet_at os k)) os few k l

pub cleared_count : (os : Outlets) → (cleared os).count ≡ os.count
unfolding cleared
cleared_count os = each_count (λ k. cleared_outlet (outlet_at os k)) os
