use mathlib.Core.Path.{◌≡◌}
use mathlib.Core.Bool.{Bool, true, false}
use mathlib.Core.List.{List}
use Prim.Native.Nat.{ℕ, ◌≤◌}
use lib.IntN.{ℤ, pos, nat_abs}
use lib.ListN.{length, get_or}
use Rattle.numbers.specs.Index.{all_below}
use Rattle.reach.specs.Limits.{carried_most}
use Rattle.reach.specs.Ranges.{undrawn}
use Rattle.reach.proofs.CarriedLaws.{carried_fits_at}
use Rattle.reach.proofs.Sound.{cell_fits_at}
use Rattle.reach.proofs.plain.check_plain_cells.Given as goal

-- what `balanced` tells where i cells are passed: they keep the rules, and what the last of them has at its right is in range; or some cell does not keep them
pub record Balanced (h b : List ℕ) (c : List ℤ) (i : ℕ) (t : Bool) : Type 0 where
  pub kept : t ≡ true → all_below i (carried_fits_at h b c undrawn) ≡ true
  pub right : t ≡ true → nat_abs (get_or c i (pos 0)) ≤ carried_most
  pub broken : t ≡ false → all_below (length h) (carried_fits_at h b c undrawn) ≡ false

abbrev pub invariant-loop-i : goal.invariant-loop-i
invariant-loop-i l = (all_below l.i (cell_fits_at l.bed l.depth l.discharge l.mass l.base) ≡ true) × (l.left ≡ get_or l.carried l.i (pos 0)) × Balanced l.depth l.base l.carried l.i l.balanced
