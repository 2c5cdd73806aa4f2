use mathlib.Core.Path.{◌≡◌}
use mathlib.Core.Bool.{true}
use Prim.Native.Nat.{◌≤◌}
use lib.IntN.{pos, nat_abs}
use lib.ListN.{get_or}
use Rattle.numbers.specs.Index.{all_below}
use Rattle.reach.specs.Ranges.{alone}
use Rattle.reach.specs.Limits.{carried_most}
use Rattle.reach.proofs.CarriedLaws.{carried_fits_at}
use Rattle.reach.proofs.carried.check_carried_cells.Given as goal

abbrev pub invariant-loop-i : goal.invariant-loop-i
invariant-loop-i l = (all_below l.i (carried_fits_at l.depth l.base l.carried (alone l.drawn)) ≡ true) × (nat_abs (get_or l.carried l.i (pos 0)) ≤ carried_most)
