use mathlib.Core.Path.{◌≡◌}
use mathlib.Core.Bool.{true}
use Rattle.numbers.specs.Index.{all_below}
use Rattle.reach.proofs.Sound.{cell_fits_at}
use Rattle.reach.proofs.cells.check_cells.Given as goal

abbrev pub invariant-loop-i : goal.invariant-loop-i
invariant-loop-i l = (all_below l.i (cell_fits_at l.bed l.depth l.discharge l.mass l.base) ≡ true)
