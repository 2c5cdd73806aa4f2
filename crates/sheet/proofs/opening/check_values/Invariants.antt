-- The cells passed are in range.
use mathlib.Core.Path.{◌≡◌}
use mathlib.Core.Bool.{true}
use Rattle.numbers.specs.Index.{all_below}
use Rattle.sheet.specs.Ranges.{cell_at}
use Rattle.sheet.proofs.opening.check_values.Given as goal

abbrev pub invariant-loop-i : goal.invariant-loop-i
invariant-loop-i l = all_below l.i (cell_at l.s l.l) ≡ true
