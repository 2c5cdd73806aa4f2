-- `worked_runs::outlets_worked` meets its contract: every value is computed from the definitions. Assumes nothing.
use mathlib.Core.Path.{refl}
use Rattle.numbers.specs.Deal.{floors, units_left, has_unit, handed, dealt}
use Rattle.numbers.specs.Index.{sum}
use Rattle.numbers.specs.Shares.{share, shares, rest}
use Rattle.reach.specs.Parts.{parts}
use Rattle.worked_runs.proofs.outlets_worked.Goals as goal

pub returns : goal.returns
unfolding floors units_left has_unit handed dealt sum share shares rest parts
returns c = record { floors_10 = refl; dealt_10 = refl; dealt_6 = refl; dealt_all_13 = refl; parts_5 = refl; shares_7 = refl; none_stays = refl }
