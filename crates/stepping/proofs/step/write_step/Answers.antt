-- `stepping::step::write_step` meets its contract: what is copied is the first of a column. Assumes nothing.
use mathlib.Core.Path.{◌∙◌}
use lib.IntN.{pos}
use Rattle.numbers.proofs.IndexLaws.{take_tabulate}
use Rattle.stepping.proofs.step.write_step.Goals as goal

pub returns-clause-depth_after : goal.returns-clause-depth_after
returns-clause-depth_after c = c.copy_from_slice.ensures.after ∙ take_tabulate _ _ 0 c.requires.depth_in_bounds.0

pub returns-clause-discharge_after : goal.returns-clause-discharge_after
returns-clause-discharge_after c = c.copy_from_slice-2.ensures.after ∙ take_tabulate _ _ (pos 0) c.requires.depth_in_bounds.1.0
