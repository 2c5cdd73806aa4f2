-- `sheet::header::check_columns` meets its contract: the test is of the columns as the header places them. Assumes nothing.
use mathlib.Core.Path.{refl, ap, ◌∙◌}
use Rattle.reach.specs.Grounds.{pass_or}
use Rattle.reach.specs.declared.refusal.Refusal.TheVariants as refusal
use Rattle.sheet.specs.Header.{spans_of}
use Rattle.sheet.proofs.header.check_columns.Goals as goal

pub returns : goal.returns
unfolding spans_of
returns c =
    let l = c.layout_of.ensures in
    c.unless.ensures ∙ ap (pass_or refusal.Layout) (c.columns_clear.ensures ∙ rw (l.beds_are, l.depths_are, l.discharges_are, l.masses_are, c.count_of.ensures.0) refl)
