-- What the checks of `reach::check_record` ask of the record is what those before them have found. Assumes nothing.
use mathlib.Core.Path.{sym, ◌∙◌}
use native.Mathlib.Omega.{arith}
use Rattle.reach.proofs.OutletLaws.{none_fit, none_total, none_drawn_from}
use Rattle.reach.proofs.GroundsLaws.{passed, go_on, second_stands}
use Rattle.reach.proofs.Sound.{lengths_sound, cells_sound, outlets_few}
use Rattle.reach.specs.declared.refusal.Refusal.TheVariants as refusal
use Rattle.reach.proofs.check_record.Goals as goal

pub check_plain-requires : goal.check_plain-requires
check_plain-requires c = (lengths_sound _ _ _ _ _ _ (passed refusal.Lengths _ _ c.check_lengths.ensures c.in_ok-check_lengths.was)).columns

-- no outlet: 16 stands
pub returns-then-held-eq0 : goal.returns-then-held-eq0
returns-then-held-eq0 c =
    let e = c.if-held-eq0.true in
    (rw (none_drawn_from _ _ _ c.args.held.outlets _ _ e, ← none_total c.args.held e) at c.check_plain.ensures)
    ∙ sym (go_on _ _ (passed refusal.Lengths _ _ c.check_lengths.ensures c.in_ok-check_lengths.was)
    (go_on _ _ (passed refusal.CellLength _ _ c.check_cell_length.ensures c.in_ok-check_cell_length.was)
    (go_on _ _ (passed refusal.Boundaries _ _ c.check_boundaries.ensures c.in_ok-check_boundaries.was)
    (go_on _ _ (passed refusal.Boundaries _ _ c.check_boundaries-2.ensures c.in_ok-check_boundaries-2.was)
    (second_stands _ _ _ (none_fit _ _ e))))))

pub check_cells-requires : goal.check_cells-requires
check_cells-requires c = (lengths_sound _ _ _ _ _ _ (passed refusal.Lengths _ _ c.check_lengths.ensures c.in_ok-check_lengths.was)).columns.cells

pub check_carried-requires-clause-carried_columns : goal.check_carried-requires-clause-carried_columns
check_carried-requires-clause-carried_columns c =
    let n = lengths_sound _ _ _ _ _ _ (passed refusal.Lengths _ _ c.check_lengths.ensures c.in_ok-check_lengths.was) in
    let cell = cells_sound _ _ _ _ _ (passed refusal.Values _ _ c.check_cells.ensures c.in_ok-check_cells.was) in
    record {
      some = omega arith;
      few = omega arith;
      bases = omega arith;
      interfaces = omega arith;
      deep = λ i l. (cell i (omega arith)).depth;
      base = λ i l. (cell i (omega arith)).base;
    }

pub check_carried-requires-clause-outlets_value : goal.check_carried-requires-clause-outlets_value
check_carried-requires-clause-outlets_value c =
    let n = lengths_sound _ _ _ _ _ _ (passed refusal.Lengths _ _ c.check_lengths.ensures c.in_ok-check_lengths.was) in
    rw n.columns.cells.depths (passed refusal.Outlets _ _ c.check_outlets.ensures c.in_ok-check_outlets.was)

pub check_totals-requires : goal.check_totals-requires
check_totals-requires c = outlets_few _ _ (passed refusal.Outlets _ _ c.check_outlets.ensures c.in_ok-check_outlets.was)
