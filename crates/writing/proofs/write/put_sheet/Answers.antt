-- `writing::write::put_sheet` meets its contract: header and columns one behind the other. Assumes nothing.
use mathlib.Core.List.{[]}
use Prim.Native.Nat.{◌+◌, ◌*◌, ◌≤◌}
use native.Mathlib.Omega.{arith}
use lib.ListN.{length}
use Rattle.outlet.specs.Outlets.{no_outlets}
use Rattle.reach.specs.Reach.{reach_of, held_with}
use Rattle.sheet.specs.Header.{sheet_size}
use Rattle.sheet.specs.Opening.{empty_ledger}
use Rattle.writing.proofs.WritingLaws.{sheet_written}
use Rattle.writing.proofs.write.put_sheet.Goals as goal
use Rattle.writing.proofs.write.put_sheet.Goals.{Start}

long : (s : Start) → 80 + 24 * length s.args.bed.now ≤ length s.args.out.now
unfolding sheet_size
long s = s.requires.bed_len_bound.1

pub put_column-requires : goal.put_column-requires
put_column-requires c =
    let h = c.requires.depth_len.0 in
    omega (arith, long (goal.at.put_column-requires c).Start, h, c.put_header.auto.out, c.put_signed.auto.out)

pub put_column-requires-2 : goal.put_column-requires-2
put_column-requires-2 c =
    let m = c.requires.depth_len.1.1 in
    omega (arith, long (goal.at.put_column-requires-2 c).Start, m, c.put_header.auto.out, c.put_signed.auto.out, c.put_column.auto.out, c.put_signed-2.auto.out)

pub returns : goal.returns
returns c =
    let a = c.args in
    sheet_written (reach_of a.bed.now a.depth.now a.discharge.now a.mass.now [] [] a.x (held_with a.boundaries empty_ledger no_outlets)) a.out.now c.requires.depth_len.0 c.requires.depth_len.1.0 _ _ _ _ _
    c.put_header.ensures
    c.put_signed.ensures
    c.put_column.ensures
    c.put_signed-2.ensures
    c.put_column-2.ensures

pub put_header-requires-clause-n_le_cells_most : goal.put_header-requires-clause-n_le_cells_most
put_header-requires-clause-n_le_cells_most c = (c.requires.bed_len_bound.0, omega (arith, long (goal.at.put_header-requires-clause-n_le_cells_most c).Start))

pub put_signed-requires-clause-column_len_bound : goal.put_signed-requires-clause-column_len_bound
put_signed-requires-clause-column_len_bound c =
    (c.requires.bed_len_bound.0, omega (arith, long (goal.at.put_signed-requires-clause-column_len_bound c).Start, c.put_header.auto.out))

pub put_signed-requires-2-clause-column_len_bound : goal.put_signed-requires-2-clause-column_len_bound
put_signed-requires-2-clause-column_len_bound c =
    let q = c.requires.depth_len.1.0 in (omega (arith, q, c.requires.bed_len_bound.0), omega (arith, long (goal.at.put_signed-requires-2-clause-column_len_bound c).Start, q, c.put_header.auto.out, c.put_signed.auto.out, c.put_column.auto.out))
