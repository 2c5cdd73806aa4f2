-- `report::put_cells` meets its contract: the lines of the cells passed are put. Assumes nothing.
use native.Mathlib.Numerals.{add-one}
use native.Mathlib.Omega.{arith}
use borrow.Author.Rules.{rules}
use Rattle.text.proofs.TextLaws.{adds_none, adds_more}
use Rattle.report.specs.Report.{cell_lines}
use Rattle.report.proofs.put_cells.Goals as goal

pub loop-i-init : goal.loop-i-init
unfolding cell_lines
loop-i-init c = (omega arith, adds_none _)

pub loop-i-preserved : goal.loop-i-preserved
unfolding cell_lines
loop-i-preserved c =
    let p = c.put_cell.ensures in
    (omega (arith, c.loop-i.invariant.0, p.most), rw add-one (adds_more c.loop-i.invariant.1 (search rules)))
