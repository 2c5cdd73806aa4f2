use Prim.Native.Nat.{◌+◌, ◌*◌, ◌≤◌}
use Rattle.text.specs.Writer.{Adds}
use Rattle.report.specs.Report.{cell_lines}
use Rattle.report.proofs.put_cells.Given as goal

abbrev pub invariant-loop-i : goal.invariant-loop-i
invariant-loop-i l = (l.to.at ≤ l.initial.to.at + 96 * l.i) × Adds l.initial.to (cell_lines l.depth l.discharge l.mass l.i) l.to
