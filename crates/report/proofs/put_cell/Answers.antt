-- `report::put_cell` meets its contract: one text behind the other. Assumes nothing.
use mir.Facts.{to_z-of_z}
use Rattle.text.proofs.TextLaws.{adds_more}
use Rattle.report.specs.Report.{cell_line}
use Rattle.report.proofs.put_cell.Goals as goal

pub returns-clause-adds : goal.returns-clause-adds
unfolding cell_line
returns-clause-adds c = adds_more (adds_more (adds_more (adds_more (adds_more c.decimal.ensures.adds c.put_spaced.ensures.adds) c.byte.ensures) (rw (to_z-of_z c.ranges.q) at c.signed.ensures.adds)) c.put_spaced-2.ensures.adds) c.byte-2.ensures
