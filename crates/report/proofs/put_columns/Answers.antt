-- `report::put_columns` meets its contract: one text behind the other. Assumes nothing.
use Rattle.text.proofs.TextLaws.{adds_more}
use Rattle.report.specs.Report.{columns_text, cells_word}
use Rattle.report.proofs.put_columns.Goals as goal

pub returns-clause-adds : goal.returns-clause-adds
unfolding columns_text cells_word
returns-clause-adds c = adds_more (adds_more (adds_more c.word.ensures c.decimal.ensures.adds) c.byte.ensures) c.put_cells.ensures.adds
