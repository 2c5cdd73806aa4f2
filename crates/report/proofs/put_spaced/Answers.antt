-- `report::put_spaced` meets its contract: one text behind the other. Assumes nothing.
use Rattle.text.proofs.TextLaws.{adds_more}
use Rattle.report.specs.Report.{spaced}
use Rattle.report.proofs.put_spaced.Goals as goal

pub returns-clause-adds : goal.returns-clause-adds
unfolding spaced
returns-clause-adds c = adds_more c.byte.ensures c.decimal.ensures.adds
