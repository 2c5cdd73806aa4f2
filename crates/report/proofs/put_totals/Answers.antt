-- `report::put_totals` meets its contract: one text behind the other. Assumes nothing.
use Rattle.text.proofs.TextLaws.{adds_more}
use Rattle.report.specs.Report.{totals_text}
use Rattle.report.proofs.put_totals.Goals as goal

pub returns-clause-adds : goal.returns-clause-adds
unfolding totals_text
returns-clause-adds c = adds_more (adds_more (adds_more c.put_spaced.ensures.adds c.put_spaced-2.ensures.adds) c.put_spaced-3.ensures.adds) c.put_spaced-4.ensures.adds
