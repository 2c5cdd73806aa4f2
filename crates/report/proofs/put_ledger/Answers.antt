-- `report::put_ledger` meets its contract: one text behind the other. Assumes nothing.
use Rattle.text.proofs.TextLaws.{adds_more}
use Rattle.report.specs.Report.{ledger_text, ledger_word}
use Rattle.report.proofs.put_ledger.Goals as goal

pub returns-clause-adds : goal.returns-clause-adds
unfolding ledger_text ledger_word
returns-clause-adds c = adds_more (adds_more (adds_more c.word.ensures c.put_totals.ensures.adds) c.put_totals-2.ensures.adds) c.byte.ensures
