-- `report::put_report` meets its contract: one text behind the other, from the start of the buffer on. Assumes nothing.
use native.Mathlib.Omega.{arith}
use borrow.Author.Rules.{rules}
use Rattle.text.proofs.TextLaws.{put_all}
use Rattle.report.specs.Report.{report_text}
use Rattle.report.proofs.ReportLaws.{laid, laid_then}
use Rattle.report.proofs.put_report.Goals as goal

pub returns-clause-value : goal.returns-clause-value
unfolding report_text
returns-clause-value c =
    let s = c.put_columns.ensures.adds in
    let b = c.put_ledger.ensures.adds in
    let t = laid_then (laid s.next_is s.put) (laid b.next_is b.put) in
    (omega (arith, t.next_is, c.new-to.ensures.start.0), omega arith)

pub returns-clause-put : goal.returns-clause-put
unfolding report_text
returns-clause-put c =
    let s = c.put_columns.ensures.adds in
    let b = c.put_ledger.ensures.adds in
    let t = laid_then (laid s.next_is s.put) (laid b.next_is b.put) in
    put_all t.put c.new-to.ensures.start.0 c.new-to.ensures.start.1 (search rules)
