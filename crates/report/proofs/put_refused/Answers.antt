-- `report::put_refused` meets its contract: one text behind the other, from the start of the buffer on. Assumes nothing.
use native.Mathlib.Omega.{arith}
use borrow.Author.Rules.{rules}
use Rattle.text.proofs.TextLaws.{adds_more, adds_all}
use Rattle.report.specs.Report.{refused_text, refused_word}
use Rattle.report.proofs.put_refused.Goals as goal

pub returns-clause-value : goal.returns-clause-value
unfolding refused_text refused_word
returns-clause-value c =
    let t = adds_more (adds_more c.word.ensures (rw c.from.ensures at c.decimal.ensures.adds)) c.byte.ensures in
    (omega (arith, t.next_is, c.new-to.ensures.start.0), omega arith)

pub returns-clause-put : goal.returns-clause-put
unfolding refused_text refused_word
returns-clause-put c =
    let t = adds_more (adds_more c.word.ensures (rw c.from.ensures at c.decimal.ensures.adds)) c.byte.ensures in
    adds_all t c.new-to.ensures.start.0 c.new-to.ensures.start.1 (search rules)
