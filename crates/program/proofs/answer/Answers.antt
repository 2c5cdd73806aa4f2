-- `program::answer` meets its contract. Assumes nothing.
use native.Mathlib.Omega.{arith}
use Rattle.program.proofs.ProgramLaws.{refused_text_lem, report_text_lem}
use Rattle.program.proofs.answer.Goals as goal

pub returns-then-r-ne0-clause-value : goal.returns-then-r-ne0-clause-value
returns-then-r-ne0-clause-value c =
    let e = refused_text_lem c.play-r.ensures c.if-r-ne0.true in
    let f = c.put_refused.ensures.value in
    rw (← e) (f.0, omega (arith, f.1))

pub returns-then-r-ne0-clause-put : goal.returns-then-r-ne0-clause-put
returns-then-r-ne0-clause-put c =
    let e = refused_text_lem c.play-r.ensures c.if-r-ne0.true in
    rw (← e) c.put_refused.ensures.put

pub returns-clause-value : goal.returns-clause-value
returns-clause-value c =
    let e = report_text_lem c.play-r.ensures c.if-r-ne0.false in
    let f = c.put_report.ensures.value in
    let n = c.play-r.auto.depth in
    let l = c.requires.0 in
    rw (← e) (f.0, omega (arith, f.1, n, l))

pub returns-clause-put : goal.returns-clause-put
returns-clause-put c =
    let e = report_text_lem c.play-r.ensures c.if-r-ne0.false in
    rw (← e) c.put_report.ensures.put
