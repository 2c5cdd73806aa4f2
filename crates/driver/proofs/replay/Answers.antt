-- `driver::replay` meets its contract: an opening, and the list from the record that it left. Assumes nothing.
use Rattle.sheet.specs.Opening.{lent}
use Rattle.driver.proofs.DriverLaws.{replay_stops, replay_goes}
use Rattle.driver.proofs.replay.Goals as goal

pub returns-then-o-ne0 : goal.returns-then-o-ne0
returns-then-o-ne0 c =
    let a = c.args in
    replay_stops a.sheet.now a.words.now a.sheets.now (lent a.bed.now a.depth.now a.discharge.now a.mass.now a.base.now a.carried.now a.outlets) a.out.now a.answers.now c.open_sheet-o.ensures c.if-o-ne0.true

pub returns : goal.returns
returns c =
    let a = c.args in
    let p = c.resume in
    replay_goes a.sheet.now a.words.now a.sheets.now (lent a.bed.now a.depth.now a.discharge.now a.mass.now a.base.now a.carried.now a.outlets) a.out.now a.answers.now c.open_sheet-o.ensures p.result c.if-o-ne0.false p.ensures.refusal_value p.ensures.answers_after
