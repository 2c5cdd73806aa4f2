-- `driver::resume` meets its contract: what is left of the list, of the memory at hand, leads where the whole list leads. Assumes nothing.
use mathlib.Core.Path.{refl, sym, ◌∙◌}
use lib.ListN.{length}
use Rattle.reach.specs.Reach.{Reach, reach_of}
use Rattle.driver.proofs.DriverLaws.{played_first, played_on_lem, played_out}
use Rattle.driver.proofs.resume.Goals as goal
use Rattle.driver.proofs.resume.Goals.{At-loop-j}

-- the record at hand
abbrev reach : At-loop-j → Reach
reach c =
    let l = c.loop-j in
    reach_of l.bed l.depth l.discharge l.mass l.base l.carried l.cell_length l.current

pub loop-j-init : goal.loop-j-init
loop-j-init c =
    let a = c.args in
    (refl, played_first a.words.now a.sheets.now (length a.out.now) _)

pub loop-j-preserved : goal.loop-j-preserved
loop-j-preserved c =
    let a = c.args in
    let l = c.loop-j in
    let t = c.loop-j-test.true in
    let p = c.play_call-p in
    let i = l.invariant in (
      i.0,
      played_on_lem a.words.now a.sheets.now (length a.out.now) _ l.j (reach (goal.at.loop-j-preserved c).At-loop-j) l.out l.answers {r = p.result} t (rw l.auto.out at p.ensures) c.note.ensures ∙ i.1,
    )

pub returns-clause-answers_after : goal.returns-clause-answers_after
returns-clause-answers_after c =
    let a = c.args in
    sym (played_out a.words.now a.sheets.now (length a.out.now) _ c.loop-j.j _ c.loop-j-test.false) ∙ c.loop-j.invariant.1
