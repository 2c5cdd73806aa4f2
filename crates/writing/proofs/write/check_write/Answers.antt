-- `writing::write::check_write` meets its contract. Assumes nothing.
use mathlib.Core.Path.{sym, ◌∙◌}
use borrow.Author.Rules.{rules}
use Rattle.reach.specs.Reach.{Reach, reach_of}
use Rattle.reach.proofs.GroundsLaws.{passed, refused_by}
use Rattle.reach.proofs.Sound.{sound, outlets_few}
use Rattle.reach.specs.declared.refusal.Refusal.TheVariants as refusal
use Rattle.writing.proofs.WritingLaws.{stopped_before, stopped_carried, stopped_drawn, room_left}
use Rattle.writing.proofs.write.check_write.Goals as goal
use Rattle.writing.proofs.write.check_write.Goals.{Start}

abbrev reach : Start → Reach
reach s =
    reach_of s.args.bed.now s.args.depth.now s.args.discharge.now s.args.mass.now s.args.base.now s.args.carried.now s.args.x s.args.held

pub returns-in_err-check_record : goal.returns-in_err-check_record
returns-in_err-check_record c =
    rw (stopped_before (reach (goal.at.returns-in_err-check_record c).Start) c.args.room _ (sym c.check_record.ensures ∙ c.in_err-check_record.was)) (search rules)

pub returns-in_err-check_none_carried : goal.returns-in_err-check_none_carried
returns-in_err-check_none_carried c =
    let s = reach (goal.at.returns-in_err-check_none_carried c).Start in
    rw (stopped_carried s c.args.room (sym c.check_record.ensures ∙ c.in_ok-check_record.was) (refused_by refusal.NotTransported _ _ _ c.check_none_carried.ensures c.in_err-check_none_carried.was)) (search rules)

pub check_none_drawn-requires : goal.check_none_drawn-requires
check_none_drawn-requires c =
    let s = reach (goal.at.check_none_drawn-requires c).Start in
    outlets_few _ _ (sound s s.held.boundaries (sym c.check_record.ensures ∙ c.in_ok-check_record.was)).outlets

pub returns-in_err-check_none_drawn : goal.returns-in_err-check_none_drawn
returns-in_err-check_none_drawn c =
    let s = reach (goal.at.returns-in_err-check_none_drawn c).Start in
    let none = passed refusal.NotTransported _ _ c.check_none_carried.ensures c.in_ok-check_none_carried.was in
    rw (stopped_drawn s c.args.room (sym c.check_record.ensures ∙ c.in_ok-check_record.was) none (refused_by refusal.NotTransported _ _ _ c.check_none_drawn.ensures c.in_err-check_none_drawn.was)) (search rules)

pub check_room-requires : goal.check_room-requires
check_room-requires c =
    let s = reach (goal.at.check_room-requires c).Start in
    (sound s s.held.boundaries (sym c.check_record.ensures ∙ c.in_ok-check_record.was)).few

pub returns : goal.returns
returns c =
    let s = reach (goal.at.returns c).Start in
    let none = passed refusal.NotTransported _ _ c.check_none_carried.ensures c.in_ok-check_none_carried.was in
    c.check_room.ensures
    ∙ sym (room_left s c.args.room (sym c.check_record.ensures ∙ c.in_ok-check_record.was) none (passed refusal.NotTransported _ _ c.check_none_drawn.ensures c.in_ok-check_none_drawn.was))
