-- `player::call::play_call` meets its contract: whichever call it is. Assumes nothing.
use lib.ListN.{length}
use Rattle.player.proofs.PlayerLaws.{is_step, is_transport, is_setting, is_greatest, is_write, is_opening}
use Rattle.player.proofs.call.play_call.Goals as goal

pub returns-in-Step : goal.returns-in-Step
returns-in-Step c = let a = c.args in rw (is_step a.words.now a.sheets.now (length a.out.now) a.at (rw c.in-Step.is at c.from.ensures)) (c.play_step.ensures _)

pub returns-in-Transport : goal.returns-in-Transport
returns-in-Transport c = let a = c.args in rw (is_transport a.words.now a.sheets.now (length a.out.now) a.at (rw c.in-Transport.is at c.from.ensures)) (c.play_transport.ensures _)

pub returns-in-Boundaries : goal.returns-in-Boundaries
returns-in-Boundaries c = let a = c.args in rw (is_setting a.words.now a.sheets.now (length a.out.now) a.at (rw c.in-Boundaries.is at c.from.ensures)) (c.play_setting.ensures _)

pub returns-in-Greatest : goal.returns-in-Greatest
returns-in-Greatest c = let a = c.args in rw (is_greatest a.words.now a.sheets.now (length a.out.now) a.at (rw c.in-Greatest.is at c.from.ensures)) (c.play_greatest.ensures _)

pub returns-in-Write : goal.returns-in-Write
returns-in-Write c = let a = c.args in rw (is_write a.words.now a.sheets.now (length a.out.now) a.at (rw c.in-Write.is at c.from.ensures)) c.play_write.ensures

pub returns-in-Opening : goal.returns-in-Opening
returns-in-Opening c = let a = c.args in rw (is_opening a.words.now a.sheets.now (length a.out.now) a.at (rw c.in-Opening.is at c.from.ensures)) (c.play_opening.ensures _)
