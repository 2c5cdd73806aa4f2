-- `player::call::play_write` meets its contract: the first bytes of the output are lent, and the rest stays. Assumes nothing.
use mathlib.Core.Path.{sym}
use native.Mathlib.Omega.{arith}
use Rattle.reach.specs.Reach.{Reach, reach_of}
use Rattle.script.specs.Script.{free_at}
use Rattle.player.proofs.PlayerLaws.{plays_write, taken_length}
use Rattle.player.proofs.call.play_write.Goals as goal
use Rattle.player.proofs.call.play_write.Goals.{Start}

-- the record as it came
abbrev given : Start → Reach
given c =
    let a = c.args in
    reach_of a.bed.now a.depth.now a.discharge.now a.mass.now a.base.now a.carried.now a.x a.held

pub returns : goal.returns
returns c =
    let a = c.args in
    rw (sym c.min-room.ensures, c.came_to.ensures)
    (plays_write (given (goal.at.returns c).Start) (free_at a.words.now a.at) _ a.out.now _ (sym (taken_length _ _ (omega (arith, c.min-room.ensures)))) (rw c.with_wants-wanted.ensures at c.write_sheet-r.ensures))
