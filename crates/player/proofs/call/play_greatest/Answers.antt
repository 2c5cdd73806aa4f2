-- `player::call::play_greatest` meets its contract. Assumes nothing.
use Rattle.reach.specs.Reach.{Reach, reach_of}
use Rattle.script.specs.Script.{free_at}
use Rattle.player.proofs.PlayerLaws.{plays_greatest}
use Rattle.player.proofs.call.play_greatest.Goals as goal
use Rattle.player.proofs.call.play_greatest.Goals.{Start}

-- the record as it came
abbrev given : Start → Reach
given c =
    let a = c.args in
    reach_of a.bed.now a.depth.now a.discharge.now a.mass.now a.base.now a.carried.now a.x a.held

pub returns : goal.returns
returns c out =
    plays_greatest (given (goal.at.returns c).Start) (free_at c.args.words.now c.args.at) (rw c.with_wants-wanted.ensures at c.greatest_step-r.ensures) out
