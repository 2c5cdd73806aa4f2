-- `player::call::play_step` meets its contract. Assumes nothing.
use Rattle.reach.specs.Reach.{Reach, reach_of}
use Rattle.script.specs.Script.{free_at}
use Rattle.player.proofs.PlayerLaws.{plays_step}
use Rattle.player.proofs.call.play_step.Goals as goal
use Rattle.player.proofs.call.play_step.Goals.{Start}

-- the record as it came
abbrev given : Start → Reach
given c =
    let a = c.args in
    reach_of a.bed.now a.depth.now a.discharge.now a.mass.now a.base.now a.carried.now a.x a.held

pub returns : goal.returns
returns c out =
    plays_step (given (goal.at.returns c).Start) (free_at c.args.words.now c.args.at) _ _ (rw c.with_wants-wanted.ensures at c.step-r.ensures) out
