-- `player::call::play_transport` meets its contract. Assumes nothing.
use Rattle.reach.specs.Reach.{Reach, reach_of}
use Rattle.script.specs.Script.{free_at}
use Rattle.player.proofs.PlayerLaws.{plays_transport}
use Rattle.player.proofs.call.play_transport.Goals as goal
use Rattle.player.proofs.call.play_transport.Goals.{Start}

-- the record as it came
abbrev given : Start → Reach
given c =
    let a = c.args in
    reach_of a.bed.now a.depth.now a.discharge.now a.mass.now a.base.now a.carried.now a.x a.held

pub returns : goal.returns
returns c out =
    rw c.came_to.ensures (plays_transport (given (goal.at.returns c).Start) (free_at c.args.words.now c.args.at) (rw c.with_wants-wanted.ensures at c.transport-r.ensures) out)
