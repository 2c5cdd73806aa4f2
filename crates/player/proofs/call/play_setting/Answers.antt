-- `player::call::play_setting` meets its contract. Assumes nothing.
use Rattle.reach.specs.Reach.{Reach, reach_of}
use Rattle.script.specs.Script.{free_at}
use Rattle.player.proofs.PlayerLaws.{plays_setting}
use Rattle.player.proofs.call.play_setting.Goals as goal
use Rattle.player.proofs.call.play_setting.Goals.{Start}

-- the record as it came
abbrev given : Start → Reach
given c =
    let a = c.args in
    reach_of a.bed.now a.depth.now a.discharge.now a.mass.now a.base.now a.carried.now a.x a.held

pub returns : goal.returns
returns c out =
    let e = rw (c.boundaries_from-given.ensures, c.with_wants-wanted.ensures) at c.set_boundaries-r.ensures in
    rw c.came_to.ensures (plays_setting (given (goal.at.returns c).Start) (free_at c.args.words.now c.args.at) _ e out)
