-- `player::call::play_opening` meets its contract: the part of the sheets that is lent is the one that the words name. Assumes nothing.
use mathlib.Core.Path.{sym}
use Prim.Native.Nat.{◌+◌}
use Rattle.reach.specs.Reach.{Reach, reach_of}
use Rattle.script.specs.Script.{free_at, outlets_from}
use Rattle.player.proofs.PlayerLaws.{plays_opening, cut_part}
use Rattle.player.proofs.call.play_opening.Goals as goal
use Rattle.player.proofs.call.play_opening.Goals.{Start}

-- the record as it came
abbrev given : Start → Reach
given c =
    let a = c.args in
    reach_of a.bed.now a.depth.now a.discharge.now a.mass.now a.base.now a.carried.now a.x a.held

pub returns : goal.returns
returns c out =
    let a = c.args in
    let part = cut_part a.sheets.now _ _ _ _ _ c.min-start.ensures c.min.ensures c.max-end.ensures in
    let o = c.opened in
    rw (sym part)
    (plays_opening (given (goal.at.returns c).Start) (free_at a.words.now a.at) _ (outlets_from a.words.now (a.at + 45)) o.result (rw c.outlets_from-outlets.ensures at c.open_sheet-r.ensures) o.ensures.value o.ensures.value_2 out)
