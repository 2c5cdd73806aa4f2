-- `jemmyfern_c::jemmyfern_step` meets its contract. Assumes nothing.
use Rattle.jemmyfern_c.proofs.Returns.{step_returns}
use Rattle.jemmyfern_c.proofs.jemmyfern_step.Goals as goal

pub returns : goal.returns
returns c =
    step_returns _ _ _ _ _ _ _ _ _ _ _ _ _ _ _ _ _ _ _ _ _ _ _
    c.load-list.ensures c.given_held-held.ensures c.step-a.ensures c.room_of-room.ensures c.store.ensures c.into.ensures
