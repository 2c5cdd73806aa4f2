-- `jemmyfern_c::jemmyfern_set_boundaries` meets its contract. Assumes nothing.
use Rattle.jemmyfern_c.proofs.Returns.{setting_returns}
use Rattle.jemmyfern_c.proofs.jemmyfern_set_boundaries.Goals as goal

pub returns : goal.returns
returns c =
    setting_returns _ _ _ _ _ _ _ _ _ _ _ _ _ _ _ _ _ _ _ _
    c.load-list.ensures c.given_held-held.ensures c.set_boundaries-a.ensures c.room_of-room.ensures c.store.ensures c.into.ensures
