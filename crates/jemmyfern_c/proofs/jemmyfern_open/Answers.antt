-- `jemmyfern_c::jemmyfern_open` meets its contract. Assumes nothing.
use Rattle.jemmyfern_c.proofs.Returns.{opening_returns}
use Rattle.jemmyfern_c.proofs.jemmyfern_open.Goals as goal

pub returns : goal.returns
returns c =
    opening_returns _ _ _ _ _ _ _ _ _ _ _ _ _ _ _ _ _ _ _
    c.load-list.ensures c.open_sheet-a.ensures c.room_of-room.ensures c.store.ensures c.into.ensures
