-- `jemmyfern_c::jemmyfern_transport` meets its contract. Assumes nothing.
use Rattle.jemmyfern_c.proofs.Returns.{transport_returns}
use Rattle.jemmyfern_c.proofs.jemmyfern_transport.Goals as goal

pub returns : goal.returns
returns c =
    transport_returns _ _ _ _ _ _ _ _ _ _ _ _ _ _ _ _ _ _ _
    c.load-list.ensures c.given_held-held.ensures c.transport-a.ensures c.room_of-room.ensures c.store.ensures c.into.ensures
