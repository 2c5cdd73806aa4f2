-- `jemmyfern_c::jemmyfern_write` meets its contract. Assumes nothing.
use Rattle.jemmyfern_c.proofs.Returns.{write_returns}
use Rattle.jemmyfern_c.proofs.jemmyfern_write.Goals as goal

pub returns : goal.returns
returns c =
    write_returns _ _ _ _ _ _ _ _ _ _ _ _ _ _ _ _
    c.load-list.ensures c.given_held-held.ensures c.write_sheet-a.ensures c.into.ensures
