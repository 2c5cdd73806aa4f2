-- `jemmyfern_c::jemmyfern_greatest_step` meets its contract. Assumes nothing.
use Rattle.jemmyfern_c.proofs.Returns.{greatest_returns}
use Rattle.jemmyfern_c.proofs.jemmyfern_greatest_step.Goals as goal

pub returns : goal.returns
returns c =
    greatest_returns _ _ _ _ _ _ _ _ _ _ _ _ _ _
    c.load-list.ensures c.given_held-held.ensures c.greatest_step-a.ensures c.into.ensures
