-- `transport::transport` meets its contract: the setting of the boundaries that are held. Assumes nothing.
use Rattle.transport.proofs.CallsLaws.{transport_is}
use Rattle.transport.proofs.transport.Goals as goal

pub returns : goal.returns
returns c =
    let k = c.set_boundaries in
    rw (transport_is _) k.ensures
