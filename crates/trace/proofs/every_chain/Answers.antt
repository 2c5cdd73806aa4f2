use Rattle.trace.proofs.TraceLaws.{every_chain, every_call, every_wants}
use Rattle.trace.proofs.every_chain.Goals as goal

pub returns : goal.returns
returns c = record { every_chain = every_chain; every_call = every_call; every_wants = every_wants }
