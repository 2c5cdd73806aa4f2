use Rattle.trace.proofs.TraceLaws.{same_answer}
use Rattle.trace.proofs.same_answer.Goals as goal

pub returns : goal.returns
returns c = same_answer
