use Rattle.tally.proofs.TallyLaws.{of_definitions}
use Rattle.tally.proofs.of_definitions.Goals as goal

pub returns : goal.returns
returns c = of_definitions
