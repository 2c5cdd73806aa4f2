use Rattle.writing.proofs.RoundTripLaws.{reads_back}
use Rattle.writing.proofs.round_trip.reads_back.Goals as goal

-- src/round_trip.rt
pub returns : goal.returns
returns c = reads_back
