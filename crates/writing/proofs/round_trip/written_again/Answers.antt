use Rattle.writing.proofs.RoundTripLaws.{written_again}
use Rattle.writing.proofs.round_trip.written_again.Goals as goal

-- src/round_trip.rt
pub returns : goal.returns
returns c = written_again
