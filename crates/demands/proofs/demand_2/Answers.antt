use Rattle.demands.proofs.Demand2Laws.{digit_for_digit, read_back_lem, wrote_again}
use Rattle.demands.proofs.demand_2.Goals as goal

pub returns : goal.returns
returns c = record { digit_for_digit = digit_for_digit; read_back = read_back_lem; wrote_again = wrote_again }
