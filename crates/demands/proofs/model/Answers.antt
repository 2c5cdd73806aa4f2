use Rattle.demands.proofs.ModelLaws.{amounts, drawing, with_no_outlet, no_grain_kept, greatest_step_lem, one_fastest, not_too_long, stand_again}
use Rattle.demands.proofs.model.Goals as goal

pub returns : goal.returns
returns c = record { amounts = amounts; drawing = drawing; with_no_outlet = with_no_outlet; no_grain_kept = no_grain_kept; greatest_step = greatest_step_lem; one_fastest = one_fastest; not_too_long = not_too_long; stands_again = stand_again }
