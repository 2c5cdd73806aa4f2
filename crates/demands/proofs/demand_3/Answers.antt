use Rattle.demands.proofs.Demand3Laws.{after_every_list, no_depth_below_zero, no_want_exceeded, available_from_zero, tally_course}
use Rattle.demands.proofs.demand_3.Goals as goal

pub returns : goal.returns
returns c = record { after_every_list = after_every_list; no_depth_below_zero = no_depth_below_zero; no_want_exceeded = no_want_exceeded; available_from_zero = available_from_zero; tally_course = tally_course }
