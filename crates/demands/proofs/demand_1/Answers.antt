use Rattle.demands.proofs.Demand1Laws.{asks_nothing, refused_by_the_first, stays_as_it_came}
use Rattle.demands.proofs.demand_1.Goals as goal

pub returns : goal.returns
returns c = record { asks_nothing = asks_nothing; refused_by_the_first = refused_by_the_first; stays_as_it_came = stays_as_it_came }
