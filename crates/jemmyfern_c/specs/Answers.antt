-- Not the paper's: what the C functions answer. The outlets of what is held are not among it: they are in the list that the caller lent.
use Rattle.std.specs.Prelude.{◌≡◌, List, drop}
use Rattle.outlet.specs.Outlets.{outlets_most, loaded}
use Rattle.outlet.specs.declared.Outlet.{Outlet}
use Rattle.reach.specs.Reach.{held_with}
use Rattle.reach.specs.declared.boundary.Boundary.{Boundary}
use Rattle.reach.specs.declared.held.Held.{Held}
use Rattle.reach.specs.declared.ledger.Ledger.{Ledger}
use Rattle.sheet.specs.declared.opening.OpenAnswer.{OpenAnswer}
use Rattle.stepping.specs.declared.step.StepAnswer.{StepAnswer}
use Rattle.timestep.specs.declared.GreatestAnswer.{GreatestAnswer}
use Rattle.transport.specs.declared.TransportAnswer.{TransportAnswer}
use Rattle.writing.specs.declared.write.WriteAnswer.{WriteAnswer}
use Rattle.jemmyfern_c.specs.declared.answer.Answer.{Answer}
use Rattle.jemmyfern_c.specs.declared.answer.Opened.{Opened}
use Rattle.jemmyfern_c.specs.declared.answer.Stepped.{Stepped}
use Rattle.jemmyfern_c.specs.declared.answer.Greatest.{Greatest}

-- what a call is given to hold: both boundaries and the ledger, and the outlets of the lent list
abbrev pub given_held : List Boundary → Ledger → List Outlet → Held
given_held es k os = held_with es k (loaded os)

-- what lies behind the first 32 outlets of a list is as it came
abbrev pub RestKept : (os os' : List Outlet) → Type 0
RestKept os os' = drop outlets_most os' ≡ drop outlets_most os

-- ---- an answer without its outlets

abbrev pub opened_of : OpenAnswer → Opened
opened_of a = record { refusal = a.refusal; cell_length = a.cell_length; boundaries = a.held.boundaries; ledger = a.held.ledger }

abbrev pub stepped_of : StepAnswer → Stepped
stepped_of a = record { refusal = a.refusal; boundaries = a.held.boundaries; ledger = a.held.ledger; transported = a.transported }

abbrev pub transported_of : TransportAnswer → Answer
transported_of a = record { refusal = a.refusal; boundaries = a.held.boundaries; ledger = a.held.ledger }

abbrev pub greatest_of : GreatestAnswer → Greatest
greatest_of a = record { refusal = a.refusal; boundaries = a.held.boundaries; ledger = a.held.ledger; time = a.time; place = a.place }

abbrev pub written_of : WriteAnswer → Answer
written_of a = record { refusal = a.refusal; boundaries = a.held.boundaries; ledger = a.held.ledger }

-- ---- an answer with the outlets of a list

abbrev pub open_with : Opened → List Outlet → OpenAnswer
open_with r os = record { refusal = r.refusal; cell_length = r.cell_length; held = given_held r.boundaries r.ledger os }

abbrev pub step_with : Stepped → List Outlet → StepAnswer
step_with r os = record { refusal = r.refusal; held = given_held r.boundaries r.ledger os; transported = r.transported }

abbrev pub transport_with : Answer → List Outlet → TransportAnswer
transport_with r os = record { refusal = r.refusal; held = given_held r.boundaries r.ledger os }

abbrev pub greatest_with : Greatest → List Outlet → GreatestAnswer
greatest_with r os = record { refusal = r.refusal; held = given_held r.boundaries r.ledger os; time = r.time; place = r.place }

abbrev pub write_with : Answer → List Outlet → WriteAnswer
write_with r os = record { refusal = r.refusal; held = given_held r.boundaries r.ledger os }
