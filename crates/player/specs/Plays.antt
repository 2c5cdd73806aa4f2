-- Not the paper's: what one call of the list answers beside its number, and what it makes of a lent output. A reader of the model may skip
-- this file.
use Rattle.std.specs.Prelude.{◌≡◌, Bool, false, List, ◌++◌, ℕ, ℤ, take, drop}
use Rattle.reach.specs.Reach.{Reach, reach_of}
use Rattle.reach.specs.declared.held.Held.{Held}
use Rattle.timestep.specs.GreatestStep.{greatest}
use Rattle.update.specs.Step.{transports}
use Rattle.writing.specs.Writing.{output_after}
use Rattle.tally.specs.Call.{Free, Call, step_call, transport_call, boundaries_call, greatest_call, write_call, open_call, with_wants, refusal_of, next}
use Rattle.player.specs.declared.Played.{Played}

abbrev pub transported_by : Reach → Free → Call → Bool
transported_by s f (step_call t F) = transports (with_wants f.wants s) t F
transported_by s f transport_call = false
transported_by s f (boundaries_call es) = false
transported_by s f greatest_call = false
transported_by s f (write_call room) = false
transported_by s f (open_call sheet os) = false

abbrev pub time_by : Reach → Free → Call → ℕ
time_by s f (step_call t F) = 0
time_by s f transport_call = 0
time_by s f (boundaries_call es) = 0
time_by s f greatest_call = (greatest (with_wants f.wants s)).time
time_by s f (write_call room) = 0
time_by s f (open_call sheet os) = 0

abbrev pub place_by : Reach → Free → Call → ℕ
place_by s f (step_call t F) = 0
place_by s f transport_call = 0
place_by s f (boundaries_call es) = 0
place_by s f greatest_call = (greatest (with_wants f.wants s)).place
place_by s f (write_call room) = 0
place_by s f (open_call sheet os) = 0

-- a write is lent the first `room` bytes of the output
abbrev pub output_of : Reach → Free → Call → (out : List ℕ) → List ℕ
output_of s f (step_call t F) out = out
output_of s f transport_call out = out
output_of s f (boundaries_call es) out = out
output_of s f greatest_call out = out
output_of s f (write_call room) out = output_after (with_wants f.wants s) (take room out) ++ drop room out
output_of s f (open_call sheet os) out = out

-- the answer of a call that gives no more than its number
abbrev pub came_to : (refusal X : ℕ) → Held → Played
came_to n X k = record { refusal = n; transported = false; time = 0; place = 0; cell_length = X; held = k }

-- one call came out as the definitions say: every field of its answer, the record that it left in the columns, and the output
pub record Plays (s : Reach) (f : Free) (c : Call) (out : List ℕ) (r : Played) (bed : List ℤ) (depth : List ℕ) (discharge : List ℤ) (mass base : List ℕ) (carried : List ℤ) (out' : List ℕ) : Type 0 where
  pub refusal_is : r.refusal ≡ refusal_of s f c
  pub transported_is : r.transported ≡ transported_by s f c
  pub time_is : r.time ≡ time_by s f c
  pub place_is : r.place ≡ place_by s f c
  pub reach_is : reach_of bed depth discharge mass base carried r.cell_length r.held ≡ next s f c
  pub output_is : out' ≡ output_of s f c out
