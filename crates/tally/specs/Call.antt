-- Document 01, 'The list of demand 3 and its tally': the list, whose entries are calls on a record with their free arguments, and the record
-- that each call leaves. Document 02, point 1: 'the list goes with the record, each call being given it as the last left it'.
use Rattle.std.specs.Prelude.{cond, List, [], ◌∷◌, ℕ, eqb, ℤ, get_or}
use Rattle.outlet.specs.Outlets.{outlet_at, each_outlet, loaded}
use Rattle.outlet.specs.declared.Outlet.{Outlet}
use Rattle.outlet.specs.declared.Outlets.{Outlets}
use Rattle.reach.specs.Reach.{Reach, reach_of, with_totals}
use Rattle.reach.specs.Grounds.{number_of}
use Rattle.reach.specs.Outcome.{Outcome}
use Rattle.reach.specs.declared.boundary.Boundary.{Boundary}
use Rattle.transport.specs.Calls.{transport, set_boundaries}
use Rattle.timestep.specs.GreatestStep.{greatest}
use Rattle.update.specs.Step.{step}
use Rattle.sheet.specs.Opening.{opening}
use Rattle.sheet.specs.declared.opening.OpenAnswer.{OpenAnswer}
use Rattle.writing.specs.Writing.{write_refusal}

pub data Call : Type 0 where
  -- a step of t ms with Strickler's coefficient F (document 02, point 4)
  step_call : (t F : ℕ) → Call
  transport_call : Call
  boundaries_call : (given : List Boundary) → Call
  greatest_call : Call
  -- a write into an output of `room` bytes: no other property of the output concerns the record
  write_call : (room : ℕ) → Call
  -- an opening in between, which is lent a list of its own
  open_call : (sheet : List ℕ) (lent : List Outlet) → Call

-- what is free at every call on the record, whichever it is (an opening has none of it). A field that is added enters what each link says that
-- its function was given (trace)
pub record Free : Type 0 where
  -- 'only the wants may be changed in between': what each outlet wants at this call, in list order
  pub wants : List ℕ

-- an entry of the list: what is free at every call, and the call with its own arguments
pub record Entry : Type 0 where
  pub free : Free
  pub call : Call

-- ---- what a call is given

-- an outlet with another want
abbrev pub wanting_outlet : (want : ℕ) → Outlet → Outlet
wanting_outlet w o = record { cell = o.cell; want = w; drawn = o.drawn; water = o.water; mass = o.mass }

-- the list with other wants
unfoldable pub wanting : (wants : List ℕ) → Outlets → Outlets
wanting ws os = each_outlet (λ k. wanting_outlet (get_or ws k 0) (outlet_at os k)) os

-- the record with another list lent in place of its own
abbrev pub lending : Outlets → Reach → Reach
lending os s =
    reach_of s.bed s.depth s.discharge s.mass s.base s.carried s.cell_length (with_totals s.held.ledger os s.held)

-- the record that a call on the record s is given: with the wants of the call, everything else as it was
abbrev pub with_wants : (wants : List ℕ) → Reach → Reach
with_wants ws s = lending (wanting ws s.held.outlets) s

-- ---- what a call comes to

-- the number of the first ground that stops the call, 0 for none
abbrev pub refusal_of : Reach → Free → Call → ℕ
refusal_of s f (step_call t F) = (step (with_wants f.wants s) t F).refusal
refusal_of s f transport_call = (transport (with_wants f.wants s)).refusal
refusal_of s f (boundaries_call es) = (set_boundaries (with_wants f.wants s) es).refusal
refusal_of s f greatest_call = (greatest (with_wants f.wants s)).refusal
refusal_of s f (write_call room) = number_of (write_refusal (with_wants f.wants s) room)
refusal_of s f (open_call sheet os) = (opening sheet (lending (loaded os) s)).refusal

-- what the list goes on with after an opening in between of the record s that came to o: a refused one leaves the columns, and the list goes on
-- with the boundaries, the ledger and the outlets that it had
abbrev pub after_opening : Outcome → Reach → Reach
after_opening o s = cond (eqb o.refusal 0) o.reach s

-- the record that the call leaves
abbrev pub next : Reach → Free → Call → Reach
next s f (step_call t F) = (step (with_wants f.wants s) t F).reach
next s f transport_call = (transport (with_wants f.wants s)).reach
next s f (boundaries_call es) = (set_boundaries (with_wants f.wants s) es).reach
next s f greatest_call = with_wants f.wants s
next s f (write_call room) = with_wants f.wants s
next s f (open_call sheet os) = after_opening (opening sheet (lending (loaded os) s)) s

-- and that a list leaves, each call getting the record, boundaries, ledger and outlets as the last left them
unfoldable pub final : Reach → List Entry → Reach
final s [] = s
final s (e ∷ es) = final (next s e.free e.call) es

-- the same by the opening's answer r and the columns at its exit: of an accepted one X, boundaries, ledger and outlets of its answer; after a
-- refused one those that the list had, of the record s
abbrev pub goes_on : Reach → OpenAnswer → List ℤ → List ℕ → List ℤ → List ℕ → List ℕ → List ℤ → Reach
goes_on s r bed depth discharge mass base carried =
    cond (eqb r.refusal 0)
    (reach_of bed depth discharge mass base carried r.cell_length r.held)
    (reach_of bed depth discharge mass base carried s.cell_length s.held)
