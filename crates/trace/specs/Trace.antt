-- Demand 3 of the functions that are delivered, the six of include/jemmyfern.h: a list of calls is a chain whose links are their own contracts, and after every
-- such chain from an accepted opening on, `Holds` says what holds.
use Rattle.std.specs.Prelude.{◌≡◌, List, [], ◌∷◌, ℕ, ◌<◌, length, get_or}
use contract.Lifetimes.{Lfts}
use Rattle.std.specs.Borrow.{Bor, MutBor}
use Rattle.numbers.specs.Index.{tabulate}
use Rattle.outlet.specs.Outlets.{no_outlet, loaded}
use Rattle.outlet.specs.declared.Outlet.{Outlet}
use Rattle.reach.specs.Reach.{Reach, reach_of}
use Rattle.reach.specs.declared.boundary.Boundary.{Boundary}
use Rattle.tally.specs.Call.{Free, Call, Entry, step_call, transport_call, boundaries_call, greatest_call, write_call, open_call, wanting_outlet, wanting, lending, with_wants, refusal_of, final, goes_on}
use Rattle.tally.specs.Tally.{start, run}
use Rattle.tally.specs.Holds.{Holds}
use Rattle.jemmyfern_c.specs.Answers.{given_held, open_with}
use Rattle.jemmyfern_c.specs.declared.answer.Answer.{Answer}
use Rattle.jemmyfern_c.specs.declared.answer.Opened.{Opened}
use Rattle.jemmyfern_c.specs.declared.answer.Stepped.{Stepped}
use Rattle.jemmyfern_c.specs.declared.answer.Greatest.{Greatest}
use Rattle.jemmyfern_c.proofs.Functions.{Lent, given, OpenLeft, StepLeft, TransportLeft, OpenEnsures, StepEnsures, TransportEnsures, SettingEnsures, GreatestEnsures, WriteEnsures}

-- How to read a link from the record s to the record s'. l are the columns and the list of outlets that the caller lends, κs the lifetimes of the loans, r what the function
-- answers, e what stands in the columns and in the list that it may write when it has returned. f is what is free at every call on the record: the wants.
--   lends    s with the wants of the call is the record that the function is given: the lent columns as they stand, X, boundaries and ledger as last handed back, and the lent
--            list by value (`given`, `loaded`). 'The list goes with the record, each call being given it as the last left it; only the wants may be changed in between'
--   ensured  the function's `ensures` of just these (`Post`), which computes to the call's definition: of a step `StepCameTo (given ..) t F (step_with r ..) ..`, that is
--            r.refusal ≡ step (given ..) t F .refusal and so on, field by field; and that what lies behind the first 32 outlets of the list is as it came (`RestKept`).
--            `came`, in the contracts of src/lib.rt, is the record at entry: `given`
--   left     s' is what stands in the columns and in the list, with X and what the function handed back
-- The tally finds out by itself which calls are accepted, on its own record (`refusal_of` in `count`): it is the program's own answer, r.refusal (`SameAnswer`, below).

-- jemmyfern_step, of t with Strickler's coefficient F
pub record StepLink (s : Reach) (f : Free) (t F : ℕ) (s' : Reach) : Type 0 where
  pub κs : Lfts 7
  pub l : Lent
  pub lends : with_wants f.wants s ≡ given l s.cell_length s.held
  pub r : Stepped
  pub e : StepLeft
  pub ensured : StepEnsures κs l s.cell_length s.held t F r e
  pub left : s' ≡ reach_of l.bed.now e.depth e.discharge e.mass e.base e.carried s.cell_length (given_held r.boundaries r.ledger e.outlets)

-- jemmyfern_transport
pub record TransportLink (s : Reach) (f : Free) (s' : Reach) : Type 0 where
  pub κs : Lfts 7
  pub l : Lent
  pub lends : with_wants f.wants s ≡ given l s.cell_length s.held
  pub r : Answer
  pub e : TransportLeft
  pub ensured : TransportEnsures κs l s.cell_length s.held r e
  pub left : s' ≡ reach_of l.bed.now l.depth.now l.discharge.now e.mass e.base e.carried s.cell_length (given_held r.boundaries r.ledger e.outlets)

-- jemmyfern_set_boundaries, given a new pair
pub record BoundariesLink (s : Reach) (f : Free) (new : List Boundary) (s' : Reach) : Type 0 where
  pub κs : Lfts 7
  pub l : Lent
  pub lends : with_wants f.wants s ≡ given l s.cell_length s.held
  pub r : Answer
  pub e : TransportLeft
  pub ensured : SettingEnsures κs l s.cell_length s.held new r e
  pub left : s' ≡ reach_of l.bed.now l.depth.now l.discharge.now e.mass e.base e.carried s.cell_length (given_held r.boundaries r.ledger e.outlets)

-- jemmyfern_greatest_step
pub record GreatestLink (s : Reach) (f : Free) (s' : Reach) : Type 0 where
  pub κs : Lfts 7
  pub l : Lent
  pub lends : with_wants f.wants s ≡ given l s.cell_length s.held
  pub r : Greatest
  pub ensured : GreatestEnsures κs l s.cell_length s.held r
  pub left : s' ≡ given l s.cell_length (given_held r.boundaries r.ledger l.outlets.now)

-- jemmyfern_write, into an output of `room` bytes, which is none of the columns
pub record WriteLink (s : Reach) (f : Free) (room : ℕ) (s' : Reach) : Type 0 where
  pub κs : Lfts 8
  pub l : Lent
  pub lends : with_wants f.wants s ≡ given l s.cell_length s.held
  pub out : MutBor (List ℕ)
  pub long : room ≡ length out.now
  pub r : Answer
  pub written : List ℕ
  pub ensured : WriteEnsures κs l s.cell_length s.held out r written
  pub left : s' ≡ given l s.cell_length (given_held r.boundaries r.ledger l.outlets.now)

-- jemmyfern_open, which is lent the columns of s and a list of its own: 'a refused opening in between leaves the columns, and the list goes on with the ends and book it had'
pub record OpenLink (s : Reach) (sheet : List ℕ) (outlets : List Outlet) (s' : Reach) : Type 0 where
  pub κs : Lfts 8
  pub bytes : Bor (List ℕ)
  pub fed : sheet ≡ bytes.now
  pub l : Lent
  pub lends : lending (loaded outlets) s ≡ given l s.cell_length s.held
  pub r : Opened
  pub e : OpenLeft
  pub ensured : OpenEnsures κs bytes l r e
  pub left : s' ≡ goes_on s (open_with r e.outlets) e.bed e.depth e.discharge e.mass e.base e.carried

abbrev pub Link : Reach → Free → Call → Reach → Type 0
Link s f (step_call t F) s' = StepLink s f t F s'
Link s f transport_call s' = TransportLink s f s'
Link s f (boundaries_call new) s' = BoundariesLink s f new s'
Link s f greatest_call s' = GreatestLink s f s'
Link s f (write_call room) s' = WriteLink s f room s'
Link s f (open_call sheet outlets) s' = OpenLink s sheet outlets s'

-- 'each call getting the record, ends and book as the last left them', and the outlets
pub data Chain : Reach → List Entry → Reach → Type 0 where
  done : {s : Reach} → Chain s [] s
  then : {s s' s'' : Reach} {e : Entry} {es : List Entry} → Link s e.free e.call s' → Chain s' es s'' → Chain s (e ∷ es) s''

-- Demand 3. 'For every list of steps, settlings, end settings, greatest-step calls and writes from an accepted opening on, refused ones
-- included, whatever times, ends and outputs they are given': an opening of a sheet into whatever columns and with whatever outlets were lent, which
-- was not refused, then any list of calls.
abbrev pub Demand3 : Type 0
Demand3 =
    (sheet : List ℕ) (outlets : List Outlet) (es : List Entry) (before opened after : Reach) →
    (first : OpenLink before sheet outlets opened) →
    first.r.refusal ≡ 0 →
    Chain opened es after →
    Holds (run (start sheet (loaded outlets)) es) after

-- It is of every list: from every record whose outlets are those of a lent list, every list of calls has a chain, to the record that the definitions give.
-- (A link that nothing inhabits would make `Demand3` say nothing of a list that has it.)
abbrev pub EveryChain : Type 0
EveryChain = (s : Reach) (outlets : List Outlet) (es : List Entry) → s.held.outlets ≡ loaded outlets → Chain s es (final s es)

-- and of every call, whatever loans, lifetimes and output it is given: a link asks no more than that s with the wants is what was lent and that the function ensured
-- what it ensures
pub record EveryCall : Type 0 where
  pub step : (s : Reach) (f : Free) (t F : ℕ) (κs : Lfts 7) (l : Lent) (r : Stepped) (e : StepLeft) → with_wants f.wants s ≡ given l s.cell_length s.held
      → StepEnsures κs l s.cell_length s.held t F r e
      → StepLink s f t F (reach_of l.bed.now e.depth e.discharge e.mass e.base e.carried s.cell_length (given_held r.boundaries r.ledger e.outlets))
  pub transport : (s : Reach) (f : Free) (κs : Lfts 7) (l : Lent) (r : Answer) (e : TransportLeft) → with_wants f.wants s ≡ given l s.cell_length s.held
      → TransportEnsures κs l s.cell_length s.held r e
      → TransportLink s f (reach_of l.bed.now l.depth.now l.discharge.now e.mass e.base e.carried s.cell_length (given_held r.boundaries r.ledger e.outlets))
  pub set_boundaries_lem : (s : Reach) (f : Free) (new : List Boundary) (κs : Lfts 7) (l : Lent) (r : Answer) (e : TransportLeft)
      → with_wants f.wants s ≡ given l s.cell_length s.held
      → SettingEnsures κs l s.cell_length s.held new r e
      → BoundariesLink s f new (reach_of l.bed.now l.depth.now l.discharge.now e.mass e.base e.carried s.cell_length (given_held r.boundaries r.ledger e.outlets))
  pub greatest_step_lem : (s : Reach) (f : Free) (κs : Lfts 7) (l : Lent) (r : Greatest) → with_wants f.wants s ≡ given l s.cell_length s.held
      → GreatestEnsures κs l s.cell_length s.held r → GreatestLink s f (given l s.cell_length (given_held r.boundaries r.ledger l.outlets.now))
  pub write : (s : Reach) (f : Free) (κs : Lfts 8) (l : Lent) (out : MutBor (List ℕ)) (r : Answer) (written : List ℕ) → with_wants f.wants s ≡ given l s.cell_length s.held
      → WriteEnsures κs l s.cell_length s.held out r written
      → WriteLink s f (length out.now) (given l s.cell_length (given_held r.boundaries r.ledger l.outlets.now))
  pub opening : (s : Reach) (κs : Lfts 8) (sheet : Bor (List ℕ)) (l : Lent) (r : Opened) (e : OpenLeft) → lending (loaded l.outlets.now) s ≡ given l s.cell_length s.held
      → OpenEnsures κs sheet l r e
      → OpenLink s sheet.now l.outlets.now (goes_on s (open_with r e.outlets) e.bed e.depth e.discharge e.mass e.base e.carried)

-- what each outlet of a lent list wants
abbrev pub wants_of : List Outlet → List ℕ
wants_of os = tabulate (length os) (λ k. (get_or os k no_outlet).want)

-- and of whatever wants: 'only the wants may be changed in between'. A list that differs from the one left in nothing but wants is, by value, the one left with other
-- wants, as `lends` has it
abbrev pub EveryWants : Type 0
EveryWants =
    (left lent : List Outlet) →
    length lent ≡ length left →
    ((k : ℕ) → k < length left → get_or lent k no_outlet ≡ wanting_outlet (get_or lent k no_outlet).want (get_or left k no_outlet)) →
    wanting (wants_of lent) (loaded left) ≡ loaded lent

-- what the function of a link answered: 0 or the number of its refusal
abbrev pub answer : (s : Reach) (f : Free) (c : Call) (s' : Reach) → Link s f c s' → ℕ
answer s f (step_call t F) s' k = k.r.refusal
answer s f transport_call s' k = k.r.refusal
answer s f (boundaries_call new) s' k = k.r.refusal
answer s f greatest_call s' k = k.r.refusal
answer s f (write_call room) s' k = k.r.refusal
answer s f (open_call sheet outlets) s' k = k.r.refusal

-- After every list, the tally's 'accepted' or 'refused' of a next call is the program's own answer to it.
abbrev pub SameAnswer : Type 0
SameAnswer =
    (sheet : List ℕ) (outlets : List Outlet) (es : List Entry) (before opened s s' : Reach) (f : Free) (c : Call) →
    (first : OpenLink before sheet outlets opened) → first.r.refusal ≡ 0 →
    Chain opened es s →
    (k : Link s f c s') →
    answer s f c s' k ≡ refusal_of (run (start sheet (loaded outlets)) es).own f c
