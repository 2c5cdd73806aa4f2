-- A chain of the functions' contracts is a list of the definitions' calls, so what holds of these holds of it; and every list has its chain.
use mathlib.Core.Path.{◌≡◌, refl, sym, ap, ◌∙◌, subst}
use mathlib.Core.Bool.{Bool, true, false, cond}
use mathlib.Core.List.{List, [], ◌∷◌}
use Prim.Native.Nat.{ℕ, ◌<◌, ◌≤◌}
use native.Mathlib.Omega.{arith}
use borrow.Author.Tests.{ltb-true, ltb-false}
use contract.Lifetimes.{Lfts}
use denote.Ref.{Bor, MutBor, as_bor}
use lib.Dec.{eqb, ltb}
use lib.ListN.{length, get_or, replicate, length-replicate, get_or-eq_default}
use lib.Seq.{ext_get_or}
use Rattle.numbers.proofs.IndexLaws.{get_or_tabulate}
use Rattle.outlet.specs.Outlets.{outlets_most, no_outlet, outlet_at, over, loaded}
use Rattle.outlet.specs.declared.Outlet.{Outlet}
use Rattle.outlet.specs.declared.Outlets.{Outlets}
use Rattle.outlet.proofs.LentLaws.{AsLoaded, length_loaded, outlet_loaded, loaded_as_loaded, each_at_room, each_as_loaded, loaded_over}
use Rattle.reach.specs.Reach.{Reach}
use Rattle.reach.specs.Grounds.{number_of}
use Rattle.reach.specs.Outcome.{Outcome}
use Rattle.reach.specs.declared.boundary.Boundary.{Boundary}
use Rattle.reach.specs.declared.held.Held.{Held}
use Rattle.transport.specs.Calls.{transport, set_boundaries, CameTo}
use Rattle.transport.specs.declared.TransportAnswer.{TransportAnswer}
use Rattle.transport.proofs.CallsLaws.{left_by_transport, left_by_setting}
use Rattle.transport.proofs.LoadedLaws.{transport_as_loaded, setting_as_loaded}
use Rattle.timestep.specs.GreatestStep.{greatest}
use Rattle.timestep.specs.declared.GreatestAnswer.{GreatestAnswer}
use Rattle.timestep.proofs.GreatestLaws.{greatest_held}
use Rattle.update.specs.Step.{step, transports}
use Rattle.update.proofs.LoadedLaws.{step_as_loaded}
use Rattle.stepping.specs.StepCall.{StepCameTo}
use Rattle.stepping.specs.declared.step.StepAnswer.{StepAnswer}
use Rattle.stepping.proofs.StepCallLaws.{left_by_step}
use Rattle.sheet.specs.Opening.{opening, lent, OpenCameTo}
use Rattle.sheet.specs.declared.opening.OpenAnswer.{OpenAnswer}
use Rattle.sheet.proofs.LoadedLaws.{opening_as_loaded}
use Rattle.writing.specs.Writing.{write_refusal, output_after}
use Rattle.tally.specs.Call.{Free, Call, Entry, step_call, transport_call, boundaries_call, greatest_call, write_call, open_call, wanting_outlet, wanting, lending, with_wants, refusal_of, next, final}
use Rattle.tally.specs.Tally.{start, run}
use Rattle.tally.specs.Holds.{Holds}
use Rattle.tally.proofs.CallLaws.{open_next, open_number, open_accepted}
use Rattle.tally.proofs.TallyLaws.{of_definitions}
use Rattle.jemmyfern_c.specs.Answers.{opened_of, stepped_of, transported_of, greatest_of, open_with}
use Rattle.jemmyfern_c.proofs.Functions.{Lent, given}
use Rattle.jemmyfern_c.proofs.Returns.{step_returns, transport_returns, setting_returns, opening_returns, greatest_returns}
use Rattle.trace.specs.Trace.{StepLink, TransportLink, BoundariesLink, GreatestLink, WriteLink, OpenLink, Link, Chain, done, then, Demand3, EveryChain, EveryCall, wants_of, EveryWants, answer, SameAnswer}

-- the record that a link was given
abbrev of : Lent → Reach → Reach
of l s = given l s.cell_length s.held

-- what is lent to an opening
abbrev columns : Reach → Outlets → Reach
columns s os = lent s.bed s.depth s.discharge s.mass s.base s.carried os

-- an opening came out as the definition says, of the columns of s and the list
open_came : {s s' : Reach} {sheet : List ℕ} {outlets : List Outlet} → (k : OpenLink s sheet outlets s')
    → OpenCameTo (opening sheet (columns s (loaded outlets))) (open_with k.r k.e.outlets) k.e.bed k.e.depth k.e.discharge k.e.mass k.e.base k.e.carried
open_came {s} {s'} {sheet} {outlets} k =
    let to : Outcome → Type 0 = λ o. OpenCameTo o (open_with k.r k.e.outlets) k.e.bed k.e.depth k.e.discharge k.e.mass k.e.base k.e.carried in
    subst (λ (b : List ℕ). to (opening b (columns s (loaded outlets)))) (sym k.fed)
    (subst (λ (x : Reach). to (opening k.bytes.now (columns x x.held.outlets))) (sym k.lends) k.ensured.0)

opened : {s s' : Reach} {sheet : List ℕ} {outlets : List Outlet} (f : Free) → OpenLink s sheet outlets s' → s' ≡ next s f (open_call sheet outlets)
opened {s} {s'} {sheet} {outlets} f k = k.left ∙ open_next s f sheet outlets (open_came k)

-- each contract gives the record that `next` says, of the record that was given; and that was s with the wants
pub link : (s : Reach) (f : Free) (c : Call) (s' : Reach) → Link s f c s' → s' ≡ next s f c
link s f (step_call t F) s' k = k.left ∙ left_by_step (of k.l s) t F k.ensured.0 ∙ ap (λ (x : Reach). (step x t F).reach) (sym k.lends)
link s f transport_call s' k = k.left ∙ left_by_transport (of k.l s) k.ensured.0 ∙ ap (λ (x : Reach). (transport x).reach) (sym k.lends)
link s f (boundaries_call es) s' k = k.left ∙ left_by_setting (of k.l s) es k.ensured.0 ∙ ap (λ (x : Reach). (set_boundaries x es).reach) (sym k.lends)
link s f greatest_call s' k =
    k.left
    ∙ ap (λ (h : Held). given k.l s.cell_length h) (ap (λ (r : GreatestAnswer). r.held) k.ensured ∙ greatest_held (of k.l s))
    ∙ sym k.lends
link s f (write_call room) s' k = k.left ∙ ap (λ (h : Held). given k.l s.cell_length h) k.ensured.held_is ∙ sym k.lends
link s f (open_call sheet outlets) s' k = opened f k

chain : {s s' : Reach} {es : List Entry} → Chain s es s' → s' ≡ final s es
unfolding final
chain (done {s}) = refl
chain (then {s} {s'} {s''} {e} {es} l k) = chain k ∙ ap (λ (x : Reach). final x es) (link s e.free e.call s' l)

-- an opening's number is the definition's
pub number : {s s' : Reach} {sheet : List ℕ} {outlets : List Outlet} → (k : OpenLink s sheet outlets s') → (opening sheet (lending (loaded outlets) s)).refusal ≡ k.r.refusal
number {s} {s'} {sheet} {outlets} k = open_number s sheet (loaded outlets) (open_came k)

-- one that is accepted leaves the record that the definition says
pub first_opened : {s s' : Reach} {sheet : List ℕ} {outlets : List Outlet} → (k : OpenLink s sheet outlets s') → k.r.refusal ≡ 0 → s' ≡ (opening sheet (lending (loaded outlets) s)).reach
first_opened {s} {s'} {sheet} {outlets} k e =
    let f : Free = record { wants = [] } in
    opened f k ∙ open_accepted s f sheet outlets (number k ∙ e)

pub demand_3 : Demand3
demand_3 sheet outlets es before opened after first e rest =
    subst (Holds (run (start sheet (loaded outlets)) es)) (sym (chain rest ∙ ap (λ (x : Reach). final x es) (first_opened first e)))
    (of_definitions sheet (lending (loaded outlets) before) es (number first ∙ e))

-- ---- the program's answer is the tally's own finding

pub answer_is : (s : Reach) (f : Free) (c : Call) (s' : Reach) → (k : Link s f c s') → answer s f c s' k ≡ refusal_of s f c
answer_is s f (step_call t F) s' k = k.ensured.0.refusal_is ∙ ap (λ (x : Reach). (step x t F).refusal) (sym k.lends)
answer_is s f transport_call s' k = k.ensured.0.refusal_is ∙ ap (λ (x : Reach). (transport x).refusal) (sym k.lends)
answer_is s f (boundaries_call new) s' k = k.ensured.0.refusal_is ∙ ap (λ (x : Reach). (set_boundaries x new).refusal) (sym k.lends)
answer_is s f greatest_call s' k = ap (λ (r : GreatestAnswer). r.refusal) k.ensured ∙ ap (λ (x : Reach). (greatest x).refusal) (sym k.lends)
answer_is s f (write_call room) s' k =
    k.ensured.refusal_is
    ∙ ap (λ (n : ℕ). number_of (write_refusal (of k.l s) n)) (sym k.long)
    ∙ ap (λ (x : Reach). number_of (write_refusal x room)) (sym k.lends)
answer_is s f (open_call sheet outlets) s' k = sym (number k)

pub same_answer : SameAnswer
same_answer sheet outlets es before opened s s' f c first z rest k =
    answer_is s f c s' k ∙ ap (λ (x : Reach). refusal_of x f c) (demand_3 sheet outlets es before opened s first z rest).own

-- ---- the outlets of a record along a list are those of a lent list

pub record OfList (s : Reach) : Type 0 where
  pub count : ℕ
  pub loads : AsLoaded count s.held.outlets

pub of_list : (s : Reach) (outlets : List Outlet) → s.held.outlets ≡ loaded outlets → OfList s
of_list s outlets e = record { count = length outlets; loads = subst (AsLoaded (length outlets)) (sym e) (loaded_as_loaded outlets) }

wanting_as_loaded : (n : ℕ) (ws : List ℕ) (os : Outlets) → AsLoaded n os → AsLoaded n (wanting ws os)
unfolding wanting
wanting_as_loaded n ws os a = each_as_loaded n _ os a

next_as_loaded : (s : Reach) (f : Free) (c : Call) (n : ℕ) → AsLoaded n (with_wants f.wants s).held.outlets → AsLoaded n s.held.outlets → OfList (next s f c)
next_as_loaded s f (step_call t F) n w a = record { count = n; loads = step_as_loaded n (with_wants f.wants s) t w F }
next_as_loaded s f transport_call n w a = record { count = n; loads = transport_as_loaded n (with_wants f.wants s) w }
next_as_loaded s f (boundaries_call new) n w a = record { count = n; loads = setting_as_loaded n (with_wants f.wants s) w new }
next_as_loaded s f greatest_call n w a = record { count = n; loads = w }
next_as_loaded s f (write_call room) n w a = record { count = n; loads = w }
next_as_loaded s f (open_call sheet outlets) n w a = go (eqb o.refusal 0)
  where
    o : Outcome
    o = opening sheet (lending (loaded outlets) s)

    go : (b : Bool) → OfList (cond b o.reach s)
    go true = record { count = length outlets; loads = opening_as_loaded (length outlets) sheet (lending (loaded outlets) s) (loaded_as_loaded outlets) }
    go false = record { count = n; loads = a }

pub next_of_list : (s : Reach) (f : Free) (c : Call) → OfList s → OfList (next s f c)
next_of_list s f c k = next_as_loaded s f c k.count (wanting_as_loaded k.count f.wants s.held.outlets k.loads) k.loads

pub final_of_list : (s : Reach) (es : List Entry) → OfList s → OfList (final s es)
unfolding final
final_of_list s [] k = k
final_of_list s (e ∷ es) k = final_of_list (next s e.free e.call) es (next_of_list s e.free e.call k)

pub opened_of_list : (sheet : List ℕ) (s : Reach) (outlets : List Outlet) → s.held.outlets ≡ loaded outlets → OfList (opening sheet s).reach
opened_of_list sheet s outlets e = let k = of_list s outlets e in record { count = k.count; loads = opening_as_loaded k.count sheet s k.loads }

-- the list that a call is lent
list_of : (s : Reach) → OfList s → (wants : List ℕ) → List Outlet
list_of s k ws = over (wanting ws s.held.outlets).list (replicate k.count no_outlet)

listed : (s : Reach) (k : OfList s) (wants : List ℕ) → loaded (list_of s k wants) ≡ wanting wants s.held.outlets
unfolding list_of
listed s k ws =
    loaded_over (replicate k.count no_outlet) (wanting ws s.held.outlets)
    (subst (λ (n : ℕ). AsLoaded n (wanting ws s.held.outlets)) (sym (length-replicate k.count no_outlet))
    (wanting_as_loaded k.count ws s.held.outlets k.loads))

-- ---- every list has its chain

-- a loan of a value: where it points is nothing to a contract
abbrev loan : {A : Type 0} → A → MutBor A
loan x = record { ref_ptr = (0, 0); ghost_name = 0; now = x }

abbrev lent_with : Reach → List Outlet → Lent
lent_with s os = record { bed = loan s.bed; depth = loan s.depth; discharge = loan s.discharge; mass = loan s.mass; base = loan s.base; carried = loan s.carried; outlets = loan os }

abbrev seven : Lfts 7
seven = ([], ([], ([], ([], ([], ([], ([], tt)))))))

abbrev eight : Lfts 8
eight = ([], seven)

-- an opening's columns are lent as those of any record
pub made_opening : (s : Reach) (f : Free) (sheet : List ℕ) (outlets : List Outlet) → OpenLink s sheet outlets (next s f (open_call sheet outlets))
made_opening s f sheet outlets =
    let o = opening sheet (columns s (loaded outlets)) in
    let a : OpenAnswer = record { refusal = o.refusal; cell_length = o.reach.cell_length; held = o.reach.held } in
    let came : OpenCameTo o a o.reach.bed o.reach.depth o.reach.discharge o.reach.mass o.reach.base o.reach.carried
    = record { refusal_is = refl; length_is = refl; held_is = refl; bed_is = refl; depth_is = refl; discharge_is = refl; mass_is = refl; base_is = refl; carried_is = refl } in
    let room : List Outlet = o.reach.held.outlets.list in
    let k =
    opening_returns sheet s.bed s.depth s.discharge s.mass s.base s.carried outlets (over room outlets) room (loaded outlets)
    o.reach.bed o.reach.depth o.reach.discharge o.reach.mass o.reach.base o.reach.carried a (opened_of a) refl came refl refl refl in
    record {
      κs = eight;
      bytes = as_bor (loan sheet);
      fed = refl;
      l = lent_with s outlets;
      lends = refl;
      r = opened_of a;
      e = record { bed = o.reach.bed; depth = o.reach.depth; discharge = o.reach.discharge; mass = o.reach.mass; base = o.reach.base; carried = o.reach.carried; outlets = over room outlets };
      ensured = k;
      left = sym (open_next s f sheet outlets k.0);
    }

-- a call on s is lent a list os that has the wants of the call
module _ (s : Reach) (f : Free) (os : List Outlet) (e : loaded os ≡ wanting f.wants s.held.outlets) where
  abbrev g : Reach
  g = of (lent_with s os) s

  lent_is : with_wants f.wants s ≡ g
  lent_is = ap (λ (x : Outlets). lending x s) (sym e)

  came : (o : Outcome) → CameTo o (record { refusal = o.refusal; held = o.reach.held }) o.reach.mass o.reach.base o.reach.carried
  came o = record { refusal_is = refl; held_is = refl; mass_is = refl; base_is = refl; carried_is = refl }

  step_made : (t F : ℕ) → StepLink s f t F (next s f (step_call t F))
  step_made t F =
      let o = step g t F in
      let a : StepAnswer = record { refusal = o.refusal; held = o.reach.held; transported = transports g t F } in
      let came_to_lem : StepCameTo g t F a o.reach.depth o.reach.discharge o.reach.mass o.reach.base o.reach.carried
      = record { refusal_is = refl; held_is = refl; transported_is = refl; depth_is = refl; discharge_is = refl; mass_is = refl; base_is = refl; carried_is = refl } in
      let room : List Outlet = o.reach.held.outlets.list in
      let k =
      step_returns s.bed s.depth s.discharge s.mass s.base s.carried s.cell_length s.held.boundaries s.held.ledger os (over room os) room (loaded os) g.held t F
      o.reach.depth o.reach.discharge o.reach.mass o.reach.base o.reach.carried a (stepped_of a) refl refl came_to_lem refl refl refl in
      record {
        κs = seven;
        l = lent_with s os;
        lends = lent_is;
        r = stepped_of a;
        e = record { depth = o.reach.depth; discharge = o.reach.discharge; mass = o.reach.mass; base = o.reach.base; carried = o.reach.carried; outlets = over room os };
        ensured = k;
        left = ap (λ (x : Reach). (step x t F).reach) lent_is ∙ sym (left_by_step g t F k.0);
      }

  transport_made : TransportLink s f (next s f transport_call)
  transport_made =
      let o = transport g in
      let a : TransportAnswer = record { refusal = o.refusal; held = o.reach.held } in
      let room : List Outlet = o.reach.held.outlets.list in
      let k =
      transport_returns s.bed s.depth s.discharge s.mass s.base s.carried s.cell_length s.held.boundaries s.held.ledger os (over room os) room (loaded os) g.held
      o.reach.mass o.reach.base o.reach.carried a (transported_of a) refl refl (came o) refl refl refl in
      record {
        κs = seven;
        l = lent_with s os;
        lends = lent_is;
        r = transported_of a;
        e = record { mass = o.reach.mass; base = o.reach.base; carried = o.reach.carried; outlets = over room os };
        ensured = k;
        left = ap (λ (x : Reach). (transport x).reach) lent_is ∙ sym (left_by_transport g k.0);
      }

  setting_made : (new : List Boundary) → BoundariesLink s f new (next s f (boundaries_call new))
  setting_made new =
      let o = set_boundaries g new in
      let a : TransportAnswer = record { refusal = o.refusal; held = o.reach.held } in
      let room : List Outlet = o.reach.held.outlets.list in
      let k =
      setting_returns s.bed s.depth s.discharge s.mass s.base s.carried s.cell_length s.held.boundaries s.held.ledger os (over room os) room (loaded os) g.held new
      o.reach.mass o.reach.base o.reach.carried a (transported_of a) refl refl (came o) refl refl refl in
      record {
        κs = seven;
        l = lent_with s os;
        lends = lent_is;
        r = transported_of a;
        e = record { mass = o.reach.mass; base = o.reach.base; carried = o.reach.carried; outlets = over room os };
        ensured = k;
        left = ap (λ (x : Reach). (set_boundaries x new).reach) lent_is ∙ sym (left_by_setting g new k.0);
      }

  greatest_made : GreatestLink s f (next s f greatest_call)
  greatest_made =
      let a = greatest g in record {
        κs = seven;
        l = lent_with s os;
        lends = lent_is;
        r = greatest_of a;
        ensured = greatest_returns s.bed s.depth s.discharge s.mass s.base s.carried s.cell_length s.held.boundaries s.held.ledger os (loaded os) g.held a (greatest_of a) refl refl refl refl;
        left = lent_is ∙ ap (λ (h : Held). given (lent_with s os) s.cell_length h) (sym (greatest_held g));
      }

  write_made : (room : ℕ) → WriteLink s f room (next s f (write_call room))
  write_made room =
      let out : List ℕ = replicate room 0 in record {
        κs = eight;
        l = lent_with s os;
        lends = lent_is;
        out = loan out;
        long = sym (length-replicate room 0);
        r = record { refusal = number_of (write_refusal g (length out)); boundaries = s.held.boundaries; ledger = s.held.ledger };
        written = output_after g out;
        ensured = record { refusal_is = refl; held_is = refl; output_is = refl };
        left = lent_is;
      }

pub made : (s : Reach) (f : Free) (c : Call) → OfList s → Link s f c (next s f c)
made s f (step_call t F) k = step_made s f (list_of s k f.wants) (listed s k f.wants) t F
made s f transport_call k = transport_made s f (list_of s k f.wants) (listed s k f.wants)
made s f (boundaries_call new) k = setting_made s f (list_of s k f.wants) (listed s k f.wants) new
made s f greatest_call k = greatest_made s f (list_of s k f.wants) (listed s k f.wants)
made s f (write_call room) k = write_made s f (list_of s k f.wants) (listed s k f.wants) room
made s f (open_call sheet outlets) k = made_opening s f sheet outlets

pub every_list : (s : Reach) (es : List Entry) → OfList s → Chain s es (final s es)
unfolding final
every_list s [] k = done
every_list s (e ∷ es) k = then (made s e.free e.call k) (every_list (next s e.free e.call) es (next_of_list s e.free e.call k))

pub every_chain : EveryChain
every_chain s outlets es e = every_list s es (of_list s outlets e)

-- the first opening of a list, into columns that have the list with them
pub made_first : (sheet : List ℕ) (s : Reach) (outlets : List Outlet) → s.held.outlets ≡ loaded outlets → (opening sheet s).refusal ≡ 0 → OpenLink s sheet outlets (opening sheet s).reach
made_first sheet s outlets e z =
    let f : Free = record { wants = [] } in
    let same : lending (loaded outlets) s ≡ s = ap (λ (x : Outlets). lending x s) (sym e) in
    subst (OpenLink s sheet outlets)
    (open_accepted s f sheet outlets (ap (λ (x : Reach). (opening sheet x).refusal) same ∙ z) ∙ ap (λ (x : Reach). (opening sheet x).reach) same)
    (made_opening s f sheet outlets)

-- every opening that the definition accepts is one that the function does
pub first_accepted : (sheet : List ℕ) (s s' : Reach) (outlets : List Outlet) → s.held.outlets ≡ loaded outlets → (opening sheet s).refusal ≡ 0 → (k : OpenLink s sheet outlets s') → k.r.refusal ≡ 0
first_accepted sheet s s' outlets e z k = sym (number k) ∙ ap (λ (x : Outlets). (opening sheet (lending x s)).refusal) (sym e) ∙ z

-- so demand 3 says of every list, and not only of those that have a chain, what the tally's page says of the definitions, with the outlets of a lent list
pub of_every_list : (sheet : List ℕ) (s : Reach) (outlets : List Outlet) (es : List Entry) → s.held.outlets ≡ loaded outlets → (opening sheet s).refusal ≡ 0
    → Holds (run (start sheet (loaded outlets)) es) (final (opening sheet s).reach es)
of_every_list sheet s outlets es e z =
    let first = made_first sheet s outlets e z in
    demand_3 sheet outlets es s (opening sheet s).reach (final (opening sheet s).reach es) first (first_accepted sheet s (opening sheet s).reach outlets e z first)
    (every_list (opening sheet s).reach es (opened_of_list sheet s outlets e))

-- ---- every call is a link

pub every_call : EveryCall
every_call = record {
  step = λ s f t F κs l r e lends ensured. record { κs = κs; l = l; lends = lends; r = r; e = e; ensured = ensured; left = refl };
  transport = λ s f κs l r e lends ensured. record { κs = κs; l = l; lends = lends; r = r; e = e; ensured = ensured; left = refl };
  set_boundaries_lem = λ s f new κs l r e lends ensured. record { κs = κs; l = l; lends = lends; r = r; e = e; ensured = ensured; left = refl };
  greatest_step_lem = λ s f κs l r lends ensured. record { κs = κs; l = l; lends = lends; r = r; ensured = ensured; left = refl };
  write = λ s f κs l out r w lends ensured.
      record { κs = κs; l = l; lends = lends; out = out; long = refl; r = r; written = w; ensured = ensured; left = refl };
  opening = λ s κs sheet l r e lends ensured.
      record { κs = κs; bytes = sheet; fed = refl; l = l; lends = lends; r = r; e = e; ensured = ensured; left = refl };
}

-- ---- whatever wants

-- one outlet of a list with other wants
wanting_at : (left lent : List Outlet) (k : ℕ) → k < outlets_most → length lent ≡ length left
    → ((i : ℕ) → i < length left → get_or lent i no_outlet ≡ wanting_outlet (get_or lent i no_outlet).want (get_or left i no_outlet))
    → outlet_at (wanting (wants_of lent) (loaded left)) k ≡ outlet_at (loaded lent) k
unfolding wanting
wanting_at left lent k q long same =
    each_at_room (λ i. wanting_outlet (get_or (wants_of lent) i 0) (outlet_at (loaded left) i)) (loaded left) k q
    ∙ go (ltb k (length left)) refl
    ∙ sym (outlet_loaded lent k q)
  where
    go : (b : Bool) → ltb k (length left) ≡ b → cond b (wanting_outlet (get_or (wants_of lent) k 0) (outlet_at (loaded left) k)) (outlet_at (loaded left) k) ≡ get_or lent k no_outlet
    go true e =
        let l : k < length left = ltb-true k (length left) e in
        ap (λ (w : ℕ). wanting_outlet w (outlet_at (loaded left) k)) (get_or_tabulate (length lent) (λ i. (get_or lent i no_outlet).want) k 0 (omega (arith, l, long)))
        ∙ ap (λ (o : Outlet). wanting_outlet (get_or lent k no_outlet).want o) (outlet_loaded left k q)
        ∙ sym (same k l)
    go false e =
        let l : length left ≤ k = ltb-false k (length left) e in
        outlet_loaded left k q ∙ get_or-eq_default left no_outlet {n = k} l ∙ sym (get_or-eq_default lent no_outlet {n = k} (omega (arith, l, long)))

pub every_wants : EveryWants
every_wants left lent long same =
    let w : AsLoaded (length left) (wanting (wants_of lent) (loaded left)) = wanting_as_loaded (length left) (wants_of lent) (loaded left) (loaded_as_loaded left) in
    one (wanting (wants_of lent) (loaded left)) (loaded lent) (w.counted ∙ sym long)
    (ext_get_or no_outlet (wanting (wants_of lent) (loaded left)).list (loaded lent).list (w.long ∙ sym (length_loaded lent))
    (λ k p. wanting_at left lent k (omega (arith, p, w.long)) long same))
  where
    one : (x y : Outlets) → x.count ≡ y.count → x.list ≡ y.list → x ≡ y
    one x y e f = ap (λ (n : ℕ). record { count = n; list = x.list }) e ∙ ap (λ (l : List Outlet). record { count = y.count; list = l }) f
