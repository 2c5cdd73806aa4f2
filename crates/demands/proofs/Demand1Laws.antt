-- Demand 1 from the contracts of the six functions.
use mathlib.Core.Path.{◌≡◌, refl, sym, ap, ◌∙◌, subst}
use mathlib.Core.Bool.{false}
use mathlib.Core.List.{List, [], ◌∷◌}
use Prim.Native.Nat.{ℕ}
use borrow.Author.Tests.{ne_eqb}
use lib.IntN.{ℤ}
use lib.ListN.{length}
use Rattle.outlet.specs.Outlets.{loaded}
use Rattle.outlet.specs.declared.Outlet.{Outlet}
use Rattle.outlet.proofs.LentLaws.{same_list}
use Rattle.reach.specs.Reach.{Reach}
use Rattle.reach.specs.Grounds.{Ground, first_refusal, number_of, record_grounds}
use Rattle.reach.specs.Outcome.{outcome}
use Rattle.reach.proofs.GroundsLaws.{go_on, stop_at}
use Rattle.reach.specs.declared.boundary.Boundary.{Boundary}
use Rattle.reach.specs.declared.held.Held.{Held}
use Rattle.reach.specs.declared.ledger.Ledger.{Ledger}
use Rattle.reach.specs.Grounds.{Verdict}
use Rattle.transport.specs.Calls.{transport_grounds, transport, set_boundaries, after_transport, holding, CameTo}
use Rattle.timestep.specs.GreatestStep.{greatest, greatest_by}
use Rattle.timestep.specs.declared.GreatestAnswer.{GreatestAnswer}
use Rattle.update.specs.Step.{step, step_grounds, after_step, transports}
use Rattle.stepping.specs.StepCall.{StepCameTo}
use Rattle.sheet.specs.Opening.{lent, open_grounds, opening, sheet_record, OpenCameTo}
use Rattle.writing.specs.Writing.{write_refusal, write_grounds, output_after, output_by}
use Rattle.jemmyfern_c.specs.Answers.{given_held, RestKept, open_with, step_with, transport_with, greatest_with}
use Rattle.jemmyfern_c.specs.declared.answer.Answer.{Answer}
use Rattle.jemmyfern_c.specs.declared.answer.Opened.{Opened}
use Rattle.jemmyfern_c.specs.declared.answer.Stepped.{Stepped}
use Rattle.jemmyfern_c.specs.declared.answer.Greatest.{Greatest}
use Rattle.jemmyfern_c.proofs.Says.{open_asks_nothing, step_asks_nothing, transport_asks_nothing, setting_asks_nothing, greatest_asks_nothing, write_asks_nothing}
use Rattle.jemmyfern_c.proofs.Functions.{given, OpenLeft, StepLeft, TransportLeft}
use Rattle.demands.specs.Demand1.{AsksNothing, First, RefusedByTheFirst, IsRefused, StaysAsItCame}
use Rattle.std.specs.Prelude.{Ok, Err}

pub asks_nothing : AsksNothing
asks_nothing = record {
  opening = open_asks_nothing;
  step = step_asks_nothing;
  transport = transport_asks_nothing;
  set_boundaries_lem = setting_asks_nothing;
  greatest_step_lem = greatest_asks_nothing;
  write = write_asks_nothing;
}

-- ---- the first number in its list

pub first : (gs : List Ground) → First (number_of (first_refusal gs)) gs
unfolding First first_refusal
first [] = refl
first (g ∷ gs) = (
  λ e. subst (λ (k : Verdict). First (number_of k) gs) (sym (go_on g gs e refl)) (first gs),
  λ e. ap number_of (stop_at g gs e),
)

pub number_is : (k : Verdict) (s t : Reach) → (outcome k s t).refusal ≡ number_of k
number_is (Ok u) s t = refl
number_is (Err n) s t = refl

-- of a call that comes to an outcome by its grounds
by_outcome : (gs : List Ground) (s t : Reach) {n : ℕ} → n ≡ (outcome (first_refusal gs) s t).refusal → First n gs
by_outcome gs s t e = subst (λ (x : ℕ). First x gs) (sym (e ∙ number_is (first_refusal gs) s t)) (first gs)

pub greatest_number : (k : Verdict) (s : Reach) → (greatest_by k s).refusal ≡ number_of k
greatest_number (Ok u) s = refl
greatest_number (Err n) s = refl

pub refused_by_the_first : RefusedByTheFirst
unfolding opening step transport set_boundaries greatest write_refusal
refused_by_the_first = record {
  opening = λ κs sheet l r e k. by_outcome _ _ _ k.0.refusal_is;
  step = λ κs l X h t F r e k. by_outcome _ _ _ k.0.refusal_is;
  transport = λ κs l X h r e k. by_outcome _ _ _ k.0.refusal_is;
  set_boundaries_lem = λ κs l X h new r e k. by_outcome _ _ _ k.0.refusal_is;
  greatest_step_lem = λ κs l X h r k.
      let gs = record_grounds (given l X h) h.boundaries in
      subst (λ (x : ℕ). First x gs) (sym (ap (λ (a : GreatestAnswer). a.refusal) k ∙ greatest_number (first_refusal gs) (given l X h))) (first gs);
  write = λ κs l X h out r w k. subst (λ (x : ℕ). First x (write_grounds (given l X h) (length out.now))) (sym k.refusal_is) (first _);
}

-- ---- a refused call leaves all as it came

stayed : (k : Verdict) (s t : Reach) → IsRefused (outcome k s t).refusal → (outcome k s t).reach ≡ s
stayed (Ok u) s t ne = absurd (ne refl)
stayed (Err n) s t ne = refl

-- what a call handed back to hold, and the list that it left, by what is held of them
pub boundaries_of_lem : (os : List Outlet) {es : List Boundary} {k : Ledger} {h : Held} → given_held es k os ≡ h → es ≡ h.boundaries
boundaries_of_lem os e = ap (λ (x : Held). x.boundaries) e

pub ledger_of : (os : List Outlet) {es : List Boundary} {k : Ledger} {h : Held} → given_held es k os ≡ h → k ≡ h.ledger
ledger_of os e = ap (λ (x : Held). x.ledger) e

pub outlets_of : (os : List Outlet) {es : List Boundary} {k : Ledger} {h : Held} → given_held es k os ≡ h → loaded os ≡ h.outlets
outlets_of os e = ap (λ (x : Held). x.outlets) e

-- an answer as it is, by each of its fields
pub open_is : (r : Opened) (n x : ℕ) (es : List Boundary) (k : Ledger) → r.refusal ≡ n → r.cell_length ≡ x → r.boundaries ≡ es → r.ledger ≡ k
    → r ≡ record { refusal = n; cell_length = x; boundaries = es; ledger = k }
open_is r n x es k o p q f = rw (sym o, sym p, sym q, sym f) refl

step_stays : (r : Stepped) (es : List Boundary) (k : Ledger) → r.boundaries ≡ es → r.ledger ≡ k → r.transported ≡ false
    → r ≡ record { refusal = r.refusal; boundaries = es; ledger = k; transported = false }
step_stays r es k p q f = rw (sym p, sym q, sym f) refl

answer_stays : (r : Answer) (es : List Boundary) (k : Ledger) → r.boundaries ≡ es → r.ledger ≡ k → r ≡ record { refusal = r.refusal; boundaries = es; ledger = k }
answer_stays r es k p q = rw (sym p, sym q) refl

-- columns and list as they are, by each of them
pub six : (e : OpenLeft) (z : List ℤ) (d : List ℕ) (q : List ℤ) (m b : List ℕ) (c : List ℤ) (os : List Outlet) → e.bed ≡ z → e.depth ≡ d → e.discharge ≡ q → e.mass ≡ m → e.base ≡ b → e.carried ≡ c
    → e.outlets ≡ os → e ≡ record { bed = z; depth = d; discharge = q; mass = m; base = b; carried = c; outlets = os }
six e z d q m b c os pz pd pq pm pb pc po = rw (sym pz, sym pd, sym pq, sym pm, sym pb, sym pc, sym po) refl

five : (e : StepLeft) (d : List ℕ) (q : List ℤ) (m b : List ℕ) (c : List ℤ) (os : List Outlet) → e.depth ≡ d → e.discharge ≡ q → e.mass ≡ m → e.base ≡ b → e.carried ≡ c → e.outlets ≡ os
    → e ≡ record { depth = d; discharge = q; mass = m; base = b; carried = c; outlets = os }
five e d q m b c os pd pq pm pb pc po = rw (sym pd, sym pq, sym pm, sym pb, sym pc, sym po) refl

three : (e : TransportLeft) (m b : List ℕ) (c : List ℤ) (os : List Outlet) → e.mass ≡ m → e.base ≡ b → e.carried ≡ c → e.outlets ≡ os → e ≡ record { mass = m; base = b; carried = c; outlets = os }
three e m b c os pm pb pc po = rw (sym pm, sym pb, sym pc, sym po) refl

not_transported : (s : Reach) (t F : ℕ) → IsRefused (step s t F).refusal → transports s t F ≡ false
unfolding transports
not_transported s t F ne = rw (ne_eqb (step s t F).refusal 0 ne) refl

-- a transport or a setting of boundaries, with the list os lent
moved_nothing : (k : Verdict) (s t : Reach) (os : List Outlet) {r : Answer} {e : TransportLeft} → s.held.outlets ≡ loaded os
    → CameTo (outcome k s t) (transport_with r e.outlets) e.mass e.base e.carried × RestKept os e.outlets → IsRefused r.refusal
    → (r ≡ record { refusal = r.refusal; boundaries = s.held.boundaries; ledger = s.held.ledger }) × (e ≡ record { mass = s.mass; base = s.base; carried = s.carried; outlets = os })
moved_nothing k s t os {r} {e} lent (c, rest) ne =
    let same = stayed k s t (λ z. ne (c.refusal_is ∙ z)) in
    let held = c.held_is ∙ ap (λ (x : Reach). x.held) same in (
      answer_stays r _ _ (boundaries_of_lem e.outlets held) (ledger_of e.outlets held),
      three e _ _ _ _ (c.mass_is ∙ ap (λ (x : Reach). x.mass) same) (c.base_is ∙ ap (λ (x : Reach). x.base) same) (c.carried_is ∙ ap (λ (x : Reach). x.carried) same)
          (same_list e.outlets os (outlets_of e.outlets held ∙ lent) rest),
    )

greatest_stays : (k : Verdict) (s : Reach) → IsRefused (greatest_by k s).refusal
    → greatest_by k s ≡ record { refusal = (greatest_by k s).refusal; held = s.held; time = 0; place = 0 }
greatest_stays (Ok u) s ne = absurd (ne refl)
greatest_stays (Err n) s ne = refl

-- so has an answer that is one
greatest_stayed : (os : List Outlet) {r : Greatest} {a : GreatestAnswer} {h : Held} → greatest_with r os ≡ a → (IsRefused a.refusal → a ≡ record { refusal = a.refusal; held = h; time = 0; place = 0 }) → IsRefused r.refusal
    → r ≡ record { refusal = r.refusal; boundaries = h.boundaries; ledger = h.ledger; time = 0; place = 0 }
greatest_stayed os {r} {a} {h} e f ne =
    let same = e ∙ f (λ z. ne (ap (λ (x : GreatestAnswer). x.refusal) e ∙ z)) in
    let held = ap (λ (x : GreatestAnswer). x.held) same in
    all r h.boundaries h.ledger 0 0 (boundaries_of_lem os held) (ledger_of os held) (ap (λ (x : GreatestAnswer). x.time) same) (ap (λ (x : GreatestAnswer). x.place) same)
  where
    all : (r : Greatest) (es : List Boundary) (k : Ledger) (t p : ℕ) → r.boundaries ≡ es → r.ledger ≡ k → r.time ≡ t → r.place ≡ p
        → r ≡ record { refusal = r.refusal; boundaries = es; ledger = k; time = t; place = p }
    all r es k t p o f q g = rw (sym o, sym f, sym q, sym g) refl

output_stays : (k : Verdict) (s : Reach) (out : List ℕ) → IsRefused (number_of k) → output_by k s out ≡ out
output_stays (Ok u) s out ne = absurd (ne refl)
output_stays (Err n) s out ne = refl

refused_opening : (sheet : List ℕ) (l : Reach) → IsRefused (opening sheet l).refusal → (opening sheet l).reach ≡ l
unfolding opening
refused_opening sheet l ne =
    stayed
    (first_refusal (open_grounds sheet (length l.bed) (length l.depth) (length l.discharge) (length l.mass) (length l.base) (length l.carried) l.held.outlets))
    l (sheet_record sheet l.held.outlets) ne

open_stayed : (sheet : List ℕ) (l : Reach) (os : List Outlet) {r : Opened} {e : OpenLeft} → l.held.outlets ≡ loaded os
    → OpenCameTo (opening sheet l) (open_with r e.outlets) e.bed e.depth e.discharge e.mass e.base e.carried × RestKept os e.outlets
    → IsRefused r.refusal
    → (r ≡ record { refusal = r.refusal; cell_length = l.cell_length; boundaries = l.held.boundaries; ledger = l.held.ledger })
    × (e ≡ record { bed = l.bed; depth = l.depth; discharge = l.discharge; mass = l.mass; base = l.base; carried = l.carried; outlets = os })
open_stayed sheet l os {r} {e} lent (c, rest) ne =
    let same = refused_opening sheet l (λ z. ne (c.refusal_is ∙ z)) in
    let held = c.held_is ∙ ap (λ (x : Reach). x.held) same in (
      open_is r r.refusal _ _ _ refl (c.length_is ∙ ap (λ (x : Reach). x.cell_length) same) (boundaries_of_lem e.outlets held) (ledger_of e.outlets held),
      six e _ _ _ _ _ _ _ (c.bed_is ∙ ap (λ (x : Reach). x.bed) same) (c.depth_is ∙ ap (λ (x : Reach). x.depth) same) (c.discharge_is ∙ ap (λ (x : Reach). x.discharge) same)
          (c.mass_is ∙ ap (λ (x : Reach). x.mass) same) (c.base_is ∙ ap (λ (x : Reach). x.base) same) (c.carried_is ∙ ap (λ (x : Reach). x.carried) same)
          (same_list e.outlets os (outlets_of e.outlets held ∙ lent) rest),
    )

refused_step : (s : Reach) (t F : ℕ) → IsRefused (step s t F).refusal → (step s t F).reach ≡ s
unfolding step
refused_step s t F ne = stayed (first_refusal (step_grounds s t F)) s (after_step s t F) ne

step_stayed : (s : Reach) (t F : ℕ) (os : List Outlet) {r : Stepped} {e : StepLeft} → s.held.outlets ≡ loaded os
    → StepCameTo s t F (step_with r e.outlets) e.depth e.discharge e.mass e.base e.carried × RestKept os e.outlets → IsRefused r.refusal
    → (r ≡ record { refusal = r.refusal; boundaries = s.held.boundaries; ledger = s.held.ledger; transported = false })
    × (e ≡ record { depth = s.depth; discharge = s.discharge; mass = s.mass; base = s.base; carried = s.carried; outlets = os })
step_stayed s t F os {r} {e} lent (c, rest) ne =
    let stopped : IsRefused (step s t F).refusal = λ z. ne (c.refusal_is ∙ z) in
    let same : (step s t F).reach ≡ s = refused_step s t F stopped in
    let held = c.held_is ∙ ap (λ (x : Reach). x.held) same in (
      step_stays r _ _ (boundaries_of_lem e.outlets held) (ledger_of e.outlets held) (c.transported_is ∙ not_transported s t F stopped),
      five e _ _ _ _ _ _ (c.depth_is ∙ ap (λ (x : Reach). x.depth) same) (c.discharge_is ∙ ap (λ (x : Reach). x.discharge) same)
          (c.mass_is ∙ ap (λ (x : Reach). x.mass) same) (c.base_is ∙ ap (λ (x : Reach). x.base) same) (c.carried_is ∙ ap (λ (x : Reach). x.carried) same)
          (same_list e.outlets os (outlets_of e.outlets held ∙ lent) rest),
    )

pub stays_as_it_came : StaysAsItCame
unfolding transport set_boundaries greatest write_refusal output_after
stays_as_it_came = record {
  opening = λ κs sheet l r e k ne.
      open_stayed sheet.now (lent l.bed.now l.depth.now l.discharge.now l.mass.now l.base.now l.carried.now (loaded l.outlets.now)) l.outlets.now refl k ne;
  step = λ κs l X h t F r e k ne. step_stayed (given l X h) t F l.outlets.now refl k ne;
  transport = λ κs l X h r e k ne.
      moved_nothing (first_refusal (transport_grounds (given l X h) h.boundaries)) (given l X h) (after_transport (given l X h)) l.outlets.now refl k ne;
  set_boundaries_lem = λ κs l X h new r e k ne.
      moved_nothing (first_refusal (transport_grounds (given l X h) new)) (given l X h) (holding new (after_transport (given l X h))) l.outlets.now refl k ne;
  greatest_step_lem = λ κs l X h r k ne. greatest_stayed l.outlets.now k (greatest_stays (first_refusal (record_grounds (given l X h) h.boundaries)) (given l X h)) ne;
  write = λ κs l X h out r w k ne. (
    answer_stays r _ _ (boundaries_of_lem l.outlets.now k.held_is) (ledger_of l.outlets.now k.held_is),
    k.output_is ∙ output_stays (write_refusal (given l X h) (length out.now)) (given l X h) out.now (λ z. ne (k.refusal_is ∙ z)),
  );
}
