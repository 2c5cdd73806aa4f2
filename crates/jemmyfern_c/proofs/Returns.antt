-- What a C function answers and leaves in the lent list, of what its parts ensure. Assumes nothing.
use mathlib.Core.Path.{◌≡◌, sym, ap, subst, ◌∙◌}
use mathlib.Core.List.{List}
use Prim.Native.Nat.{ℕ}
use lib.IntN.{ℤ}
use lib.ListN.{length, drop}
use Rattle.outlet.specs.Outlets.{outlets_most, over, loaded}
use Rattle.outlet.specs.declared.Outlet.{Outlet}
use Rattle.outlet.specs.declared.Outlets.{Outlets}
use Rattle.outlet.proofs.LentLaws.{AsLoaded, loaded_as_loaded, loaded_over, drop_over}
use Rattle.reach.specs.Reach.{Reach, reach_of, held_with}
use Rattle.reach.specs.declared.boundary.Boundary.{Boundary}
use Rattle.reach.specs.declared.held.Held.{Held}
use Rattle.reach.specs.declared.ledger.Ledger.{Ledger}
use Rattle.stepping.specs.declared.step.StepAnswer.{StepAnswer}
use Rattle.stepping.specs.StepCall.{StepCameTo}
use Rattle.update.proofs.LoadedLaws.{step_as_loaded}
use Rattle.transport.specs.Calls.{transport, set_boundaries, CameTo}
use Rattle.transport.specs.declared.TransportAnswer.{TransportAnswer}
use Rattle.transport.proofs.LoadedLaws.{transport_as_loaded, setting_as_loaded}
use Rattle.jemmyfern_c.specs.Answers.{given_held, RestKept, opened_of, stepped_of, transported_of, greatest_of, written_of, open_with, step_with, transport_with, greatest_with, write_with}
use Rattle.jemmyfern_c.specs.declared.answer.Answer.{Answer}
use Rattle.jemmyfern_c.specs.declared.answer.Opened.{Opened}
use Rattle.jemmyfern_c.specs.declared.answer.Greatest.{Greatest}
use Rattle.sheet.specs.Opening.{opening, none_held, OpenCameTo}
use Rattle.sheet.specs.declared.opening.OpenAnswer.{OpenAnswer}
use Rattle.sheet.proofs.LoadedLaws.{opening_as_loaded}
use Rattle.timestep.specs.GreatestStep.{greatest}
use Rattle.timestep.specs.declared.GreatestAnswer.{GreatestAnswer}
use Rattle.timestep.proofs.GreatestLaws.{greatest_held}
use Rattle.writing.specs.Writing.{WriteCameTo}
use Rattle.writing.specs.declared.write.WriteAnswer.{WriteAnswer}
use Rattle.jemmyfern_c.specs.declared.answer.Stepped.{Stepped}

-- what is held after a call whose list goes into `out`: the list has its outlets, and behind the first 32 what was there
record Back (os out : List Outlet) (k : Held) : Type 0 where
  again : given_held k.boundaries k.ledger out ≡ k
  rest : RestKept os out

back : (os out room : List Outlet) (k : Held) → AsLoaded (length os) k.outlets → room ≡ k.outlets.list → out ≡ over room os → Back os out k
back os out room k a e f =
    let is : out ≡ over k.outlets.list os = f ∙ ap (λ (l : List Outlet). over l os) e in record {
      again = ap (λ (x : Outlets). held_with k.boundaries k.ledger x) (ap loaded is ∙ loaded_over os k.outlets a);
      rest = ap (drop outlets_most) is ∙ drop_over k.outlets.list os a.long;
    }

as_given : (es : List Boundary) (l : Ledger) (os : List Outlet) (list : Outlets) (k : Held) → list ≡ loaded os → k ≡ held_with es l list → k ≡ given_held es l os
as_given es l os list k e f = f ∙ ap (λ (x : Outlets). held_with es l x) e

pub step_returns : (z : List ℤ) (h : List ℕ) (q : List ℤ) (m b : List ℕ) (c : List ℤ) (X : ℕ) (es : List Boundary) (l : Ledger) (os out room : List Outlet) (list : Outlets) (k : Held) (t F : ℕ) (h' : List ℕ) (q' : List ℤ) (m' b' : List ℕ) (c' : List ℤ) (a : StepAnswer) (r : Stepped) → list ≡ loaded os → k ≡ held_with es l list → StepCameTo (reach_of z h q m b c X k) t F a h' q' m' b' c' → room ≡ a.held.outlets.list → out ≡ over room os → r ≡ stepped_of a
    → StepCameTo (reach_of z h q m b c X (given_held es l os)) t F (step_with r out) h' q' m' b' c' × RestKept os out
step_returns z h q m b c X es l os out room list k t F h' q' m' b' c' a r loads holds came rooms stores answers =
    let given : Reach = reach_of z h q m b c X (given_held es l os) in
    let came_to_lem : StepCameTo given t F a h' q' m' b' c' = subst (λ (x : Held). StepCameTo (reach_of z h q m b c X x) t F a h' q' m' b' c') (as_given es l os list k loads holds) came in
    let kept : AsLoaded (length os) a.held.outlets = subst (λ (x : Held). AsLoaded (length os) x.outlets) (sym came_to_lem.held_is) (step_as_loaded (length os) given t (loaded_as_loaded os) F) in
    let left : Back os out a.held = back os out room a.held kept rooms stores in
    let is : step_with r out ≡ a = ap (λ (x : Stepped). step_with x out) answers ∙ ap {B = StepAnswer} (λ (x : Held). record { refusal = a.refusal; held = x; transported = a.transported }) left.again in
    (subst (λ (x : StepAnswer). StepCameTo given t F x h' q' m' b' c') (sym is) came_to_lem, left.rest)

pub transport_returns : (z : List ℤ) (h : List ℕ) (q : List ℤ) (m b : List ℕ) (c : List ℤ) (X : ℕ) (es : List Boundary) (l : Ledger) (os out room : List Outlet) (list : Outlets) (k : Held) (m' b' : List ℕ) (c' : List ℤ) (a : TransportAnswer) (r : Answer) → list ≡ loaded os → k ≡ held_with es l list → CameTo (transport (reach_of z h q m b c X k)) a m' b' c' → room ≡ a.held.outlets.list → out ≡ over room os → r ≡ transported_of a
    → CameTo (transport (reach_of z h q m b c X (given_held es l os))) (transport_with r out) m' b' c' × RestKept os out
transport_returns z h q m b c X es l os out room list k m' b' c' a r loads holds came rooms stores answers =
    let given : Reach = reach_of z h q m b c X (given_held es l os) in
    let came_to_lem : CameTo (transport given) a m' b' c' = subst (λ (x : Held). CameTo (transport (reach_of z h q m b c X x)) a m' b' c') (as_given es l os list k loads holds) came in
    let kept : AsLoaded (length os) a.held.outlets = subst (λ (x : Held). AsLoaded (length os) x.outlets) (sym came_to_lem.held_is) (transport_as_loaded (length os) given (loaded_as_loaded os)) in
    let left : Back os out a.held = back os out room a.held kept rooms stores in
    let is : transport_with r out ≡ a = ap (λ (x : Answer). transport_with x out) answers ∙ ap {B = TransportAnswer} (λ (x : Held). record { refusal = a.refusal; held = x }) left.again in
    (subst (λ (x : TransportAnswer). CameTo (transport given) x m' b' c') (sym is) came_to_lem, left.rest)

pub setting_returns : (z : List ℤ) (h : List ℕ) (q : List ℤ) (m b : List ℕ) (c : List ℤ) (X : ℕ) (es : List Boundary) (l : Ledger) (os out room : List Outlet) (list : Outlets) (k : Held) (new : List Boundary) (m' b' : List ℕ) (c' : List ℤ) (a : TransportAnswer) (r : Answer) → list ≡ loaded os → k ≡ held_with es l list → CameTo (set_boundaries (reach_of z h q m b c X k) new) a m' b' c' → room ≡ a.held.outlets.list → out ≡ over room os → r ≡ transported_of a
    → CameTo (set_boundaries (reach_of z h q m b c X (given_held es l os)) new) (transport_with r out) m' b' c' × RestKept os out
setting_returns z h q m b c X es l os out room list k new m' b' c' a r loads holds came rooms stores answers =
    let given : Reach = reach_of z h q m b c X (given_held es l os) in
    let came_to_lem : CameTo (set_boundaries given new) a m' b' c' = subst (λ (x : Held). CameTo (set_boundaries (reach_of z h q m b c X x) new) a m' b' c') (as_given es l os list k loads holds) came in
    let kept : AsLoaded (length os) a.held.outlets = subst (λ (x : Held). AsLoaded (length os) x.outlets) (sym came_to_lem.held_is) (setting_as_loaded (length os) given (loaded_as_loaded os) new) in
    let left : Back os out a.held = back os out room a.held kept rooms stores in
    let is : transport_with r out ≡ a = ap (λ (x : Answer). transport_with x out) answers ∙ ap {B = TransportAnswer} (λ (x : Held). record { refusal = a.refusal; held = x }) left.again in
    (subst (λ (x : TransportAnswer). CameTo (set_boundaries given new) x m' b' c') (sym is) came_to_lem, left.rest)

pub opening_returns : (bytes : List ℕ) (z : List ℤ) (h : List ℕ) (q : List ℤ) (m b : List ℕ) (c : List ℤ) (os out room : List Outlet) (list : Outlets) (z' : List ℤ) (h' : List ℕ) (q' : List ℤ) (m' b' : List ℕ) (c' : List ℤ) (a : OpenAnswer) (r : Opened) → list ≡ loaded os → OpenCameTo (opening bytes (reach_of z h q m b c 0 (none_held list))) a z' h' q' m' b' c' → room ≡ a.held.outlets.list → out ≡ over room os → r ≡ opened_of a
    → OpenCameTo (opening bytes (reach_of z h q m b c 0 (none_held (loaded os)))) (open_with r out) z' h' q' m' b' c' × RestKept os out
opening_returns bytes z h q m b c os out room list z' h' q' m' b' c' a r loads came rooms stores answers =
    let given : Reach = reach_of z h q m b c 0 (none_held (loaded os)) in
    let came_to_lem : OpenCameTo (opening bytes given) a z' h' q' m' b' c' = subst (λ (x : Outlets). OpenCameTo (opening bytes (reach_of z h q m b c 0 (none_held x))) a z' h' q' m' b' c') loads came in
    let kept : AsLoaded (length os) a.held.outlets = subst (λ (x : Held). AsLoaded (length os) x.outlets) (sym came_to_lem.held_is) (opening_as_loaded (length os) bytes given (loaded_as_loaded os)) in
    let left : Back os out a.held = back os out room a.held kept rooms stores in
    let is : open_with r out ≡ a = ap (λ (x : Opened). open_with x out) answers ∙ ap {B = OpenAnswer} (λ (x : Held). record { refusal = a.refusal; cell_length = a.cell_length; held = x }) left.again in
    (subst (λ (x : OpenAnswer). OpenCameTo (opening bytes given) x z' h' q' m' b' c') (sym is) came_to_lem, left.rest)

-- ---- calls that only read the list

-- `greatest` answers what is held as it came
pub greatest_returns : (z : List ℤ) (h : List ℕ) (q : List ℤ) (m b : List ℕ) (c : List ℤ) (X : ℕ) (es : List Boundary) (l : Ledger) (os : List Outlet) (list : Outlets) (k : Held) (a : GreatestAnswer) (r : Greatest) → list ≡ loaded os → k ≡ held_with es l list → a ≡ greatest (reach_of z h q m b c X k) → r ≡ greatest_of a
    → greatest_with r os ≡ greatest (reach_of z h q m b c X (given_held es l os))
greatest_returns z h q m b c X es l os list k a r loads holds came answers =
    let given : Reach = reach_of z h q m b c X (given_held es l os) in
    let is : a ≡ greatest given = came ∙ ap (λ (x : Held). greatest (reach_of z h q m b c X x)) (as_given es l os list k loads holds) in
    ap (λ (x : Greatest). greatest_with x os) (answers ∙ ap greatest_of is)
    ∙ ap {B = GreatestAnswer} (λ (x : Held). record { refusal = (greatest given).refusal; held = held_with (greatest given).held.boundaries (greatest given).held.ledger x.outlets; time = (greatest given).time; place = (greatest given).place }) (sym (greatest_held given))

pub write_returns : (z : List ℤ) (h : List ℕ) (q : List ℤ) (m b : List ℕ) (c : List ℤ) (X : ℕ) (es : List Boundary) (l : Ledger) (os : List Outlet) (list : Outlets) (k : Held) (bytes bytes' : List ℕ) (a : WriteAnswer) (r : Answer) → list ≡ loaded os → k ≡ held_with es l list → WriteCameTo (reach_of z h q m b c X k) bytes a bytes' → r ≡ written_of a
    → WriteCameTo (reach_of z h q m b c X (given_held es l os)) bytes (write_with r os) bytes'
write_returns z h q m b c X es l os list k bytes bytes' a r loads holds came answers =
    let given : Reach = reach_of z h q m b c X (given_held es l os) in
    let came_to_lem : WriteCameTo given bytes a bytes' = subst (λ (x : Held). WriteCameTo (reach_of z h q m b c X x) bytes a bytes') (as_given es l os list k loads holds) came in
    let is : write_with r os ≡ a =
    ap (λ (x : Answer). write_with x os) answers
    ∙ ap {B = WriteAnswer} (λ (x : Held). record { refusal = a.refusal; held = held_with a.held.boundaries a.held.ledger x.outlets }) (sym came_to_lem.held_is) in
    subst (λ (x : WriteAnswer). WriteCameTo given bytes x bytes') (sym is) came_to_lem
