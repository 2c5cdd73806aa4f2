-- What each call's contract leaves in the columns, boundaries, ledger and outlets is the record that `next` says.
use mathlib.Core.Path.{◌≡◌, refl, sym, ◌∙◌}
use mathlib.Core.List.{List}
use Prim.Native.Nat.{ℕ}
use native.Mathlib.Omega.{arith}
use borrow.Author.Tests.{eq-eqb, ne_eqb}
use lib.IntN.{ℤ}
use Rattle.outlet.specs.Outlets.{loaded}
use Rattle.outlet.specs.declared.Outlet.{Outlet}
use Rattle.outlet.specs.declared.Outlets.{Outlets}
use Rattle.reach.specs.Reach.{Reach, reach_of}
use Rattle.reach.specs.Grounds.{first_refusal, record_grounds}
use Rattle.reach.specs.Outcome.{outcome}
use Rattle.reach.specs.declared.boundary.Boundary.{Boundary}
use Rattle.reach.specs.Grounds.{Verdict}
use Rattle.reach.specs.Refusals.{number}
use Rattle.transport.specs.Calls.{transport, set_boundaries, CameTo}
use Rattle.transport.specs.declared.TransportAnswer.{TransportAnswer}
use Rattle.transport.proofs.CallsLaws.{left_by_setting, left_by_transport}
use Rattle.timestep.specs.GreatestStep.{greatest, greatest_by}
use Rattle.stepping.specs.StepCall.{StepCameTo}
use Rattle.timestep.specs.declared.GreatestAnswer.{GreatestAnswer}
use Rattle.stepping.specs.declared.step.StepAnswer.{StepAnswer}
use Rattle.stepping.proofs.StepCallLaws.{left_by_step}
use Rattle.sheet.specs.Opening.{opening, sheet_record, lent, OpenCameTo}
use Rattle.sheet.specs.declared.opening.OpenAnswer.{OpenAnswer}
use Rattle.sheet.proofs.OpeningLaws.{by_opening}
use Rattle.writing.specs.Writing.{WriteCameTo}
use Rattle.writing.specs.declared.write.WriteAnswer.{WriteAnswer}
use Rattle.tally.specs.Call.{Free, next, step_call, transport_call, boundaries_call, greatest_call, write_call, open_call, lending, with_wants, after_opening, goes_on}
use Rattle.std.specs.Prelude.{Ok, Err}

pub step_next : (s : Reach) (f : Free) (t F : ℕ) {r : StepAnswer} {h : List ℕ} {q : List ℤ} {m b : List ℕ} {c : List ℤ} → StepCameTo (with_wants f.wants s) t F r h q m b c
    → reach_of s.bed h q m b c s.cell_length r.held ≡ next s f (step_call t F)
step_next s f t F k = left_by_step (with_wants f.wants s) t F k

pub setting_next : (s : Reach) (f : Free) (es : List Boundary) {r : TransportAnswer} {m b : List ℕ} {c : List ℤ} → CameTo (set_boundaries (with_wants f.wants s) es) r m b c
    → reach_of s.bed s.depth s.discharge m b c s.cell_length r.held ≡ next s f (boundaries_call es)
setting_next s f es k = left_by_setting (with_wants f.wants s) es k

pub transport_next : (s : Reach) (f : Free) {r : TransportAnswer} {m b : List ℕ} {c : List ℤ} → CameTo (transport (with_wants f.wants s)) r m b c
    → reach_of s.bed s.depth s.discharge m b c s.cell_length r.held ≡ next s f transport_call
transport_next s f k = left_by_transport (with_wants f.wants s) k

-- a greatest-step call and a write hand boundaries, ledger and outlets back as they came
greatest_keeps : (s : Reach) (k : Verdict) → reach_of s.bed s.depth s.discharge s.mass s.base s.carried s.cell_length (greatest_by k s).held ≡ s
greatest_keeps s (Ok u) = refl
greatest_keeps s (Err r) = refl

pub greatest_next : (s : Reach) (f : Free) {r : GreatestAnswer} → r ≡ greatest (with_wants f.wants s)
    → reach_of s.bed s.depth s.discharge s.mass s.base s.carried s.cell_length r.held ≡ next s f greatest_call
unfolding greatest
greatest_next s f e =
    let w = with_wants f.wants s in
    rw e (greatest_keeps w (first_refusal (record_grounds w w.held.boundaries)))

pub write_next : (s : Reach) (f : Free) (room : ℕ) {out out' : List ℕ} {r : WriteAnswer} → WriteCameTo (with_wants f.wants s) out r out'
    → reach_of s.bed s.depth s.discharge s.mass s.base s.carried s.cell_length r.held ≡ next s f (write_call room)
write_next s f room k = rw k.held_is refl

-- an opening looks at no more of the record than the lengths of its columns, and at the list that it is lent
abbrev lent_of : Reach → Outlets → Reach
lent_of s os = lent s.bed s.depth s.discharge s.mass s.base s.carried os

pub open_next : (s : Reach) (f : Free) (sheet : List ℕ) (list : List Outlet) {r : OpenAnswer} {z : List ℤ} {h : List ℕ} {q : List ℤ} {m b : List ℕ} {c : List ℤ}
    → OpenCameTo (opening sheet (lent_of s (loaded list))) r z h q m b c → goes_on s r z h q m b c ≡ next s f (open_call sheet list)
unfolding opening
open_next s f sheet list k =
    rw (k.refusal_is, k.length_is, k.held_is, k.bed_is, k.depth_is, k.discharge_is, k.mass_is, k.base_is, k.carried_is)
    (by_opening sheet (lending (loaded list) s)
    (λ (x : Verdict). let r = outcome x (lent_of s (loaded list)) (sheet_record sheet (loaded list)) in
    let o = outcome x (lending (loaded list) s) (sheet_record sheet (loaded list)) in
    goes_on s (record { refusal = r.refusal; cell_length = r.reach.cell_length; held = r.reach.held })
    r.reach.bed r.reach.depth r.reach.discharge r.reach.mass r.reach.base r.reach.carried
    ≡ after_opening o s)
    (λ r p. rw (ne_eqb (number r) 0 (λ z. omega arith)) refl)
    (λ e. refl))

-- its number is the definition's
pub open_number : (s : Reach) (sheet : List ℕ) (os : Outlets) {r : OpenAnswer} {z : List ℤ} {h : List ℕ} {q : List ℤ} {m b : List ℕ} {c : List ℤ}
    → OpenCameTo (opening sheet (lent_of s os)) r z h q m b c → (opening sheet (lending os s)).refusal ≡ r.refusal
unfolding opening
open_number s sheet os k =
    by_opening sheet (lending os s) (λ (x : Verdict). (outcome x (lending os s) (sheet_record sheet os)).refusal ≡ (outcome x (lent_of s os) (sheet_record sheet os)).refusal) (λ n p. refl) (λ e. refl)
    ∙ sym k.refusal_is

-- an accepted one leaves its own record
pub open_accepted : (s : Reach) (f : Free) (sheet : List ℕ) (list : List Outlet) → (opening sheet (lending (loaded list) s)).refusal ≡ 0 → next s f (open_call sheet list) ≡ (opening sheet (lending (loaded list) s)).reach
open_accepted s f sheet list e = rw (eq-eqb _ _ e) refl
