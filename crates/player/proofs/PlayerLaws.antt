-- Laws of one call: what each function's contract makes of a call in the list. Assumes nothing.
use mathlib.Core.Path.{◌≡◌, refl, sym, ap, ◌∙◌}
use mathlib.Core.Bool.{Bool, true, false}
use mathlib.Core.List.{List, [], ◌∷◌, ◌++◌}
use Prim.Native.Nat.{ℕ, ◌+◌, ◌-◌, ◌≤◌, min, max}
use native.Mathlib.Omega.{arith}
use borrow.Author.Tests.{eqb-true, eqb-false, ne_eqb}
use lib.Dec.{eqb}
use lib.IntN.{ℤ}
use lib.ListN.{length, get_or, take, drop, length-take}
use Rattle.outlet.specs.Outlets.{loaded}
use Rattle.outlet.specs.declared.Outlet.{Outlet}
use Rattle.reach.specs.Reach.{Reach}
use Rattle.reach.specs.declared.boundary.Boundary.{Boundary}
use Rattle.transport.specs.Calls.{transport, set_boundaries, CameTo}
use Rattle.transport.specs.declared.TransportAnswer.{TransportAnswer}
use Rattle.timestep.specs.GreatestStep.{greatest}
use Rattle.stepping.specs.StepCall.{StepCameTo}
use Rattle.timestep.specs.declared.GreatestAnswer.{GreatestAnswer}
use Rattle.stepping.specs.declared.step.StepAnswer.{StepAnswer}
use Rattle.sheet.specs.Opening.{opening, lent, OpenCameTo}
use Rattle.sheet.specs.declared.opening.OpenAnswer.{OpenAnswer}
use Rattle.writing.specs.Writing.{WriteCameTo}
use Rattle.writing.specs.declared.write.WriteAnswer.{WriteAnswer}
use Rattle.tally.specs.Call.{Free, step_call, transport_call, boundaries_call, greatest_call, write_call, open_call, with_wants}
use Rattle.tally.proofs.CallLaws.{step_next, transport_next, setting_next, greatest_next, write_next, open_next, open_number}
use Rattle.script.specs.Script.{boundary_from, part, outlets_from, call_at}
use Rattle.player.specs.Plays.{came_to, Plays}
use Rattle.player.specs.declared.Played.{Played}

pub plays_step : (s : Reach) (f : Free) (t F : ℕ) {r : StepAnswer} {h : List ℕ} {q : List ℤ} {m b : List ℕ} {c : List ℤ} → StepCameTo (with_wants f.wants s) t F r h q m b c → (out : List ℕ)
    → Plays s f (step_call t F) out
    (record { refusal = r.refusal; transported = r.transported; time = 0; place = 0; cell_length = s.cell_length; held = r.held })
    s.bed h q m b c out
plays_step s f t F k out = record {
  refusal_is = k.refusal_is;
  transported_is = k.transported_is;
  time_is = refl;
  place_is = refl;
  reach_is = step_next s f t F k;
  output_is = refl;
}

pub plays_transport : (s : Reach) (f : Free) {r : TransportAnswer} {m b : List ℕ} {c : List ℤ} → CameTo (transport (with_wants f.wants s)) r m b c → (out : List ℕ)
    → Plays s f transport_call out (came_to r.refusal s.cell_length r.held) s.bed s.depth s.discharge m b c out
plays_transport s f k out = record {
  refusal_is = k.refusal_is;
  transported_is = refl;
  time_is = refl;
  place_is = refl;
  reach_is = transport_next s f k;
  output_is = refl;
}

pub plays_setting : (s : Reach) (f : Free) (es : List Boundary) {r : TransportAnswer} {m b : List ℕ} {c : List ℤ} → CameTo (set_boundaries (with_wants f.wants s) es) r m b c → (out : List ℕ)
    → Plays s f (boundaries_call es) out (came_to r.refusal s.cell_length r.held) s.bed s.depth s.discharge m b c out
plays_setting s f es k out = record {
  refusal_is = k.refusal_is;
  transported_is = refl;
  time_is = refl;
  place_is = refl;
  reach_is = setting_next s f es k;
  output_is = refl;
}

pub plays_greatest : (s : Reach) (f : Free) {r : GreatestAnswer} → r ≡ greatest (with_wants f.wants s) → (out : List ℕ)
    → Plays s f greatest_call out
    (record { refusal = r.refusal; transported = false; time = r.time; place = r.place; cell_length = s.cell_length; held = r.held })
    s.bed s.depth s.discharge s.mass s.base s.carried out
plays_greatest s f e out = record {
  refusal_is = ap (λ (x : GreatestAnswer). x.refusal) e;
  transported_is = refl;
  time_is = ap (λ (x : GreatestAnswer). x.time) e;
  place_is = ap (λ (x : GreatestAnswer). x.place) e;
  reach_is = greatest_next s f e;
  output_is = refl;
}

pub taken_length : (room : ℕ) (out : List ℕ) → room ≤ length out → room ≡ length (take room out)
taken_length room out l = let e = length-take room out in omega (arith, e)

-- a write is lent the first `room` bytes
pub plays_write : (s : Reach) (f : Free) (room : ℕ) (out out' : List ℕ) {r : WriteAnswer} → length (take room out) ≡ room → WriteCameTo (with_wants f.wants s) (take room out) r out'
    → Plays s f (write_call room) out (came_to r.refusal s.cell_length r.held) s.bed s.depth s.discharge s.mass s.base s.carried (out' ++ drop room out)
plays_write s f room out out' l k = record {
  refusal_is = rw l at k.refusal_is;
  transported_is = refl;
  time_is = refl;
  place_is = refl;
  reach_is = write_next s f room k;
  output_is = ap (λ (o : List ℕ). o ++ drop room out) k.output_is;
}

-- after a refused opening the list goes on with what it had
pub plays_opening : (s : Reach) (f : Free) (sheet : List ℕ) (list : List Outlet) (p : Played) {r : OpenAnswer} {z : List ℤ} {h : List ℕ} {q : List ℤ} {m b : List ℕ} {c : List ℤ}
    → OpenCameTo (opening sheet (lent s.bed s.depth s.discharge s.mass s.base s.carried (loaded list))) r z h q m b c
    → ((r.refusal ≡ 0 → ⊥) → p ≡ came_to r.refusal s.cell_length s.held)
    → (r.refusal ≡ 0 → p ≡ came_to 0 r.cell_length r.held)
    → (out : List ℕ)
    → Plays s f (open_call sheet list) out p z h q m b c out
plays_opening s f sheet list p {r} {z} {h} {q} {m} {b} {c} k stopped opened out = go (eqb r.refusal 0) refl where
  go : (y : Bool) → eqb r.refusal 0 ≡ y → Plays s f (open_call sheet list) out p z h q m b c out
  go true y =
      let e = eqb-true _ _ y in
      rw (opened e) (record {
        refusal_is = sym (open_number s sheet (loaded list) k ∙ e);
        transported_is = refl;
        time_is = refl;
        place_is = refl;
        reach_is = rw y at (open_next s f sheet list k);
        output_is = refl;
      })
  go false y =
      let n = eqb-false _ _ y in
      rw (stopped n) (record {
        refusal_is = sym (open_number s sheet (loaded list) k);
        transported_is = refl;
        time_is = refl;
        place_is = refl;
        reach_is = rw y at (open_next s f sheet list k);
        output_is = refl;
      })

pub cut_part : (sheets : List ℕ) (a b from to end : ℕ) → from ≡ min a (length sheets) → to ≡ min b (length sheets) → end ≡ max from to
    → take (end - from) (drop from sheets) ≡ part sheets a b
unfolding part
cut_part sheets a b from to end p e f =
    let g : end - from ≡ to - from = omega arith in
    rw (g, e, p) refl

-- ---- which call it is

module _ (ws sheets : List ℕ) (room at : ℕ) where
  pub is_step : get_or ws at 0 ≡ 0 → call_at ws sheets room at ≡ step_call (get_or ws (at + 1) 0) (get_or ws (at + 2) 0)
  unfolding call_at
  is_step e = rw e refl

  pub is_transport : get_or ws at 0 ≡ 1 → call_at ws sheets room at ≡ transport_call
  unfolding call_at
  is_transport e = rw e refl

  pub is_setting : get_or ws at 0 ≡ 2 → call_at ws sheets room at ≡ boundaries_call (boundary_from ws (at + 3) ∷ boundary_from ws (at + 8) ∷ [])
  unfolding call_at
  is_setting e = rw e refl

  pub is_greatest : get_or ws at 0 ≡ 3 → call_at ws sheets room at ≡ greatest_call
  unfolding call_at
  is_greatest e = rw e refl

  pub is_write : get_or ws at 0 ≡ 4 → call_at ws sheets room at ≡ write_call (min (get_or ws (at + 1) 0) room)
  unfolding call_at
  is_write e = rw e refl

  pub is_opening : 5 ≤ get_or ws at 0 → call_at ws sheets room at ≡ open_call (part sheets (get_or ws (at + 1) 0) (get_or ws (at + 2) 0)) (outlets_from ws (at + 45))
  unfolding call_at
  is_opening l =
      let w = get_or ws at 0 in
      rw (ne_eqb w 0 (λ e. omega arith), ne_eqb w 1 (λ e. omega arith), ne_eqb w 2 (λ e. omega arith), ne_eqb w 3 (λ e. omega arith), ne_eqb w 4 (λ e. omega arith)) refl
