-- Demand 2 from the contracts of the six functions and the round trip.
use mathlib.Core.Path.{◌≡◌, refl, sym, ap, ◌∙◌, subst}
use mathlib.Core.Bool.{Bool, true, false}
use mathlib.Core.List.{List, ◌++◌}
use Prim.Native.Nat.{ℕ, zero, suc, ◌+◌, ◌≤◌, ◌<◌}
use native.Mathlib.Omega.{arith}
use borrow.Author.Tests.{le-leb, leb-true}
use lib.Dec.{leb}
use lib.IntN.{ℤ, pos, neg_ℤ, ◌+ℤ◌, +ℤ_idl}
use lib.ListN.{length, get_or, drop, replicate}
use Rattle.numbers.specs.Index.{all_below, sum}
use Rattle.numbers.specs.Signed.{positive}
use Rattle.numbers.proofs.IndexLaws.{all_at, all_below_lem, get_or_tabulate}
use Rattle.outlet.specs.Outlets.{outlets_most, no_outlet, outlet_at, each_outlet, loaded}
use Rattle.outlet.specs.declared.Outlet.{Outlet}
use Rattle.outlet.specs.declared.Outlets.{Outlets}
use Rattle.outlet.proofs.OutletLaws.{each_at}
use Rattle.outlet.proofs.LentLaws.{outlet_loaded}
use Rattle.reach.specs.Reach.{Reach, cells, base_at, carried_at}
use Rattle.reach.specs.Parts.{outflow}
use Rattle.reach.specs.Grounds.{first_refusal, record_grounds}
use Rattle.reach.specs.Outcome.{Outcome, outcome}
use Rattle.reach.specs.declared.boundary.Boundary.{Boundary}
use Rattle.reach.specs.declared.held.Held.{Held}
use Rattle.reach.specs.declared.ledger.Ledger.{Ledger}
use Rattle.reach.specs.Grounds.{Verdict}
use Rattle.reach.proofs.GroundsLaws.{accepts, stood}
use Rattle.reach.proofs.Sound.{outlets_few}
use Rattle.reach.proofs.PartsLaws.{outflow_is}
use Rattle.mass.specs.Transport.{moved_outlet, moved_outlets}
use Rattle.transport.specs.Calls.{mass_columns_of, transport_outlets, transport_held, transport_grounds, transport, set_boundaries, after_transport, holding}
use Rattle.transport.proofs.CallsLaws.{left_by_setting, left_by_transport}
use Rattle.timestep.specs.GreatestStep.{greatest, greatest_by, greatest_time, greatest_place}
use Rattle.timestep.specs.declared.GreatestAnswer.{GreatestAnswer}
use Rattle.water.specs.Water.{net_at, draw_of}
use Rattle.update.specs.Step.{step_grounds, step, after_step, transported_first, transports, keeps_sums, summed, summed_drawn, stepped_outlet, step_outlets, step_held}
use Rattle.stepping.specs.StepCall.{StepCameTo}
use Rattle.stepping.proofs.StepCallLaws.{left_by_step}
use Rattle.sheet.specs.Header.{sheet_size}
use Rattle.sheet.specs.Opening.{open_grounds, lent, opening, sheet_record, OpenCameTo}
use Rattle.sheet.proofs.OpeningLaws.{left_by_opening}
use Rattle.encoding.specs.ToBytes.{written}
use Rattle.writing.specs.Writing.{sheet_bytes, write_refusal, output_after, output_by}
use Rattle.writing.specs.RoundTrip.{read_back}
use Rattle.writing.proofs.RoundTripUses.{write_passes, write_then_open, open_then_write}
use Rattle.jemmyfern_c.specs.Answers.{given_held, open_with, step_with, greatest_with}
use Rattle.jemmyfern_c.specs.declared.answer.Opened.{Opened}
use Rattle.jemmyfern_c.specs.declared.answer.Stepped.{Stepped}
use Rattle.jemmyfern_c.specs.declared.answer.Greatest.{Greatest}
use Rattle.jemmyfern_c.proofs.Functions.{Lent, given, OpenLeft, StepLeft}
use Rattle.demands.proofs.Demand1Laws.{number_is, greatest_number, boundaries_of_lem, ledger_of, outlets_of, open_is, six}
use Rattle.demands.specs.Demand2.{Covered, Kept, NotKept, DigitForDigit, ReadBack, WroteAgain}
use Rattle.std.specs.Prelude.{Ok}

moved : (k : Verdict) (s t : Reach) → (outcome k s t).refusal ≡ 0 → (outcome k s t).reach ≡ t
moved k s t z = ap (λ (k : Verdict). (outcome k s t).reach) (accepts k (sym (number_is k s t) ∙ z))

opened_is : (sheet : List ℕ) (l : Reach) → (opening sheet l).refusal ≡ 0 → (opening sheet l).reach ≡ sheet_record sheet l.held.outlets
unfolding opening
opened_is sheet l =
    moved (first_refusal (open_grounds sheet (length l.bed) (length l.depth) (length l.discharge) (length l.mass) (length l.base) (length l.carried) l.held.outlets)) l
    (sheet_record sheet l.held.outlets)

pub stepped_is : (s : Reach) (t F : ℕ) → (step s t F).refusal ≡ 0 → (step s t F).reach ≡ after_step s t F
unfolding step
stepped_is s t F = moved (first_refusal (step_grounds s t F)) s (after_step s t F)

transported_is : (s : Reach) → (transport s).refusal ≡ 0 → (transport s).reach ≡ after_transport s
unfolding transport
transported_is s = moved (first_refusal (transport_grounds s s.held.boundaries)) s (after_transport s)

set_is : (s : Reach) (new : List Boundary) → (set_boundaries s new).refusal ≡ 0 → (set_boundaries s new).reach ≡ holding new (after_transport s)
unfolding set_boundaries
set_is s new = moved (first_refusal (transport_grounds s new)) s (holding new (after_transport s))

-- ---- the moment of settling

covered_is : (s : Reach) (t i : ℕ)
    → outflow (summed s t i) (summed s t (suc i)) (summed_drawn s t i) ≡ positive (carried_at s (i + 1) +ℤ net_at s t (i + 1)) + positive (neg_ℤ (carried_at s i +ℤ net_at s t i)) + sum (summed_drawn s t i)
unfolding summed
covered_is s t i = let e : suc i ≡ i + 1 = omega arith in rw e (outflow_is _ _ _)

-- cell by cell, what the test of a step looks at
abbrev test : Reach → (t i : ℕ) → Bool
test s t i = leb (outflow (summed s t i) (summed s t (suc i)) (summed_drawn s t i)) (base_at s i)

pub keeps : (s : Reach) (t : ℕ) → ((i : ℕ) → i < cells s → Covered s t i) → keeps_sums s t ≡ true
unfolding keeps_sums
keeps s t f = all_below_lem (test s t) (cells s) (λ i l. le-leb (outflow (summed s t i) (summed s t (suc i)) (summed_drawn s t i)) (base_at s i) (omega (arith, f i l, covered_is s t i)))

pub keeps_not : (s : Reach) (t i : ℕ) → i < cells s → (Covered s t i → ⊥) → keeps_sums s t ≡ false
unfolding keeps_sums
keeps_not s t i l ne = go (all_below (cells s) (test s t)) refl
  where
    go : (b : Bool) → all_below (cells s) (test s t) ≡ b → b ≡ false
    go true e = absurd (ne (omega (arith, leb-true (outflow (summed s t i) (summed s t (suc i)) (summed_drawn s t i)) (base_at s i) (all_at (test s t) (cells s) i e l), covered_is s t i)))
    go false e = refl

says_kept : (s : Reach) (t F : ℕ) → (step s t F).refusal ≡ 0 → keeps_sums s t ≡ true → transports s t F ≡ false
unfolding transports
says_kept s t F z e = rw (z, e) refl

says_transported : (s : Reach) (t F : ℕ) → (step s t F).refusal ≡ 0 → keeps_sums s t ≡ false → transports s t F ≡ true
unfolding transports
says_transported s t F z e = rw (z, e) refl

-- what a step leaves of the record that N is added to
first_kept : (s : Reach) (t : ℕ) → keeps_sums s t ≡ true → transported_first s t ≡ s
unfolding transported_first
first_kept s t e = rw e refl

first_transported : (s : Reach) (t : ℕ) → keeps_sums s t ≡ false → transported_first s t ≡ after_transport s
unfolding transported_first
first_transported s t e = rw e refl

stepped_mass : (s : Reach) (t F : ℕ) → ((after_step s t F).mass ≡ (transported_first s t).mass) × ((after_step s t F).base ≡ (transported_first s t).base)
unfolding after_step
stepped_mass s t F = (refl, refl)

stepped_carried : (s : Reach) (t F i : ℕ) → i ≤ cells s → get_or (after_step s t F).carried i (pos 0) ≡ carried_at (transported_first s t) i +ℤ net_at s t i
unfolding after_step
stepped_carried s t F i l = get_or_tabulate (suc (cells s)) (λ j. carried_at (transported_first s t) j +ℤ net_at s t j) i (pos 0) (omega (arith, l))

transported_base : (s : Reach) → (after_transport s).base ≡ s.depth
unfolding after_transport
transported_base s = refl

get_or_zeros : (n i : ℕ) → get_or (replicate n (pos 0)) i (pos 0) ≡ pos 0
get_or_zeros zero i = refl
get_or_zeros (suc n) zero = refl
get_or_zeros (suc n) (suc i) = get_or_zeros n i

none_carried_lem : (s : Reach) (i : ℕ) → carried_at (after_transport s) i ≡ pos 0
unfolding after_transport
none_carried_lem s i = get_or_zeros (length s.carried) i

-- an accepted step was lent at most 32 outlets
step_stood : (s : Reach) (t F : ℕ) → (step s t F).refusal ≡ 0 → first_refusal (step_grounds s t F) ≡ Ok tt
unfolding step
step_stood s t F z = accepts (first_refusal (step_grounds s t F)) (sym (number_is (first_refusal (step_grounds s t F)) s (after_step s t F)) ∙ z)

step_few : (s : Reach) (t F : ℕ) → (step s t F).refusal ≡ 0 → s.held.outlets.count ≤ outlets_most
step_few s t F z = outlets_few (cells s) s.held.outlets (stood (step_grounds s t F) (step_stood s t F z) 5)

-- what each outlet has drawn after it, of the list that it left
stepped_drawn : (s : Reach) (t F : ℕ) → (step s t F).refusal ≡ 0 → (os : List Outlet) → loaded os ≡ (after_step s t F).held.outlets → (transported_first s t).held.outlets.count ≡ s.held.outlets.count
    → (k : ℕ) → k < s.held.outlets.count → (get_or os k no_outlet).drawn ≡ (outlet_at (transported_first s t).held.outlets k).drawn + draw_of s t k
unfolding after_step step_held step_outlets stepped_outlet
stepped_drawn s t F z os e n k l =
    let few = step_few s t F z in
    ap (λ (o : Outlet). o.drawn)
    (sym (outlet_loaded os k (omega (arith, l, few)))
    ∙ ap (λ (x : Outlets). outlet_at x k) e
    ∙ each_at (stepped_outlet s t) (transported_first s t).held.outlets (omega (arith, n, few)) k (omega (arith, n, l)))

pub transported_count : (s : Reach) → (after_transport s).held.outlets.count ≡ s.held.outlets.count
unfolding after_transport transport_held transport_outlets moved_outlets each_outlet
transported_count s = refl

transported_drawn : (s : Reach) (k : ℕ) → s.held.outlets.count ≤ outlets_most → k < s.held.outlets.count → (outlet_at (after_transport s).held.outlets k).drawn ≡ 0
unfolding after_transport transport_held transport_outlets moved_outlets moved_outlet
transported_drawn s k few l = ap (λ (o : Outlet). o.drawn) (each_at (moved_outlet (mass_columns_of s) s.held.outlets) s.held.outlets few k l)

kept_is : (s : Reach) (t F : ℕ) {r : Stepped} {e : StepLeft} → StepCameTo s t F (step_with r e.outlets) e.depth e.discharge e.mass e.base e.carried → r.refusal ≡ 0
    → ((i : ℕ) → i < cells s → Covered s t i) → Kept s t r e
kept_is s t F {r} {e} k z f =
    let a = sym k.refusal_is ∙ z in
    let same = stepped_is s t F a in
    let w = keeps s t f in
    let first = first_kept s t w in
    record {
      said = k.transported_is ∙ says_kept s t F a w;
      mass = k.mass_is ∙ ap (λ (x : Reach). x.mass) same ∙ (stepped_mass s t F).0 ∙ ap (λ (x : Reach). x.mass) first;
      base = k.base_is ∙ ap (λ (x : Reach). x.base) same ∙ (stepped_mass s t F).1 ∙ ap (λ (x : Reach). x.base) first;
      carried = λ i l.
          ap (λ (c : List ℤ). get_or c i (pos 0)) (k.carried_is ∙ ap (λ (x : Reach). x.carried) same)
          ∙ stepped_carried s t F i l
          ∙ ap (λ (x : Reach). carried_at x i +ℤ net_at s t i) first;
      drawn = λ j m.
          stepped_drawn s t F a e.outlets (outlets_of e.outlets k.held_is ∙ ap (λ (x : Reach). x.held.outlets) same) (ap (λ (x : Reach). x.held.outlets.count) first) j m
          ∙ ap (λ (x : Reach). (outlet_at x.held.outlets j).drawn + draw_of s t j) first;
    }

not_kept_is : (s : Reach) (t F : ℕ) {r : Stepped} {e : StepLeft} → StepCameTo s t F (step_with r e.outlets) e.depth e.discharge e.mass e.base e.carried → r.refusal ≡ 0
    → (i : ℕ) → i < cells s → (Covered s t i → ⊥) → NotKept s t r e
not_kept_is s t F {r} {e} k z i l ne =
    let a = sym k.refusal_is ∙ z in
    let same = stepped_is s t F a in
    let w = keeps_not s t i l ne in
    let first = first_transported s t w in
    record {
      said = k.transported_is ∙ says_transported s t F a w;
      mass = k.mass_is ∙ ap (λ (x : Reach). x.mass) same ∙ (stepped_mass s t F).0 ∙ ap (λ (x : Reach). x.mass) first;
      base = k.base_is ∙ ap (λ (x : Reach). x.base) same ∙ (stepped_mass s t F).1 ∙ ap (λ (x : Reach). x.base) first ∙ transported_base s;
      carried = λ j m.
          ap (λ (c : List ℤ). get_or c j (pos 0)) (k.carried_is ∙ ap (λ (x : Reach). x.carried) same)
          ∙ stepped_carried s t F j m
          ∙ ap (λ (x : Reach). carried_at x j +ℤ net_at s t j) first
          ∙ ap (λ (c : ℤ). c +ℤ net_at s t j) (none_carried_lem s j)
          ∙ +ℤ_idl (net_at s t j);
      drawn = λ j m.
          let none = ap (λ (x : Reach). (outlet_at x.held.outlets j).drawn) first ∙ transported_drawn s j (step_few s t F a) m in
          stepped_drawn s t F a e.outlets (outlets_of e.outlets k.held_is ∙ ap (λ (x : Reach). x.held.outlets) same) (ap (λ (x : Reach). x.held.outlets.count) first ∙ transported_count s) j m
          ∙ ap (λ (d : ℕ). d + draw_of s t j) none ∙ omega arith;
    }

-- ---- the answers of an accepted greatest-step call and of a write

pub greatest_stood : (s : Reach) → (greatest s).refusal ≡ 0 → first_refusal (record_grounds s s.held.boundaries) ≡ Ok tt
unfolding greatest
greatest_stood s z =
    let gs = record_grounds s s.held.boundaries in
    accepts (first_refusal gs) (sym (greatest_number (first_refusal gs) s) ∙ z)

pub greatest_is : (s : Reach) → (greatest s).refusal ≡ 0 → greatest s ≡ record { refusal = 0; held = s.held; time = greatest_time s; place = greatest_place s }
unfolding greatest
greatest_is s z = ap (λ (k : Verdict). greatest_by k s) (greatest_stood s z)

output_is : (s : Reach) (out : List ℕ) → write_refusal s (length out) ≡ Ok tt → output_after s out ≡ sheet_bytes s ++ drop (length (sheet_bytes s)) out
unfolding output_after written
output_is s out e = ap (λ (k : Verdict). output_by k s out) e

-- the lent columns and list as an opening is given them
abbrev pub lent_by : Lent → Reach
lent_by l = lent l.bed.now l.depth.now l.discharge.now l.mass.now l.base.now l.carried.now (loaded l.outlets.now)

greatest_of_lem : (os : List Outlet) {r : Greatest} {h : Held} {t p : ℕ} → greatest_with r os ≡ record { refusal = 0; held = h; time = t; place = p }
    → r ≡ record { refusal = 0; boundaries = h.boundaries; ledger = h.ledger; time = t; place = p }
greatest_of_lem os {r} {h} {t} {p} e =
    let held = ap (λ (x : GreatestAnswer). x.held) e in
    all r h.boundaries h.ledger t p (ap (λ (x : GreatestAnswer). x.refusal) e) (boundaries_of_lem os held) (ledger_of os held) (ap (λ (x : GreatestAnswer). x.time) e) (ap (λ (x : GreatestAnswer). x.place) e)
  where
    all : (r : Greatest) (es : List Boundary) (k : Ledger) (t p : ℕ) → r.refusal ≡ 0 → r.boundaries ≡ es → r.ledger ≡ k → r.time ≡ t → r.place ≡ p
        → r ≡ record { refusal = 0; boundaries = es; ledger = k; time = t; place = p }
    all r es k t p n o f g h = rw (sym n, sym o, sym f, sym g, sym h) refl

pub digit_for_digit : DigitForDigit
digit_for_digit = record {
  opening = λ κs sheet l r e k z. left_by_opening k.0 ∙ opened_is sheet.now (lent_by l) (sym k.0.refusal_is ∙ z);
  step = λ κs l X h t F r e k z. left_by_step (given l X h) t F k.0 ∙ stepped_is (given l X h) t F (sym k.0.refusal_is ∙ z);
  kept = λ κs l X h t F r e k z f. kept_is (given l X h) t F k.0 z f;
  not_kept = λ κs l X h t F r e k z i l' ne. not_kept_is (given l X h) t F k.0 z i l' ne;
  transport = λ κs l X h r e k z. left_by_transport (given l X h) k.0 ∙ transported_is (given l X h) (sym k.0.refusal_is ∙ z);
  set_boundaries_lem = λ κs l X h new r e k z. left_by_setting (given l X h) new k.0 ∙ set_is (given l X h) new (sym k.0.refusal_is ∙ z);
  greatest_step_lem = λ κs l X h r k z. greatest_of_lem l.outlets.now (k ∙ greatest_is (given l X h) (sym (ap (λ (a : GreatestAnswer). a.refusal) k) ∙ z));
  write = λ κs l X h out r w k z. (
    boundaries_of_lem l.outlets.now k.held_is,
    ledger_of l.outlets.now k.held_is,
    k.output_is ∙ output_is (given l X h) out.now (write_passes (given l X h) (length out.now) (sym k.refusal_is ∙ z)),
  );
}

-- ---- the round trip

-- every field of the answer and every column of an opening, of what it came to
came_to_lem : (n : ℕ) (s : Reach) {r : Opened} {e : OpenLeft} → OpenCameTo (record { refusal = n; reach = s }) (open_with r e.outlets) e.bed e.depth e.discharge e.mass e.base e.carried
    → (r ≡ record { refusal = n; cell_length = s.cell_length; boundaries = s.held.boundaries; ledger = s.held.ledger })
    × (e ≡ record { bed = s.bed; depth = s.depth; discharge = s.discharge; mass = s.mass; base = s.base; carried = s.carried; outlets = e.outlets })
    × (loaded e.outlets ≡ s.held.outlets)
came_to_lem n s {r} {e} k = (
  open_is r n s.cell_length s.held.boundaries s.held.ledger k.refusal_is k.length_is (boundaries_of_lem e.outlets k.held_is) (ledger_of e.outlets k.held_is),
  six e s.bed s.depth s.discharge s.mass s.base s.carried e.outlets k.bed_is k.depth_is k.discharge_is k.mass_is k.base_is k.carried_is refl,
  outlets_of e.outlets k.held_is,
)

pub read_back_lem : ReadBack
unfolding sheet_size
read_back_lem κs κs' l l' X h out sheet w w' r e two k z same f fit o =
    let s = given l X h in
    let lent = lent_by l' in
    let back : opening sheet.now lent ≡ record { refusal = 0; reach = read_back s (loaded l'.outlets.now) }
    = ap (λ (b : List ℕ). opening b lent) same
    ∙ write_then_open s out.now k z two lent
    (record { beds = f.bed; depths = f.depth; discharges = f.discharge; masses = f.mass; bases = f.base; interfaces = f.carried }) fit in
    came_to_lem 0 (read_back s (loaded l'.outlets.now)) (subst (λ (x : Outcome). OpenCameTo x (open_with r e.outlets) e.bed e.depth e.discharge e.mass e.base e.carried) back o.0)

pub wrote_again : WroteAgain
unfolding written
wrote_again κs κs' sheet out l l' r e w w' bytes beds depths masses o z same room k =
    open_then_write sheet.now (lent_by l) (given l' r.cell_length (given_held r.boundaries r.ledger e.outlets)) out.now bytes
    (record { beds_first = beds; depths_next = depths; masses_last = masses })
    (sym o.0.refusal_is ∙ z) (same ∙ left_by_opening o.0) room k
