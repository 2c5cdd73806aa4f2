-- Demand 3 in plain sums and inequalities, from the theorem about every chain.
use mathlib.Core.Path.{◌≡◌, refl, sym, ap, ◌∙◌, subst}
use mathlib.Core.Bool.{Bool, true, false, cond, true≢false}
use mathlib.Core.List.{List, [], ◌∷◌, ◌++◌}
use Prim.Native.Nat.{ℕ, suc, ◌+◌, ◌<◌}
use native.Mathlib.Omega.{arith}
use borrow.Author.Tests.{eq-eqb, ne_eqb}
use lib.Dec.{eqb}
use lib.Dec as Dec
use lib.IntN.{ℤ, pos, negsuc, ◌+ℤ◌, ◌-ℤ◌}
use lib.ListN.{get_or}
use lib.Signed.{le_z, le_z_yes}
use Rattle.numbers.specs.Index.{sum}
use Rattle.numbers.specs.Signed.{positive}
use Rattle.numbers.proofs.IndexLaws.{get_or_tabulate}
use Rattle.outlet.specs.Outlets.{loaded}
use Rattle.outlet.specs.declared.Outlet.{Outlet}
use Rattle.outlet.specs.declared.Outlets.{Outlets}
use Rattle.outlet.proofs.OutletLaws.{each_at}
use Rattle.reach.specs.Reach.{Reach, cells, depth_at}
use Rattle.reach.specs.declared.boundary.Boundary.{Boundary}
use Rattle.reach.specs.declared.ledger.Ledger.{Ledger}
use Rattle.water.specs.Water.{net_at, draws, undrawn_depth, new_depth}
use Rattle.update.specs.Step.{step, after_step, keeps_sums}
use Rattle.sheet.specs.Opening.{opening, sheet_record}
use Rattle.tally.specs.Call.{Free, Call, Entry, step_call, transport_call, boundaries_call, greatest_call, write_call, open_call, wanting, with_wants, refusal_of, final}
use Rattle.tally.specs.Tally.{Tally, add_water, add_mass, add_step, add_draws, add_outlet_mass, add_step_outlets, with_sums, no_sums, no_draws, start, take_wants, count, count_step, count_transport, count_setting, accepted, if_accepted, run}
use Rattle.tally.specs.Holds.{Holds}
use Rattle.tally.proofs.HoldsLaws.{water_held_lem, mass_held_lem, count_held, outlet_held, bounds_held, latest_depths, latest_available, latest_wanted}
use Rattle.tally.proofs.TallyLaws.{no_draws_cleared}
use Rattle.trace.specs.Trace.{Link, Chain, done, then}
use Rattle.trace.proofs.TraceLaws.{demand_3, link, answer_is, made, made_first, first_accepted, opened_of_list, final_of_list, every_list}
use Rattle.demands.specs.Demand3.{AfterList, AfterEveryList, OfEveryStep, DepthsLeft, NoDepthBelowZero, DrawsWithinWants, NoWantExceeded, GivesFromZero, AvailableFromZero, WaterAdded, WaterSame, MassAdded, MassSame, TallyCourse}
use Rattle.demands.proofs.Demand2Laws.{stepped_is, keeps, keeps_not}

pub after_every_list : AfterEveryList
after_every_list sheet outlets es before opened after first z rest =
    let h = demand_3 sheet outlets es before opened after first z rest in
    record {
      own = h.own;
      water = water_held_lem h;
      mass = mass_held_lem h;
      left_water_in = ap (λ (k : Ledger). k.left.water_in) h.ledger;
      left_water_out = ap (λ (k : Ledger). k.left.water_out) h.ledger;
      left_mass_in = ap (λ (k : Ledger). k.left.mass_in) h.ledger;
      left_mass_out = ap (λ (k : Ledger). k.left.mass_out) h.ledger;
      right_water_in = ap (λ (k : Ledger). k.right.water_in) h.ledger;
      right_water_out = ap (λ (k : Ledger). k.right.water_out) h.ledger;
      right_mass_in = ap (λ (k : Ledger). k.right.mass_in) h.ledger;
      right_mass_out = ap (λ (k : Ledger). k.right.mass_out) h.ledger;
      outlet_count = count_held h;
      outlet_cell = λ k. (outlet_held h k).0;
      outlet_want = λ k. (outlet_held h k).1;
      outlet_drawn = λ k. (outlet_held h k).2;
      outlet_water_lem = λ k. (outlet_held h k).3;
      outlet_mass_lem = λ k. (outlet_held h k).4;
      bounds = bounds_held h;
    }

-- ---- of every accepted step

append : {s s' s'' : Reach} {es : List Entry} (e : Entry) → Chain s es s' → Link s' e.free e.call s'' → Chain s (es ++ (e ∷ [])) s''
append e done k = then k done
append e (then l c) k = then l (append e c k)

-- what holds of the tally's own record at its last step, with the wants of the call, holds of the program's
of_every_step : (P : Reach → ℕ → Reach → Type 0)
    → ((T : Tally) (es : List Entry) (f : Free) (t F : ℕ) (s' : Reach) → Holds (run T (es ++ (record { free = f; call = step_call t F } ∷ []))) s' →
    let w = with_wants f.wants (run T es).own in
    (step w t F).refusal ≡ 0 → s' ≡ (step w t F).reach → P w t s')
    → OfEveryStep P
of_every_step P p sheet outlets es before opened s s' f t F first z rest k accepted =
    let e : Entry = record { free = f; call = step_call t F } in
    let T = start sheet (loaded outlets) in
    let own : s ≡ (run T es).own = (demand_3 sheet outlets es before opened s first z rest).own in
    let zero : (step (with_wants f.wants s) t F).refusal ≡ 0 = sym (answer_is s f (step_call t F) s' k) ∙ accepted in
    let later = demand_3 sheet outlets (es ++ (e ∷ [])) before opened s' first z (append e rest k) in
    subst (λ (x : Reach). (step (with_wants f.wants x) t F).refusal ≡ 0 → s' ≡ (step (with_wants f.wants x) t F).reach → P (with_wants f.wants x) t s') (sym own)
    (λ a b. p T es f t F s' later a b) zero (link s f (step_call t F) s' k)

whole : (z : ℤ) → le_z (pos 0) z ≡ true → pos (positive z) ≡ z
whole (pos n) e = refl
whole (negsuc n) e = absurd (true≢false (sym e))

new_depth_lem : (s : Reach) (t i : ℕ) → new_depth s t i ≡ pos (depth_at s i) +ℤ net_at s t i -ℤ net_at s t (i + 1) -ℤ pos (sum (draws s t i))
unfolding new_depth undrawn_depth
new_depth_lem s t i = let e : suc i ≡ i + 1 = omega arith in rw e refl

depth_after : (s : Reach) (t F i : ℕ) → i < cells s → get_or (after_step s t F).depth i 0 ≡ positive (new_depth s t i)
unfolding after_step
depth_after s t F i l = get_or_tabulate (cells s) (λ j. positive (new_depth s t j)) i 0 l

pub no_depth_below_zero : NoDepthBelowZero
no_depth_below_zero =
    of_every_step DepthsLeft
    (λ T es f t F s' later a b i l.
    let w = with_wants f.wants (run T es).own in
    ap (λ (x : Reach). pos (get_or x.depth i 0)) (b ∙ stepped_is w t F a)
    ∙ ap pos (depth_after w t F i l)
    ∙ whole (new_depth w t i) (latest_depths T es f t F later a i l)
    ∙ new_depth_lem w t i)

pub no_want_exceeded : NoWantExceeded
no_want_exceeded = of_every_step DrawsWithinWants (λ T es f t F s' later a b k l. latest_wanted T es f t F later a k l)

pub available_from_zero : AvailableFromZero
available_from_zero = of_every_step GivesFromZero (λ T es f t F s' later a b i l. le_z_yes (subst Dec.T (sym (latest_available T es f t F later a i l)) tt))

-- ---- they are of every list: with its chain they say of the definitions what `Holds` does

pub after_definitions : (sheet : List ℕ) (l : Reach) (outlets : List Outlet) (es : List Entry) → l.held.outlets ≡ loaded outlets → (opening sheet l).refusal ≡ 0
    → let s = final (opening sheet l).reach es in AfterList (run (start sheet (loaded outlets)) es) s s.held.ledger
after_definitions sheet l outlets es lends z =
    let o = (opening sheet l).reach in
    let first = made_first sheet l outlets lends z in
    after_every_list sheet outlets es l o (final o es) first (first_accepted sheet l o outlets lends z first) (every_list o es (opened_of_list sheet l outlets lends))

pub steps_of_definitions : (P : Reach → ℕ → Reach → Type 0) → OfEveryStep P → (sheet : List ℕ) (l : Reach) (outlets : List Outlet) (es : List Entry) (f : Free) (t F : ℕ) → l.held.outlets ≡ loaded outlets
    → (opening sheet l).refusal ≡ 0 →
    let w = with_wants f.wants (final (opening sheet l).reach es) in
    (step w t F).refusal ≡ 0 → P w t (step w t F).reach
steps_of_definitions P p sheet l outlets es f t F lends z a =
    let o = (opening sheet l).reach in
    let s = final o es in
    let first = made_first sheet l outlets lends z in
    let kept = opened_of_list sheet l outlets lends in
    let k = made s f (step_call t F) (final_of_list o es kept) in
    p sheet outlets es l o s (step (with_wants f.wants s) t F).reach f t F first (first_accepted sheet l o outlets lends z first) (every_list o es kept) k
    (answer_is s f (step_call t F) (step (with_wants f.wants s) t F).reach k ∙ a)

-- ---- the tally, call by call

kept_if : (n : ℕ) (U T : Tally) → (n ≡ 0 → ⊥) → if_accepted n U T ≡ T
unfolding if_accepted
kept_if n U T ne = rw (ne_eqb n 0 ne) refl

moved_if : (n : ℕ) (U T : Tally) → n ≡ 0 → if_accepted n U T ≡ U
unfolding if_accepted
moved_if n U T e = rw (eq-eqb n 0 e) refl

-- either way
same_if : {A : Type 0} (f : Tally → A) (n : ℕ) (U T : Tally) → f U ≡ f T → f (if_accepted n U T) ≡ f T
unfolding if_accepted
same_if f n U T e = go (eqb n 0)
  where
    go : (b : Bool) → f (cond b U T) ≡ f T
    go true = e
    go false = refl

initial_same : (T : Tally) (f : Free) (c : Call) → ((sheet : List ℕ) (os : List Outlet) → c ≡ open_call sheet os → ⊥) → (count T f c).initial ≡ T.initial
unfolding count take_wants count_step count_transport count_setting
initial_same T f (step_call t F) ne = same_if (λ (U : Tally). U.initial) (refusal_of T.own f (step_call t F)) (count_step (take_wants f.wants T) t F) (take_wants f.wants T) refl
initial_same T f transport_call ne = same_if (λ (U : Tally). U.initial) (refusal_of T.own f transport_call) (count_transport (take_wants f.wants T)) (take_wants f.wants T) refl
initial_same T f (boundaries_call new) ne = same_if (λ (U : Tally). U.initial) (refusal_of T.own f (boundaries_call new)) (count_setting (take_wants f.wants T) new) (take_wants f.wants T) refl
initial_same T f greatest_call ne = same_if (λ (U : Tally). U.initial) (refusal_of T.own f greatest_call) (take_wants f.wants T) (take_wants f.wants T) refl
initial_same T f (write_call room) ne = same_if (λ (U : Tally). U.initial) (refusal_of T.own f (write_call room)) (take_wants f.wants T) (take_wants f.wants T) refl
initial_same T f (open_call sheet os) ne = absurd (ne sheet os refl)

pairs_same : (T : Tally) (f : Free) (c : Call) → ((sheet : List ℕ) (os : List Outlet) → c ≡ open_call sheet os → ⊥) → ((new : List Boundary) → c ≡ boundaries_call new → ⊥) → (count T f c).held ≡ T.held
unfolding count take_wants count_step count_transport
pairs_same T f (step_call t F) ne nb = same_if (λ (U : Tally). U.held) (refusal_of T.own f (step_call t F)) (count_step (take_wants f.wants T) t F) (take_wants f.wants T) refl
pairs_same T f transport_call ne nb = same_if (λ (U : Tally). U.held) (refusal_of T.own f transport_call) (count_transport (take_wants f.wants T)) (take_wants f.wants T) refl
pairs_same T f (boundaries_call new) ne nb = absurd (nb new refl)
pairs_same T f greatest_call ne nb = same_if (λ (U : Tally). U.held) (refusal_of T.own f greatest_call) (take_wants f.wants T) (take_wants f.wants T) refl
pairs_same T f (write_call room) ne nb = same_if (λ (U : Tally). U.held) (refusal_of T.own f (write_call room)) (take_wants f.wants T) (take_wants f.wants T) refl
pairs_same T f (open_call sheet os) ne nb = absurd (ne sheet os refl)

-- the sums of a step, of a transport

step_adds : (s : Reach) (t : ℕ) (k : Ledger) → WaterAdded s t k (add_step s t k)
unfolding add_step add_water add_mass
step_adds s t k = go (keeps_sums s t)
  where
    go : (b : Bool) → WaterAdded s t k (add_water (net_at s t 0) (net_at s t (cells s)) (cond b k (add_mass s k)))
    go true = record { left_in = refl; left_out = refl; right_in = refl; right_out = refl }
    go false = record { left_in = refl; left_out = refl; right_in = refl; right_out = refl }

step_same : (s : Reach) (t : ℕ) (k : Ledger) → keeps_sums s t ≡ true → MassSame k (add_step s t k)
unfolding add_step add_water
step_same s t k e = rw e (record { left_in = refl; left_out = refl; right_in = refl; right_out = refl })

step_moves : (s : Reach) (t : ℕ) (k : Ledger) → keeps_sums s t ≡ false → MassAdded s k (add_step s t k)
unfolding add_step add_water add_mass
step_moves s t k e = rw e (record { left_in = refl; left_out = refl; right_in = refl; right_out = refl })

mass_adds : (s : Reach) (k : Ledger) → MassAdded s k (add_mass s k)
unfolding add_mass
mass_adds s k = record { left_in = refl; left_out = refl; right_in = refl; right_out = refl }

mass_adds_no_water : (s : Reach) (k : Ledger) → WaterSame k (add_mass s k)
unfolding add_mass
mass_adds_no_water s k = record { left_in = refl; left_out = refl; right_in = refl; right_out = refl }

-- whether it is accepted or not
water_same_if : (n : ℕ) (U T : Tally) → WaterSame T.sums U.sums → WaterSame T.sums (if_accepted n U T).sums
unfolding if_accepted
water_same_if n U T w = go (eqb n 0)
  where
    go : (b : Bool) → WaterSame T.sums (cond b U T).sums
    go true = w
    go false = record { left_in = refl; left_out = refl; right_in = refl; right_out = refl }

unmoved_if : (n : ℕ) (T : Tally) → if_accepted n T T ≡ T
unfolding if_accepted
unmoved_if n T = go (eqb n 0)
  where
    go : (b : Bool) → cond b T T ≡ T
    go true = refl
    go false = refl

-- what holds of the sums of an accepted call
by_sums : (P : Ledger → Type 0) (n : ℕ) (U T : Tally) → n ≡ 0 → P U.sums → P (if_accepted n U T).sums
by_sums P n U T e p = subst (λ (X : Tally). P X.sums) (sym (moved_if n U T e)) p

-- of the outlets of an accepted call
by_outlets : (n : ℕ) (U T : Tally) → n ≡ 0 → (if_accepted n U T).outlets ≡ U.outlets
by_outlets n U T e = ap (λ (X : Tally). X.outlets) (moved_if n U T e)

step_outlets_kept : (s : Reach) (t : ℕ) (os : Outlets) → keeps_sums s t ≡ true → add_step_outlets s t os ≡ add_draws s t os
unfolding add_step_outlets
step_outlets_kept s t os e = rw e refl

step_outlets_moved : (s : Reach) (t : ℕ) (os : Outlets) → keeps_sums s t ≡ false → add_step_outlets s t os ≡ add_draws s t (add_outlet_mass s os)
unfolding add_step_outlets
step_outlets_moved s t os e = rw e refl

own_opened : (sheet : List ℕ) (os : Outlets) → (start sheet os).own ≡ sheet_record sheet os
unfolding start sheet_record
own_opened sheet os = ap (with_sums (sheet_record sheet os) no_sums) (no_draws_cleared os)

refused_is : (T : Tally) (f : Free) (c : Call) → ((sheet : List ℕ) (os : List Outlet) → c ≡ open_call sheet os → ⊥) → (refusal_of T.own f c ≡ 0 → ⊥) → count T f c ≡ take_wants f.wants T
unfolding count
refused_is T f (step_call t F) ne n = kept_if _ _ _ n
refused_is T f transport_call ne n = kept_if _ _ _ n
refused_is T f (boundaries_call new) ne n = kept_if _ _ _ n
refused_is T f greatest_call ne n = kept_if _ _ _ n
refused_is T f (write_call room) ne n = kept_if _ _ _ n
refused_is T f (open_call sheet os) ne n = absurd (ne sheet os refl)

pub tally_course : TallyCourse
unfolding run start count count_step count_transport count_setting take_wants sheet_record add_draws add_outlet_mass no_draws
tally_course = record {
  none = λ T. refl;
  next = λ T e es. refl;
  sheet_own = own_opened;
  sheet_initial = λ sheet os. refl;
  sheet_sums = λ sheet os. refl;
  sheet_pair = λ sheet os. refl;
  sheet_outlets = λ sheet os few k l. each_at _ os few k l;
  wants = λ T ws. refl;
  refused = refused_is;
  unopened = λ T f sheet os ne. kept_if _ (start sheet (loaded os)) T ne;
  greatest = λ T f. unmoved_if _ (take_wants f.wants T);
  write = λ T f room. unmoved_if _ (take_wants f.wants T);
  opened = λ T f sheet os e. moved_if _ (start sheet (loaded os)) T e;
  same_initial = initial_same;
  set_pairs = λ T f new e. ap (λ (U : Tally). U.held) (moved_if _ (count_setting (take_wants f.wants T) new) (take_wants f.wants T) e);
  other_pairs = pairs_same;
  step_water = λ T f t F e.
      let w = with_wants f.wants T.own in
      by_sums (WaterAdded w t T.sums) _ (count_step (take_wants f.wants T) t F) (take_wants f.wants T) e (step_adds w t T.sums);
  step_kept = λ T f t F e c.
      let w = with_wants f.wants T.own in
      let k = keeps w t c in (
        by_sums (MassSame T.sums) _ (count_step (take_wants f.wants T) t F) (take_wants f.wants T) e (step_same w t T.sums k),
        by_outlets _ (count_step (take_wants f.wants T) t F) (take_wants f.wants T) e ∙ step_outlets_kept w t (wanting f.wants T.outlets) k,
      );
  step_not_kept = λ T f t F e i l ne.
      let w = with_wants f.wants T.own in
      let k = keeps_not w t i l ne in (
        by_sums (MassAdded w T.sums) _ (count_step (take_wants f.wants T) t F) (take_wants f.wants T) e (step_moves w t T.sums k),
        by_outlets _ (count_step (take_wants f.wants T) t F) (take_wants f.wants T) e ∙ step_outlets_moved w t (wanting f.wants T.outlets) k,
      );
  transport_water = λ T f. water_same_if _ (count_transport (take_wants f.wants T)) (take_wants f.wants T) (mass_adds_no_water (with_wants f.wants T.own) T.sums);
  transport_mass = λ T f e. (
    by_sums (MassAdded (with_wants f.wants T.own) T.sums) _ (count_transport (take_wants f.wants T)) (take_wants f.wants T) e (mass_adds (with_wants f.wants T.own) T.sums),
    by_outlets _ (count_transport (take_wants f.wants T)) (take_wants f.wants T) e,
  );
  set_water = λ T f new. water_same_if _ (count_setting (take_wants f.wants T) new) (take_wants f.wants T) (mass_adds_no_water (with_wants f.wants T.own) T.sums);
  set_mass = λ T f new e. (
    by_sums (MassAdded (with_wants f.wants T.own) T.sums) _ (count_setting (take_wants f.wants T) new) (take_wants f.wants T) e (mass_adds (with_wants f.wants T.own) T.sums),
    by_outlets _ (count_setting (take_wants f.wants T) new) (take_wants f.wants T) e,
  );
  drawn_entry = λ s t os few k l. each_at _ os few k l;
  mass_entry = λ s os few k l. each_at _ os few k l;
}
