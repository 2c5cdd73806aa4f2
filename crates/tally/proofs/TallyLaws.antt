-- What holds of the tally after every list of calls, by induction on the list; and that its own record is the program's.
use mathlib.Core.Path.{◌≡◌, refl, sym, ap, ap₂, ◌∙◌, subst}
use mathlib.Core.Bool.{Bool, true, false, cond}
use mathlib.Core.List.{List, [], ◌∷◌}
use Prim.Native.Nat.{ℕ, suc, ◌+◌, ◌-◌, ◌<◌, ◌≤◌}
use native.Mathlib.Omega.{arith}
use borrow.Author.Tests.{ne_eqb, lt-ltb, le-leb}
use lib.Dec.{eqb}
use lib.IntN.{ℤ, pos}
use lib.Signed.{le_z}
use lib.ListN.{length, get_or}
use Rattle.numbers.specs.Signed.{positive}
use Rattle.numbers.proofs.IndexLaws.{sum_none}
use Rattle.outlet.specs.Outlets.{outlets_most, outlet_at, each_outlet, cleared, loaded}
use Rattle.outlet.specs.declared.Outlet.{Outlet}
use Rattle.outlet.specs.declared.Outlets.{Outlets}
use Rattle.outlet.proofs.OutletLaws.{each_at}
use Rattle.mass.specs.Transport.{rightwards, leftwards, left_share, right_share, moved_outlet, moved_outlets}
use Rattle.reach.specs.Reach.{Reach, cells}
use Rattle.reach.specs.Outcome.{outcome}
use Rattle.reach.specs.Balance.{water_held, total_water_in, total_water_out, outlet_water, water_gone, WaterBalanced, mass_held, total_mass_in, total_mass_out, outlet_mass, mass_gone, MassBalanced, everywhere, BoundariesWithin}
use Rattle.reach.specs.declared.boundary.Boundary.{Boundary}
use Rattle.reach.specs.declared.ledger.Ledger.{Ledger}
use Rattle.reach.specs.Grounds.{Verdict}
use Rattle.reach.specs.Refusals.{number}
use Rattle.reach.proofs.GroundsLaws.{stood}
use Rattle.reach.proofs.Sound.{Sound, outlets_few}
use Rattle.reach.proofs.OutletLaws.{each_sum}
use Rattle.transport.specs.Calls.{entering_left, entering_right, mass_columns_of, with_mass, ledger_with, transport_ledger, transport_outlets, transport_held, after_transport, transport, holding, set_boundaries}
use Rattle.transport.proofs.CallsLaws.{by_outcome, by_transport, transport_balanced, transport_within}
use Rattle.water.specs.Water.{net_at, available, draw_of, new_depth}
use Rattle.water.proofs.WaterLaws.{draw_most}
use Rattle.cfl.specs.Cfl.{meets_cfl}
use Rattle.timestep.specs.GreatestStep.{place_speed}
use Rattle.update.specs.Step.{keeps_sums, transported_first, with_water, with_boundary_water, step_ledger, stepped_outlet, step_outlets, step_held, after_step, step}
use Rattle.update.proofs.StepLaws.{by_step, depth_not_negative, available_not_negative, step_water_balanced, step_mass_balanced, step_within}
use Rattle.sheet.specs.Header.{count_of}
use Rattle.sheet.specs.Opening.{sheet_record, opening}
use Rattle.sheet.proofs.OpeningLaws.{by_opening, check, opened_passes}
use Rattle.tally.specs.Call.{Free, Call, Entry, step_call, transport_call, boundaries_call, greatest_call, write_call, open_call, wanting_outlet, wanting, lending, after_opening, next, final}
use Rattle.tally.specs.Tally.{Tally, add_water, add_mass, add_step, add_draws, add_outlet_mass, add_step_outlets, with_sums, no_draws, start, take_wants, count_step, count_transport, count_setting, accepted, if_accepted, count, run}
use Rattle.tally.specs.Holds.{Each, DepthsFromZero, WithinWants, AvailableFromZero, Accounts, Holds, OfDefinitions}
use Rattle.std.specs.Prelude.{Ok}

-- ---- the tally's sums are the ledger of the definitions: document 01 gives each once as a ledger and once as a tally

module _ (s : Reach) (k : Sound s) where
  first_out : leftwards (mass_columns_of s) 0 ≡ left_share (mass_columns_of s) 0
  unfolding leftwards
  first_out = let n = k.some in let m = k.masses in rw (lt-ltb 0 (length s.mass) (omega arith)) refl

  last_out : rightwards (mass_columns_of s) (cells s) ≡ right_share (mass_columns_of s) (cells s - 1)
  unfolding rightwards
  last_out =
      let n = k.some in
      let e : cells s ≡ suc (cells s - 1) = omega arith in
      ap (rightwards (mass_columns_of s)) e

  pub mass_added : add_mass s s.held.ledger ≡ transport_ledger s
  unfolding add_mass transport_ledger ledger_with with_mass entering_left entering_right
  mass_added = rw (first_out, last_out) refl

  pub step_added : (t : ℕ) → add_step s t s.held.ledger ≡ step_ledger s t
  unfolding add_step add_water step_ledger with_boundary_water with_water transported_first after_transport transport_held
  step_added t = rw mass_added (go (keeps_sums s t))
    where
      go : (b : Bool) →
          add_water (net_at s t 0) (net_at s t (cells s)) (cond b s.held.ledger (transport_ledger s))
          ≡ with_boundary_water (cond b s (after_transport s)).held.ledger (net_at s t 0) (net_at s t (cells s))
      go true = refl
      go false = refl

-- ---- and its outlets are those of the definitions

module _ (s : Reach) where
  pub outlet_mass_added : add_outlet_mass s s.held.outlets ≡ transport_outlets s
  unfolding add_outlet_mass transport_outlets moved_outlets moved_outlet
  outlet_mass_added = refl

  pub outlets_added : (t : ℕ) → add_step_outlets s t s.held.outlets ≡ step_outlets s t
  unfolding add_step_outlets add_draws step_outlets stepped_outlet transported_first after_transport transport_held
  outlets_added t = rw outlet_mass_added (go (keeps_sums s t))
    where
      go : (b : Bool) →
          add_draws s t (cond b s.held.outlets (transport_outlets s))
          ≡ each_outlet (λ k. let o = outlet_at (cond b s (after_transport s)).held.outlets k in
          record { cell = o.cell; want = o.want; drawn = o.drawn + draw_of s t k; water = o.water + draw_of s t k; mass = o.mass }) (cond b s (after_transport s)).held.outlets
      go true = refl
      go false = refl

pub no_draws_cleared : (os : Outlets) → no_draws os ≡ cleared os
unfolding no_draws cleared
no_draws_cleared os = refl

-- a list that has drawn nothing, and one with other wants

module _ (os : Outlets) (few : os.count ≤ outlets_most) where
  no_draws_few : (no_draws os).count ≤ outlets_most
  unfolding no_draws each_outlet
  no_draws_few = few

  no_water : outlet_water (no_draws os) ≡ 0
  unfolding outlet_water no_draws
  no_water = each_sum (λ k. record { cell = (outlet_at os k).cell; want = (outlet_at os k).want; drawn = 0; water = 0; mass = 0 }) os few (λ o. o.water) ∙ sum_none os.count (λ k. 0) (λ k l. refl)

  no_mass : outlet_mass (no_draws os) ≡ 0
  unfolding outlet_mass no_draws
  no_mass = each_sum (λ k. record { cell = (outlet_at os k).cell; want = (outlet_at os k).want; drawn = 0; water = 0; mass = 0 }) os few (λ o. o.mass) ∙ sum_none os.count (λ k. 0) (λ k l. refl)

  module _ (ws : List ℕ) where
    wanting_few : (wanting ws os).count ≤ outlets_most
    unfolding wanting each_outlet
    wanting_few = few

    same_water : outlet_water (wanting ws os) ≡ outlet_water os
    unfolding outlet_water wanting
    same_water = each_sum (λ k. wanting_outlet (get_or ws k 0) (outlet_at os k)) os few (λ o. o.water)

    same_mass : outlet_mass (wanting ws os) ≡ outlet_mass os
    unfolding outlet_mass wanting
    same_mass = each_sum (λ k. wanting_outlet (get_or ws k 0) (outlet_at os k)) os few (λ o. o.mass)

    -- outlet k with number k of the wants
    pub wanting_at : (k : ℕ) → k < os.count → outlet_at (wanting ws os) k ≡ wanting_outlet (get_or ws k 0) (outlet_at os k)
    unfolding wanting
    wanting_at = each_at (λ k. wanting_outlet (get_or ws k 0) (outlet_at os k)) os few

-- ---- what every call keeps

pub record Kept (T : Tally) : Type 0 where
  pub holds : Holds T T.own
  -- what the bounds of a transport need
  pub boundaries_within : (lo hi : ℤ)
      → Each (BoundariesWithin (everywhere lo) (everywhere hi) (cells T.initial)) T.held
      → BoundariesWithin (everywhere lo) (everywhere hi) (cells T.own) T.own.held.boundaries
  -- and what sums over the outlets need
  pub few : T.outlets.count ≤ outlets_most

start_kept : (sheet : List ℕ) (os : Outlets) → os.count ≤ outlets_most → Kept (start sheet os)
unfolding start sheet_record water_held total_water_in total_water_out mass_held total_mass_in total_mass_out Each Accounts
start_kept sheet os few = record {
  holds = record {
    own = refl;
    water = omega (arith, no_water os few);
    mass = omega (arith, no_mass os few);
    ledger = refl;
    outlets = refl;
    depths = tt;
    wanted = tt;
    available = tt;
    bounds = λ lo hi c e. record { above = c.above; below = c.below };
  };
  boundaries_within = λ lo hi e. e.0;
  few = no_draws_few os few;
}

from_zero : (n : ℕ) → le_z (pos 0) (pos n) ≡ true
from_zero n = le-leb 0 n (omega arith)

module _ (T : Tally) (K : Kept T) where
  -- what a balanced call makes of the account since the opening
  water_on : (s : Reach) (k : Ledger) (os : Outlets) → s.held.ledger ≡ k → s.held.outlets ≡ os → WaterBalanced T.own s
      → Accounts (water_held s) (water_held T.initial) (total_water_in k) (total_water_out k + outlet_water os)
  unfolding WaterBalanced water_gone Accounts
  water_on s k os e d b =
      let h = K.holds.water in
      let f = K.holds.ledger in
      let i = ap total_water_in f in
      let o = ap total_water_out f in
      let w = ap outlet_water K.holds.outlets in
      let i' = ap total_water_in e in
      let o' = ap total_water_out e in
      let w' = ap outlet_water d in
      omega arith

  mass_on : (s : Reach) (k : Ledger) (os : Outlets) → s.held.ledger ≡ k → s.held.outlets ≡ os → MassBalanced T.own s
      → Accounts (mass_held s) (mass_held T.initial) (total_mass_in k) (total_mass_out k + outlet_mass os)
  unfolding MassBalanced mass_gone Accounts
  mass_on s k os e d b =
      let h = K.holds.mass in
      let f = K.holds.ledger in
      let i = ap total_mass_in f in
      let o = ap total_mass_out f in
      let w = ap outlet_mass K.holds.outlets in
      let i' = ap total_mass_in e in
      let o' = ap total_mass_out e in
      let w' = ap outlet_mass d in
      omega arith

  -- the sums go on as the ledger does, and the tally's outlets as the record's
  sums_step : Sound T.own → (t F : ℕ) → (after_step T.own t F).held.ledger ≡ add_step T.own t T.sums
  unfolding after_step step_held
  sums_step k t F = sym (step_added T.own k t) ∙ ap (add_step T.own t) K.holds.ledger

  outlets_step : (t F : ℕ) → (after_step T.own t F).held.outlets ≡ add_step_outlets T.own t T.outlets
  unfolding after_step step_held
  outlets_step t F = sym (outlets_added T.own t) ∙ ap (add_step_outlets T.own t) K.holds.outlets

  sums_mass : Sound T.own → (after_transport T.own).held.ledger ≡ add_mass T.own T.sums
  unfolding after_transport transport_held
  sums_mass k = sym (mass_added T.own k) ∙ ap (add_mass T.own) K.holds.ledger

  outlets_mass : (after_transport T.own).held.outlets ≡ add_outlet_mass T.own T.outlets
  unfolding after_transport transport_held
  outlets_mass = sym (outlet_mass_added T.own) ∙ ap (add_outlet_mass T.own) K.holds.outlets

  few_step : (t : ℕ) → (add_step_outlets T.own t T.outlets).count ≤ outlets_most
  unfolding add_step_outlets add_draws add_outlet_mass each_outlet
  few_step t = go (keeps_sums T.own t)
    where
      go : (b : Bool) → (cond b T.outlets (add_outlet_mass T.own T.outlets)).count ≤ outlets_most
      go true = K.few
      go false = K.few

  few_mass : (add_outlet_mass T.own T.outlets).count ≤ outlets_most
  unfolding add_outlet_mass each_outlet
  few_mass = K.few

  wants_kept : (ws : List ℕ) → Kept (take_wants ws T)
  unfolding take_wants water_held mass_held Accounts
  wants_kept ws = record {
    holds = record {
      own = refl;
      ledger = K.holds.ledger;
      outlets = ap (wanting ws) K.holds.outlets;
      water = omega (arith, same_water T.outlets K.few ws, K.holds.water);
      mass = omega (arith, same_mass T.outlets K.few ws, K.holds.mass);
      depths = K.holds.depths;
      wanted = K.holds.wanted;
      available = K.holds.available;
      bounds = λ lo hi o h. let w = K.holds.bounds lo hi o h in record { above = w.above; below = w.below };
    };
    boundaries_within = K.boundaries_within;
    few = omega (arith, wanting_few T.outlets K.few ws, K.few);
  }

  step_kept : (t F : ℕ) → Sound T.own → meets_cfl (place_speed T.own) (cells T.own + 1) T.own.cell_length t ≡ true → Kept (count_step T t F)
  unfolding count_step Each DepthsFromZero WithinWants AvailableFromZero water_held mass_held after_step step_held
  step_kept t F k c =
      let e = sums_step k t F in
      let d = outlets_step t F in record {
        holds = record {
          own = refl;
          ledger = refl;
          outlets = refl;
          water = water_on (after_step T.own t F) _ _ e d (step_water_balanced T.own k t c F);
          mass = mass_on (after_step T.own t F) _ _ e d (step_mass_balanced T.own k t F);
          depths = (λ i l. ap (le_z (pos 0)) (depth_not_negative T.own k t c i l) ∙ from_zero (positive (new_depth T.own t i)), K.holds.depths);
          wanted = (draw_most T.own t, K.holds.wanted);
          available = (λ i l. ap (le_z (pos 0)) (available_not_negative T.own k t c i l) ∙ from_zero (positive (available T.own t i)), K.holds.available);
          bounds = λ lo hi o h.
              let w = step_within T.own k t F lo hi (K.holds.bounds lo hi o h) (K.boundaries_within lo hi h) in
              record { above = w.above; below = w.below };
        };
        boundaries_within = K.boundaries_within;
        few = few_step t;
      }

  -- a transport moves no water, and no outlet's
  moved_water : Sound T.own → outlet_water (transport_outlets T.own) ≡ outlet_water T.own.held.outlets
  unfolding outlet_water transport_outlets moved_outlets moved_outlet
  moved_water k =
      let s = T.own in
      each_sum (moved_outlet (mass_columns_of s) s.held.outlets) s.held.outlets (outlets_few (cells s) s.held.outlets k.outlets) (λ o. o.water)

  transported_water : Sound T.own → WaterBalanced T.own (after_transport T.own)
  unfolding WaterBalanced water_held total_water_in total_water_out water_gone after_transport transport_held transport_ledger ledger_with with_mass
  transported_water k = omega (arith, moved_water k)

  setting_kept : (es : List Boundary) → Sound T.own → Kept (count_setting T es)
  unfolding count_setting Each water_held mass_held after_transport holding
  setting_kept es k =
      let e = sums_mass k in
      let d = outlets_mass in record {
        holds = record {
          own = refl;
          ledger = refl;
          outlets = refl;
          water = water_on (after_transport T.own) _ _ e d (transported_water k);
          mass = mass_on (after_transport T.own) _ _ e d (transport_balanced T.own k);
          depths = K.holds.depths;
          wanted = K.holds.wanted;
          available = K.holds.available;
          bounds = λ lo hi o h.
              let w = transport_within T.own k lo hi (K.holds.bounds lo hi o h.1) (K.boundaries_within lo hi h.1) in
              record { above = w.above; below = w.below };
        };
        boundaries_within = λ lo hi h. record { left = h.0.left; right = h.0.right };
        few = few_mass;
      }

  transporting_kept : Sound T.own → Kept (count_transport T)
  unfolding count_transport water_held mass_held after_transport transport_held
  transporting_kept k =
      let e = sums_mass k in
      let d = outlets_mass in record {
        holds = record {
          own = refl;
          ledger = refl;
          outlets = refl;
          water = water_on (after_transport T.own) _ _ e d (transported_water k);
          mass = mass_on (after_transport T.own) _ _ e d (transport_balanced T.own k);
          depths = K.holds.depths;
          wanted = K.holds.wanted;
          available = K.holds.available;
          bounds = λ lo hi o h.
              let w = transport_within T.own k lo hi (K.holds.bounds lo hi o h) (K.boundaries_within lo hi h) in
              record { above = w.above; below = w.below };
        };
        boundaries_within = K.boundaries_within;
        few = few_mass;
      }

  -- the tally after a call of refusal n, that met it
  abbrev after : ℕ → Free → Call → Tally
  after n f c = if_accepted n (accepted T f c) T

  stays : (n : ℕ) (f : Free) (c : Call) → 0 < n → after n f c ≡ T
  unfolding if_accepted
  stays n f c p = rw (ne_eqb n 0 (λ z. omega arith)) refl

  either : (n : ℕ) (f : Free) (c : Call) → Kept (accepted T f c) → Kept (after n f c)
  unfolding if_accepted
  either n f c k = go (eqb n 0)
    where
      go : (b : Bool) → Kept (cond b (accepted T f c) T)
      go true = k
      go false = K

  step_counted : (f : Free) (t F : ℕ) → Kept (after (step T.own t F).refusal f (step_call t F))
  unfolding if_accepted
  step_counted f t F =
      by_step T.own t F (λ o. Kept (after o.refusal f (step_call t F)))
      (λ n p. subst Kept (sym (stays n f (step_call t F) p)) K)
      (λ k c d l. step_kept t F k c)

  transport_counted : (f : Free) → Kept (after (transport T.own).refusal f transport_call)
  unfolding if_accepted
  transport_counted f =
      by_transport T.own (λ o. Kept (after o.refusal f transport_call))
      (λ n p. subst Kept (sym (stays n f transport_call p)) K)
      (λ k l. transporting_kept k)

  setting_counted : (f : Free) (es : List Boundary) → Kept (after (set_boundaries T.own es).refusal f (boundaries_call es))
  unfolding if_accepted
  setting_counted f es =
      by_outcome T.own es (λ o. Kept (after o.refusal f (boundaries_call es)))
      (λ n p. subst Kept (sym (stays n f (boundaries_call es) p)) K)
      (λ k g l. setting_kept es k)

  -- ---- the tally's own record moves as the program's does

  step_moved : (f : Free) (t F : ℕ) → (after (step T.own t F).refusal f (step_call t F)).own ≡ (step T.own t F).reach
  unfolding if_accepted count_step after_step step_held
  step_moved f t F =
      by_step T.own t F (λ o. (after o.refusal f (step_call t F)).own ≡ o.reach)
      (λ n p. ap (λ (x : Tally). x.own) (stays n f (step_call t F) p))
      (λ k c d l. ap₂ (with_sums (after_step T.own t F)) (sym (sums_step k t F)) (sym (outlets_step t F)))

  transport_moved : (f : Free) → (after (transport T.own).refusal f transport_call).own ≡ (transport T.own).reach
  unfolding if_accepted count_transport after_transport transport_held
  transport_moved f =
      by_transport T.own (λ o. (after o.refusal f transport_call).own ≡ o.reach)
      (λ n p. ap (λ (x : Tally). x.own) (stays n f transport_call p))
      (λ k l. ap₂ (with_sums (after_transport T.own)) (sym (sums_mass k)) (sym outlets_mass))

  setting_moved : (f : Free) (es : List Boundary) → (after (set_boundaries T.own es).refusal f (boundaries_call es)).own ≡ (set_boundaries T.own es).reach
  unfolding if_accepted count_setting after_transport transport_held holding
  setting_moved f es =
      by_outcome T.own es (λ o. (after o.refusal f (boundaries_call es)).own ≡ o.reach)
      (λ n p. ap (λ (x : Tally). x.own) (stays n f (boundaries_call es) p))
      (λ k g l. ap₂ (with_sums (holding es (after_transport T.own))) (sym (sums_mass k)) (sym outlets_mass))

  unmoved : (n : ℕ) → (if_accepted n T T).own ≡ T.own
  unfolding if_accepted
  unmoved n = go (eqb n 0)
    where
      go : (b : Bool) → (cond b T T).own ≡ T.own
      go true = refl
      go false = refl

-- ---- of a call with its wants, and of an opening

-- an accepted opening's list is no longer than 32
opened_few : (sheet : List ℕ) (l : Reach) → check sheet l ≡ Ok tt → l.held.outlets.count ≤ outlets_most
opened_few sheet l e = outlets_few (count_of sheet) l.held.outlets (stood _ e 7)

module _ (T : Tally) (K : Kept T) where
  opening_counted : (f : Free) (sheet : List ℕ) (list : List Outlet) → Kept (after T K (opening sheet (lending (loaded list) T.own)).refusal f (open_call sheet list))
  unfolding if_accepted opening
  opening_counted f sheet list =
      let l = lending (loaded list) T.own in
      by_opening sheet l (λ (x : Verdict). Kept (after T K (outcome x l (sheet_record sheet (loaded list))).refusal f (open_call sheet list)))
      (λ r p. subst Kept (sym (stays T K (number r) f (open_call sheet list) p)) K)
      (λ e. start_kept sheet (loaded list) (opened_few sheet l e))

  opening_moved : (f : Free) (sheet : List ℕ) (list : List Outlet) →
      (after T K (opening sheet (lending (loaded list) T.own)).refusal f (open_call sheet list)).own ≡ next T.own f (open_call sheet list)
  unfolding if_accepted opening start sheet_record no_draws cleared
  opening_moved f sheet list =
      let l = lending (loaded list) T.own in
      by_opening sheet l
      (λ (x : Verdict).
      let o = outcome x l (sheet_record sheet (loaded list)) in (after T K o.refusal f (open_call sheet list)).own ≡ after_opening o T.own)
      (λ r p. rw (ne_eqb (number r) 0 (λ z. omega arith)) refl)
      (λ e. refl)

  pub count_kept : (f : Free) (c : Call) → Kept (count T f c)
  unfolding count take_wants
  count_kept f (step_call t F) = step_counted (take_wants f.wants T) (wants_kept T K f.wants) f t F
  count_kept f transport_call = transport_counted (take_wants f.wants T) (wants_kept T K f.wants) f
  count_kept f (boundaries_call es) = setting_counted (take_wants f.wants T) (wants_kept T K f.wants) f es
  count_kept f greatest_call = let k = wants_kept T K f.wants in either (take_wants f.wants T) k _ f greatest_call k
  count_kept f (write_call room) = let k = wants_kept T K f.wants in either (take_wants f.wants T) k _ f (write_call room) k
  count_kept f (open_call sheet os) = opening_counted f sheet os

  pub count_next : (f : Free) (c : Call) → (count T f c).own ≡ next T.own f c
  unfolding count take_wants
  count_next f (step_call t F) = step_moved (take_wants f.wants T) (wants_kept T K f.wants) f t F
  count_next f transport_call = transport_moved (take_wants f.wants T) (wants_kept T K f.wants) f
  count_next f (boundaries_call es) = setting_moved (take_wants f.wants T) (wants_kept T K f.wants) f es
  count_next f greatest_call = unmoved (take_wants f.wants T) (wants_kept T K f.wants) _
  count_next f (write_call room) = unmoved (take_wants f.wants T) (wants_kept T K f.wants) _
  count_next f (open_call sheet os) = opening_moved f sheet os

pub run_kept : (T : Tally) → Kept T → (es : List Entry) → Kept (run T es)
unfolding run
run_kept T K [] = K
run_kept T K (e ∷ es) = run_kept (count T e.free e.call) (count_kept T K e.free e.call) es

pub run_final : (T : Tally) → Kept T → (es : List Entry) → (run T es).own ≡ final T.own es
unfolding run final
run_final T K [] = refl
run_final T K (e ∷ es) =
    run_final (count T e.free e.call) (count_kept T K e.free e.call) es
    ∙ ap (λ (s : Reach). final s es) (count_next T K e.free e.call)

-- ---- of a whole list

-- an accepted opening leaves the tally's own record
pub opened_own : (sheet : List ℕ) (l : Reach) → (opening sheet l).refusal ≡ 0 → (opening sheet l).reach ≡ (start sheet l.held.outlets).own
unfolding opening start sheet_record no_draws cleared
opened_own sheet l e =
    by_opening sheet l
    (λ (x : Verdict). (outcome x l (sheet_record sheet l.held.outlets)).refusal ≡ 0 → (outcome x l (sheet_record sheet l.held.outlets)).reach ≡ (start sheet l.held.outlets).own)
    (λ n p z. absurd (omega arith))
    (λ p z. refl)
    e

pub of_definitions : OfDefinitions
of_definitions sheet l es e =
    let T = start sheet l.held.outlets in
    let K = start_kept sheet l.held.outlets (opened_few sheet l (opened_passes sheet l e)) in
    subst (Holds (run T es)) (run_final T K es ∙ ap (λ (s : Reach). final s es) (sym (opened_own sheet l e))) (run_kept T K es).holds
