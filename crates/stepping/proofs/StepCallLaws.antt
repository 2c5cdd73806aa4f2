-- Laws of the step's call: what a sound record owes its functions, that what they find is what the definitions say, and what each outcome is.
-- Assumes nothing.
use mathlib.Core.Path.{◌≡◌, refl, sym, ap, ◌∙◌, subst}
use mathlib.Core.Bool.{Bool, true, false, not, cond}
use mathlib.Core.List.{List}
use Prim.Native.Nat.{ℕ, zero, suc, ◌+◌, ◌-◌, ◌*◌, ◌≤◌, ◌<◌}
use native.Mathlib.Numerals.{add-one}
use native.Mathlib.Omega.{arith}
use borrow.Author.Tests.{leb-true, le-leb, lt-ltb, ne_eqb}
use lib.Dec.{leb, ltb, eqb}
use lib.IntN.{ℤ, pos, negsuc, ◌+ℤ◌, nat_abs}
use lib.Signed.{le_z}
use lib.ListN.{length, get_or, replicate, length-replicate}
use Rattle.numbers.specs.Index.{all_below, tabulate, sum}
use Rattle.numbers.specs.Deal.{dealt}
use Rattle.numbers.specs.Signed.{positive}
use Rattle.numbers.proofs.IndexLaws.{and_both, and_left, and_right, all_of_lem, all_at, all_below_lem, all_same, tabulate_same, get_or_tabulate, length_tabulate}
use Rattle.numbers.proofs.SearchLaws.{by_less}
use Rattle.numbers.proofs.SignedLaws.{abs_neg}
use Rattle.outlet.specs.Outlets.{outlets_most, want_most, outlet_at}
use Rattle.outlet.specs.declared.Outlet.{Outlet}
use Rattle.outlet.specs.declared.Outlets.{Outlets}
use Rattle.outlet.proofs.OutletLaws.{each_at, each_count, each_same}
use Rattle.drawing.specs.Ranges.{Granted}
use Rattle.flux.specs.Limits.{depth_most}
use Rattle.flux.specs.Interface.{Side, mirrored}
use Rattle.flux.specs.Ranges.{Mesh}
use Rattle.flux.specs.Velocity.{velocity}
use Rattle.friction.specs.Friction.{strickler_fits}
use Rattle.cfl.specs.Cfl.{signal_speed, speed_at, meets_cfl}
use Rattle.reach.specs.Limits.{wall, open_boundary, fed, carried_most, cells_most, total_most}
use Rattle.reach.specs.Reach.{Reach, reach_of, cells, depth_at, discharge_at, carried_at, left_boundary, right_boundary, with_totals}
use Rattle.reach.specs.Grounds.{first_refusal, record_grounds, boundary_fits, boundaries_fit, kind_fits, all_totals_fit, pass_or}
use Rattle.reach.specs.Outcome.{Outcome, outcome}
use Rattle.reach.specs.Parts.{drawn_from}
use Rattle.reach.specs.Ranges.{undrawn}
use Rattle.reach.specs.declared.held.Held.{Held}
use Rattle.reach.specs.declared.boundary.Boundary.{Boundary}
use Rattle.reach.specs.declared.boundary.BoundaryPlace.{BoundaryPlace}
use Rattle.reach.specs.declared.boundary.BoundaryPlace.TheVariants.{Left, Right}
use Rattle.reach.specs.declared.ledger.Ledger.{Ledger}
use Rattle.reach.specs.Grounds.{Verdict}
use Rattle.reach.specs.Refusals.{number}
use Rattle.reach.specs.declared.refusal.Refusal.{Refusal}
use Rattle.stepping.specs.declared.step.StepAnswer.{StepAnswer}
use Rattle.reach.proofs.GroundsLaws.{go_on, stop_at, last_one, further, no_further, number_above}
use Rattle.reach.proofs.OutletLaws.{one_drawn}
use Rattle.reach.proofs.PartsLaws.{outflow_is}
use Rattle.reach.proofs.Sound.{Sound, outlets_few, outlet_sound}
use Rattle.mass.specs.Transport.{mass_columns, outlet_share, moved_outlet, moved_outlets}
use Rattle.mass.specs.Ranges.{Ready, Gained, gains, moved_mass}
use Rattle.mass.proofs.GainsLaws.{gained_none, taken_same}
use Rattle.transport.specs.Calls.{entering_left, entering_right, mass_columns_of, with_mass, ledger_with, transport_outlets, transport_held, after_transport}
use Rattle.transport.specs.Ranges.{mass_columns_with, Small}
use Rattle.transport.proofs.CallsLaws.{crossed_with, ready_entering, moved_none, gained_entering, taken_entering, shares_moved, outlets_are, small, ledger_is, carried_zero}
use Rattle.water.specs.Sides.{side_speed, cell_side, boundary_side, left_side, right_side}
use Rattle.water.specs.Water.{net_at, wants_from, draws, draw_of, new_depth, new_discharge}
use Rattle.water.specs.Fits.{flux_most}
use Rattle.water.specs.Ranges.{flow_of, FlowFits, side_meets, sides_meet, granted, granted_depth, granted_discharge, Swept}
use Rattle.water.proofs.WaterLaws.{right_side_cell, right_side_end, net_small, granted_is, depth_is, discharge_is, draws_dealt, draw_most}
use Rattle.timestep.specs.GreatestStep.{boundary_speed, left_speed, right_speed, place_speed}
use Rattle.stepping.specs.declared.step.StepAnswer.{StepAnswer}
use Rattle.update.proofs.StepLaws.{by_step, transported_count, water_fits as outlet-water-fits, each_totals, kept_by_depth}
use Rattle.update.specs.Step.{summed, keeps_sums, transported_first, with_boundary_water, step_ledger, stepped_outlet, step_outlets, step_held, after_step, time_fits, depths_fit, step_grounds, step, transports}
use Rattle.stepping.specs.StepCall.{stopped_by, StepCameTo}
use Rattle.stepping.specs.Ranges.{Summable, sums_kept, BoundaryMassWhen, outlet_with, with_draws, Room, StepFound}
use Rattle.std.specs.Prelude.{Ok, Err}
use Rattle.reach.specs.declared.refusal.Refusal.TheVariants as refusal

-- ---- what a sound record owes the sweep

pub mesh : (s : Reach) → Sound s → (t : ℕ) → time_fits t ≡ true → Mesh t s.cell_length
unfolding time_fits
mesh s k t e = record { time = leb-true _ _ (all_of_lem _ e 1); least = k.length_least; most = k.length_most }

pub flow_fits : (s : Reach) → Sound s → FlowFits s
flow_fits s k = record {
  some = k.some;
  few = omega (arith, k.few);
  depths = k.depths;
  discharges = k.discharges;
  cell = λ i l. let c = k.cell i l in (c.bed, (c.depth, c.discharge));
  left = (k.left.depth, k.left.discharge);
  right = (k.right.depth, k.right.discharge);
}

-- and so has its water alone
pub water_fits : (s : Reach) → Sound s → FlowFits (flow_of s.bed s.depth s.discharge s.cell_length s.held.boundaries)
water_fits s k = let f = flow_fits s k in
    record { some = f.some; few = f.few; depths = f.depths; discharges = f.discharges; cell = f.cell; left = f.left; right = f.right }

pub carried_small : (s : Reach) → Sound s → (i : ℕ) → i ≤ cells s → nat_abs (carried_at s i) ≤ carried_most
carried_small s k i l =
    by_less i (cells s) (λ b. nat_abs (carried_at s i) ≤ carried_most)
    (λ j. (k.water i j).left)
    (λ j.
    let n = k.some in
    let p : cells s - 1 + 1 ≡ i = omega arith in
    subst (λ (n : ℕ). nat_abs (carried_at s n) ≤ carried_most) p (k.water (cells s - 1) (omega arith)).right)

-- ---- ground 11: CFL at every side is CFL at every place

same_truth : (a b : Bool) → (a ≡ true → b ≡ true) → (b ≡ true → a ≡ true) → a ≡ b
same_truth true b f g = sym (f refl)
same_truth false true f g = g refl
same_truth false false f g = refl

module _ (t X : ℕ) (p : BoundaryPlace) (e : Boundary) (c : Side) where
  -- a boundary that meets CFL as a side meets it as a place
  boundary_counts : side_meets t X (boundary_side p e c) ≡ true → leb (t * boundary_speed p e c) (1_000 * X) ≡ true
  unfolding boundary_speed side_meets
  boundary_counts m = go (eqb e.kind fed)
    where
      go : (f : Bool) → leb (t * cond f (side_speed (boundary_side p e c)) 0) (1_000 * X) ≡ true
      go true = m
      go false = le-leb (t * 0) (1_000 * X) (omega arith)

  -- and the other way round, beside a cell that meets it
  boundary_meets : boundary_fits e ≡ true → side_meets t X c ≡ true → leb (t * boundary_speed p e c) (1_000 * X) ≡ true → side_meets t X (boundary_side p e c) ≡ true
  unfolding boundary_fits kind_fits boundary_speed boundary_side mirrored side_meets side_speed
  boundary_meets b m q = go (eqb e.kind wall) (eqb e.kind open_boundary) (eqb e.kind fed) _ _ _ (all_of_lem _ b 1) q
    where
      go : (w o f x y z : Bool) → cond w x (cond o y (cond f z false)) ≡ true → leb (t * cond f (side_speed (cond w (mirrored c) (cond o c (record { bed = c.bed; depth = e.depth; velocity = velocity e.depth e.discharge })))) 0) (1_000 * X) ≡ true
          → side_meets t X (cond w (mirrored c) (cond o c (record { bed = c.bed; depth = e.depth; velocity = velocity e.depth e.discharge }))) ≡ true
      go true o f x y z k q = rw (abs_neg c.velocity) m
      go false true f x y z k q = m
      go false false true x y z k q = q
      go false false false x y z k q = cc

-- what moves with the mass of an outlet: its drawn water is gone, its water total stays
transport_outlets_are : (s : Reach) → transport_outlets s ≡ moved_outlets (mass_columns_of s) s.held.outlets
unfolding transport_outlets
transport_outlets_are s = refl

none_drawn_lem : (s : Reach) (n : ℕ) → (moved_outlet (mass_columns_of s) s.held.outlets n).drawn ≤ depth_most
unfolding moved_outlet
none_drawn_lem s n = omega arith

same_water : (s : Reach) (n : ℕ) → (outlet_at s.held.outlets n).water ≤ total_most → (moved_outlet (mass_columns_of s) s.held.outlets n).water ≤ total_most
unfolding moved_outlet
same_water s n l = l

module _ (s : Reach) (k : Sound s) (t : ℕ) where
  -- CFL at place p
  abbrev place : ℕ → Bool
  place p = leb (t * place_speed s p) (1_000 * s.cell_length)

  abbrev side : ℕ → Bool
  side i = side_meets t s.cell_length (right_side s i)

  left_fits : boundary_fits (left_boundary s.held.boundaries) ≡ true
  unfolding boundaries_fit
  left_fits = all_of_lem _ k.boundaries 0

  right_fits : boundary_fits (right_boundary s.held.boundaries) ≡ true
  unfolding boundaries_fit
  right_fits = all_of_lem _ k.boundaries 1

  -- a place past the left boundary, by whether it is a cell
  place_of : (i : ℕ) (P : Bool → Type 0) → (i < cells s → P (side_meets t s.cell_length (cell_side s i)))
      → (cells s ≤ i → P (leb (t * right_speed s) (1_000 * s.cell_length))) → P (place (suc i))
  unfolding place_speed speed_at signal_speed side_meets side_speed cell_side
  place_of i P f g =
      by_less i (length s.depth) (λ b. P (leb (t * cond b (signal_speed (depth_at s i) (discharge_at s i)) (right_speed s)) (1_000 * s.cell_length)))
      (λ l. f (omega (arith, k.depths)))
      (λ l. g (omega (arith, k.depths)))

  place_first : place 0 ≡ leb (t * left_speed s) (1_000 * s.cell_length)
  unfolding place_speed speed_at
  place_first = refl

  to_places : sides_meet s t ≡ true → meets_cfl (place_speed s) (cells s + 1) s.cell_length t ≡ true
  unfolding sides_meet meets_cfl left_side left_speed right_speed
  to_places m = all_below_lem place (suc (cells s + 1)) go
    where
      first : side_meets t s.cell_length (left_side s 0) ≡ true
      first = and_left _ _ m

      all : all_below (suc (cells s)) side ≡ true
      all = and_right (side_meets t s.cell_length (left_side s 0)) _ m

      go : (p : ℕ) → p < suc (cells s + 1) → place p ≡ true
      go zero l = place_first ∙ boundary_counts t s.cell_length Left (left_boundary s.held.boundaries) (cell_side s 0) first
      go (suc i) l =
          place_of i (λ b. b ≡ true)
          (λ j. rw (right_side_cell s i j) at (all_at side (suc (cells s)) i all (omega arith)))
          (λ j. boundary_counts t s.cell_length Right (right_boundary s.held.boundaries) (cell_side s (cells s - 1))
          (rw (right_side_end s) at (all_at side (suc (cells s)) (cells s) all (omega arith))))

  to_sides : meets_cfl (place_speed s) (cells s + 1) s.cell_length t ≡ true → sides_meet s t ≡ true
  unfolding sides_meet meets_cfl left_side left_speed right_speed
  to_sides m = and_both _ _ (boundary_meets t s.cell_length Left (left_boundary s.held.boundaries) (cell_side s 0) left_fits (cell 0 k.some) (sym place_first ∙ at 0 (omega arith))) (all_below_lem side (suc (cells s)) go)
    where
      at : (p : ℕ) → p < suc (cells s + 1) → place p ≡ true
      at p l = all_at place (suc (cells s + 1)) p m l

      cell : (i : ℕ) → i < cells s → side_meets t s.cell_length (cell_side s i) ≡ true
      cell i l = place_of i (λ b. b ≡ true → side_meets t s.cell_length (cell_side s i) ≡ true) (λ j q. q) (λ j q. absurd (omega arith)) (at (suc i) (omega arith))

      last : leb (t * right_speed s) (1_000 * s.cell_length) ≡ true
      last = place_of (cells s) (λ b. b ≡ true → leb (t * right_speed s) (1_000 * s.cell_length) ≡ true) (λ j q. absurd (omega arith)) (λ j q. q) (at (suc (cells s)) (omega arith))

      go : (i : ℕ) → i < suc (cells s) → side i ≡ true
      go i l =
          by_less i (cells s) (λ b. side i ≡ true)
          (λ j. rw (right_side_cell s i j) (cell i j))
          (λ j.
          let n : i ≡ cells s = omega arith in
          rw (n, right_side_end s)
          (boundary_meets t s.cell_length Right (right_boundary s.held.boundaries) (cell_side s (cells s - 1)) right_fits (cell (cells s - 1) (let o = k.some in omega arith)) last))

  pub met_is : sides_meet s t ≡ meets_cfl (place_speed s) (cells s + 1) s.cell_length t
  met_is = same_truth _ _ to_places to_sides

  -- ---- what the sweep found is what ground 12 and the transport test read

  abbrev os : Outlets
  os = s.held.outlets

  few : os.count ≤ outlets_most
  few = outlets_few (cells s) os k.outlets

  inside : (n : ℕ) → n < os.count → (outlet_at os n).cell < cells s
  inside n l = (outlet_sound (cells s) os k.outlets n l).cell

  below : (z : ℤ) (n : ℕ) → le_z z (pos n) ≡ leb (positive z) n
  below (pos m) n = refl
  below (negsuc m) n = sym (le-leb 0 n (omega arith))

  pub depths_are : (depth : List ℕ) → ((i : ℕ) → i < cells s → get_or depth i 0 ≡ positive (new_depth s t i)) → all_below (cells s) (λ i. leb (get_or depth i 0) depth_most) ≡ depths_fit s t
  unfolding depths_fit
  depths_are depth e = all_same _ _ (cells s) (λ i l. rw (e i l) (sym (below (new_depth s t i) depth_most)))

  depth_fits_lem : depths_fit s t ≡ true → (i : ℕ) → i < cells s → positive (new_depth s t i) ≤ depth_most
  unfolding depths_fit
  depth_fits_lem deep i l = leb-true _ _ (sym (below (new_depth s t i) depth_most) ∙ all_at (λ i. le_z (new_depth s t i) (pos depth_most)) (cells s) i deep l)

  -- the column of what is wanted of each cell
  module _ (wanted : List ℕ) (e : wanted ≡ tabulate cells_most (λ i. sum (wants_from os i))) where
    wanted_at : (i : ℕ) → i < cells_most → get_or wanted i 0 ≡ sum (wants_from os i)
    wanted_at i l = rw e (get_or_tabulate cells_most (λ i. sum (wants_from os i)) i 0 l)

    pub wanted_long : length wanted ≡ cells_most
    wanted_long = ap length e ∙ length_tabulate cells_most (λ i. sum (wants_from os i))

    module _ {F : ℕ} (net : List ℤ) (given depth : List ℕ) (discharge : List ℤ) (w : Swept s t F wanted net given depth discharge) where
      of_wants : (i : ℕ) → i < cells s → i < cells_most
      of_wants i l = omega (arith, l, k.few)

      pub grant_of : (i : ℕ) → i < cells s → get_or given i 0 ≡ sum (draws s t i)
      grant_of i l = w.grants i l ∙ ap (λ (n : ℕ). granted s t n i) (wanted_at i (of_wants i l)) ∙ sym (granted_is s t i)

      pub depth_of : (i : ℕ) → i < cells s → get_or depth i 0 ≡ positive (new_depth s t i)
      depth_of i l = w.depths i l ∙ ap (λ (n : ℕ). positive (granted_depth s t n i)) (wanted_at i (of_wants i l)) ∙ ap positive (sym (depth_is s t i))

      -- of a depth that stands ground 12
      pub discharge_of : depths_fit s t ≡ true → (i : ℕ) → i < cells s → get_or discharge i (pos 0) ≡ new_discharge s t F i
      discharge_of deep i l =
          w.discharges i l ∙ ap (λ (n : ℕ). granted_discharge s t F n i) (wanted_at i (of_wants i l)) ∙ sym (discharge_is s t F i (depth_fits_lem deep i l))

      -- what each cell gives is no more than what is wanted of it, past the last cell too
      pub grants : length given ≡ cells_most → ((i : ℕ) → cells s ≤ i → get_or given i 0 ≡ get_or wanted i 0) → Granted os wanted given
      unfolding granted
      grants long rest = record {
        few = few;
        long = long ∙ sym wanted_long;
        within = λ n l. omega (arith, inside n l, k.few, wanted_long);
        small = λ n l. (outlet_sound (cells s) os k.outlets n l).want;
        wants = λ i l. wanted_at i (omega (arith, l, wanted_long));
        most = λ i l. by_less i (cells s) (λ b. get_or given i 0 ≤ get_or wanted i 0) (λ j. rw (w.grants i j) (omega arith)) (λ j. rw (rest i j) (omega arith));
      }

      pub got_of : (got : List ℕ) → got ≡ tabulate 32 (λ n. cond (ltb n os.count) (get_or (dealt (get_or given (outlet_at os n).cell 0) (wants_from os (outlet_at os n).cell)) n 0) 0)
          → (n : ℕ) → n < os.count → get_or got n 0 ≡ draw_of s t n
      unfolding draw_of
      got_of got e n l =
          let i = (outlet_at os n).cell in
          let j = inside n l in
          ap (λ (g : List ℕ). get_or g n 0) e
          ∙ get_or_tabulate 32 (λ n. cond (ltb n os.count) (get_or (dealt (get_or given (outlet_at os n).cell 0) (wants_from os (outlet_at os n).cell)) n 0) 0) n 0 (omega (arith, l, few))
          ∙ ap (λ (b : Bool). cond b (get_or (dealt (get_or given i 0) (wants_from os i)) n 0) 0) (lt-ltb n os.count l)
          ∙ ap (λ (g : ℕ). get_or (dealt g (wants_from os i)) n 0) (w.grants i j ∙ ap (λ (n : ℕ). granted s t n i) (wanted_at i (of_wants i j)))
          ∙ ap (λ (ds : List ℕ). get_or ds n 0) (sym (draws_dealt s t i))

  module _ (cfl : meets_cfl (place_speed s) (cells s + 1) s.cell_length t ≡ true) {F : ℕ} (net : List ℤ) (depth : List ℕ) (discharge : List ℤ) (got : List ℕ) (w : StepFound s t F net depth discharge got) where
    -- the transport test
    pub sums_are : sums_kept (cells s) s.carried net depth ≡ keeps_sums s t
    unfolding sums_kept keeps_sums summed
    sums_are =
        all_same _ _ (cells s) (λ i l.
        rw (w.nets i (omega arith), w.nets (i + 1) (omega arith), w.depths i l, add-one i) (kept_by_depth s k t cfl i l))

    pub net_at_lem : Mesh t s.cell_length → (i : ℕ) → i ≤ cells s → nat_abs (get_or net i (pos 0)) ≤ flux_most
    net_at_lem g i l = rw (w.nets i l) (net_small s (flow_fits s k) t i g l)

    pub summable : Mesh t s.cell_length → Summable (cells s) s.carried net
    summable g = record {
      few = omega (arith, k.few);
      interfaces = k.interfaces;
      long = w.net_long;
      carried = λ i l. let b = carried_small s k i (omega arith) in omega arith;
      crossed = λ i l. let b = net_at_lem g i l in omega arith;
    }

    -- ---- what is written is what the record after the step holds

    pub depth_written : tabulate (length s.depth) (λ i. get_or depth i 0) ≡ (after_step s t F).depth
    unfolding after_step
    depth_written = rw k.depths (tabulate_same (cells s) _ _ w.depths)

    pub discharge_written : tabulate (length s.discharge) (λ i. get_or discharge i (pos 0)) ≡ (after_step s t F).discharge
    unfolding after_step
    discharge_written = rw k.discharges (tabulate_same (cells s) _ _ w.discharges)

    interfaces_kept : length (transported_first s t).carried ≡ suc (cells s)
    unfolding transported_first after_transport
    interfaces_kept = go (keeps_sums s t)
      where
        go : (b : Bool) → length (cond b s (after_transport s)).carried ≡ suc (cells s)
        go true = k.interfaces ∙ add-one (cells s)
        go false = length-replicate (length s.carried) (pos 0) ∙ k.interfaces ∙ add-one (cells s)

    transported_small : (i : ℕ) → i ≤ cells s → nat_abs (carried_at (transported_first s t) i) ≤ carried_most
    unfolding transported_first
    transported_small i l = go (keeps_sums s t)
      where
        go : (b : Bool) → nat_abs (carried_at (cond b s (after_transport s)) i) ≤ carried_most
        go true = carried_small s k i l
        go false = rw (carried_zero s k i (omega (arith, k.interfaces))) (omega arith)

    module _ (c : List ℤ) (e : c ≡ (transported_first s t).carried) where
      pub carried_written : tabulate (length c) (λ i. get_or c i (pos 0) +ℤ get_or net i (pos 0)) ≡ (after_step s t F).carried
      unfolding after_step
      carried_written = rw (e, interfaces_kept) (tabulate_same (suc (cells s)) _ _ (λ i l. ap (λ (n : ℤ). carried_at (transported_first s t) i +ℤ n) (w.nets i (omega arith))))

      pub addable : Mesh t s.cell_length → (i : ℕ) → i < length c → (nat_abs (get_or c i (pos 0)) ≤ 1_000_000_000) × (nat_abs (get_or net i (pos 0)) ≤ 1_000_000_000)
      addable g i l =
          let j : i ≤ cells s = omega (arith, ap length e, interfaces_kept) in
          let a : nat_abs (get_or c i (pos 0)) ≤ carried_most = rw e (transported_small i j) in
          let b = net_at_lem g i j in
          (omega (arith, a), omega (arith, b))

    -- what the outlets can have
    got_most : (n : ℕ) → n < os.count → get_or got n 0 ≤ want_most
    got_most n l = omega (arith, w.gots n l, draw_most s t n l, (outlet_sound (cells s) os k.outlets n l).want)

    drawn_one : (n : ℕ) → n < os.count → (outlet_at os n).drawn ≤ depth_most
    drawn_one n l =
        let i = (outlet_at os n).cell in
        let j = inside n l in
        omega (arith, one_drawn os n l, (k.water i j).covered, outflow_is (carried_at s i) (carried_at s (i + 1)) (drawn_from os i), (k.cell i j).base)

    water_one : (n : ℕ) → n < os.count → (outlet_at os n).water ≤ total_most
    water_one n l = outlet-water-fits (outlet_at os n) (each_totals s.held k.totals n l)

    pub room : Room os got
    room = record { few = few; got_most = got_most; drawn_most = drawn_one; water_most = water_one }

    moved_room : Room (moved_outlets (mass_columns_of s) os) got
    unfolding moved_outlets
    moved_room =
        let f = moved_outlet (mass_columns_of s) os in
        let n = each_count f os in record {
          few = omega (arith, n, few);
          got_most = λ j l. got_most j (omega (arith, l, n));
          drawn_most = λ j l. rw (each_at f os few j (omega (arith, l, n))) (none_drawn_lem s j);
          water_most = λ j l. let q : j < os.count = omega (arith, l, n) in rw (each_at f os few j q) (same_water s j (water_one j q));
        }

    -- ---- the transport inside the step

    module _ (v : Bool) (e : v ≡ not (keeps_sums s t)) where
      pub room_when : Room (cond v (moved_outlets (mass_columns s.mass s.base s.carried (drawn_from os) 0 0) os) os) got
      room_when = go v
        where
          go : (u : Bool) → Room (cond u (moved_outlets (mass_columns s.mass s.base s.carried (drawn_from os) 0 0) os) os) got
          go true = subst (λ (x : Outlets). Room x got) (sym (outlets_are s k ∙ transport_outlets_are s)) moved_room
          go false = room

      outlets_when : cond v (moved_outlets (mass_columns s.mass s.base s.carried (drawn_from os) 0 0) os) os ≡ (transported_first s t).held.outlets
      unfolding transported_first after_transport transport_held
      outlets_when = rw e (go (keeps_sums s t))
        where
          go : (u : Bool) → cond (not u) (moved_outlets (mass_columns s.mass s.base s.carried (drawn_from os) 0 0) os) os ≡ (cond u s (after_transport s)).held.outlets
          go true = refl
          go false = outlets_are s k

      -- a step adds no mass to an outlet but by the transport in it
      step_mass : (n : ℕ) → n < os.count → (outlet_at (step_outlets s t) n).mass ≡ (outlet_at (transported_first s t).held.outlets n).mass
      unfolding step_outlets stepped_outlet
      step_mass n l =
          let rs = (transported_first s t).held.outlets in
          ap (λ (o : Outlet). o.mass) (each_at (stepped_outlet s t) rs (omega (arith, transported_count s t, few)) n (omega (arith, l, transported_count s t)))

      mass_kept : keeps_sums s t ≡ true → (n : ℕ) → (outlet_at (transported_first s t).held.outlets n).mass ≡ (outlet_at os n).mass
      unfolding transported_first
      mass_kept p n = rw p refl

      mass_moved : keeps_sums s t ≡ false → (n : ℕ) → (outlet_at (transported_first s t).held.outlets n).mass ≡ (outlet_at (transport_outlets s) n).mass
      unfolding transported_first after_transport transport_held
      mass_moved p n = rw p refl

      -- each outlet with what it has
      draws_when : with_draws (transported_first s t).held.outlets got ≡ step_outlets s t
      unfolding with_draws outlet_with step_outlets stepped_outlet
      draws_when =
          let rs = (transported_first s t).held.outlets in
          each_same _ _ rs (λ n l. ap (λ (x : ℕ). let o = outlet_at rs n in record { cell = o.cell; want = o.want; drawn = o.drawn + x; water = o.water + x; mass = o.mass }) (w.gots n (omega (arith, l, transported_count s t))))

      with_one : {a b c o : ℕ} → BoundaryMassWhen v (mass_columns_with s.mass s.base s.carried undrawn s.held.boundaries) a b c o → BoundaryMassWhen v (mass_columns_of s) a b c o
      with_one x = record { transported = λ p. crossed_with s k (x.transported p); kept = x.kept }

      pub small_when : (a b c o : ℕ) → BoundaryMassWhen v (mass_columns_with s.mass s.base s.carried undrawn s.held.boundaries) a b c o → Small a b c o
      small_when a b c o y = go v refl
        where
          go : (u : Bool) → v ≡ u → Small a b c o
          go true p = small s k a b c o ((with_one y).transported p)
          go false p =
              let z = y.kept p in
              record { left_in = omega (arith, z.0); left_out = omega (arith, z.1); right_in = omega (arith, z.2); right_out = omega (arith, z.3) }

      module _ (a b c o : ℕ) (y : BoundaryMassWhen v (mass_columns_with s.mass s.base s.carried undrawn s.held.boundaries) a b c o) where
        abbrev x : BoundaryMassWhen v (mass_columns_of s) a b c o
        x = with_one y

        pub ready_when : v ≡ true → Ready (mass_columns s.mass s.base s.carried undrawn a c)
        ready_when p = ready_entering s k (x.transported p).left_in (x.transported p).right_in

        none : (l : Ledger) → ledger_with l 0 0 0 0 ≡ l
        unfolding ledger_with with_mass
        none l =
            let plus : (n : ℕ) → n + 0 ≡ n = λ n. omega arith in
            rw (plus l.left.mass_in, plus l.left.mass_out, plus l.right.mass_in, plus l.right.mass_out) refl

        ledger_when : ledger_with s.held.ledger a b c o ≡ (transported_first s t).held.ledger
        unfolding transported_first after_transport transport_held
        ledger_when = go (keeps_sums s t) refl
          where
            go : (u : Bool) → keeps_sums s t ≡ u → ledger_with s.held.ledger a b c o ≡ (cond u s (after_transport s)).held.ledger
            go true p =
                let z = x.kept (e ∙ ap not p) in
                rw (z.0, z.1, z.2, z.3) (none s.held.ledger)
            go false p = ledger_is s k a b c o (x.transported (e ∙ ap not p))

        -- all that is held after the step
        pub held_after : (first last : ℤ) → first ≡ net_at s t 0 → last ≡ net_at s t (cells s)
            → with_totals (with_boundary_water (ledger_with s.held.ledger a b c o) first last) (with_draws (cond v (moved_outlets (mass_columns s.mass s.base s.carried (drawn_from os) 0 0) os) os) got) s.held ≡ step_held s t
        unfolding step_held step_ledger
        held_after first last p q = rw (p, q, ledger_when, outlets_when, draws_when) refl

        -- the column after the transport, from which the outlets' part is not taken yet
        abbrev undrawn_mass : List ℕ
        undrawn_mass = cond v (moved_mass (mass_columns s.mass s.base s.carried undrawn a c)) s.mass

        -- without outlets it is all
        pub mass_none : os.count ≡ 0 → undrawn_mass ≡ (after_step s t F).mass
        unfolding after_step transported_first after_transport
        mass_none none = rw e (go (keeps_sums s t) refl)
          where
            go : (u : Bool) → keeps_sums s t ≡ u → cond (not u) (moved_mass (mass_columns s.mass s.base s.carried undrawn a c)) s.mass ≡ (cond u s (after_transport s)).mass
            go true p = refl
            go false p = let z = x.transported (e ∙ ap not p) in moved_none s k z.left_in z.right_in none

        -- with outlets their part is taken off it: nothing where the sums are kept
        module _ (column : List ℕ) (is : column ≡ undrawn_mass) where
          by_test : (P : List ℕ → Type 0)
              → (column ≡ s.mass → ((n : ℕ) → n < os.count → (outlet_at (step_outlets s t) n).mass ≡ (outlet_at os n).mass) → P s.mass)
              → ((a c : ℕ) → a ≡ entering_left s → c ≡ entering_right s → column ≡ moved_mass (mass_columns s.mass s.base s.carried undrawn a c)
              → ((n : ℕ) → n < os.count → (outlet_at (step_outlets s t) n).mass ≡ (outlet_at os n).mass + outlet_share (mass_columns_of s) (outlet_at os n).cell n) → P (moved_mass (mass_columns_of s)))
              → P (after_step s t F).mass
          unfolding after_step transported_first after_transport
          by_test P stays moves = go (keeps_sums s t) refl
            where
              go : (u : Bool) → keeps_sums s t ≡ u → P (cond u s (after_transport s)).mass
              go true p = stays (is ∙ rw (e, p) refl) (λ n l. step_mass n l ∙ mass_kept p n)
              go false p =
                  let z = x.transported (e ∙ ap not p) in
                  moves a c z.left_in z.right_in (is ∙ rw (e, p) refl) (λ n l. step_mass n l ∙ mass_moved p n ∙ shares_moved s k n l)

          pub gained_when : Gained column os (step_outlets s t)
          gained_when = by_test (λ (l : List ℕ). Gained column os (step_outlets s t))
              (λ f same. gained_none column os (step_outlets s t) same few (omega (arith, ap length f, k.masses, k.few)) (λ n l. omega (arith, inside n l, ap length f, k.masses)))
              (λ a c p q f shared. gained_entering s k p q (step_outlets s t) shared column f)

          pub taken_when : tabulate (length column) (λ i. get_or column i 0 - gains os (step_outlets s t) i) ≡ (after_step s t F).mass
          taken_when = by_test (λ (l : List ℕ). tabulate (length column) (λ i. get_or column i 0 - gains os (step_outlets s t) i) ≡ l)
              (λ f same. taken_same column os (step_outlets s t) same ∙ f)
              (λ a c p q f shared. taken_entering s k p q (step_outlets s t) shared column f)

      pub base_when : cond v s.depth s.base ≡ (after_step s t F).base
      unfolding after_step transported_first after_transport
      base_when = rw e (go (keeps_sums s t))
        where
          go : (u : Bool) → cond (not u) s.depth s.base ≡ (cond u s (after_transport s)).base
          go true = refl
          go false = refl

      pub carried_when : cond v (replicate (length s.carried) (pos 0)) s.carried ≡ (transported_first s t).carried
      unfolding transported_first after_transport
      carried_when = rw e (go (keeps_sums s t))
        where
          go : (u : Bool) → cond (not u) (replicate (length s.carried) (pos 0)) s.carried ≡ (cond u s (after_transport s)).carried
          go true = refl
          go false = refl

-- ---- what each outcome is

module _ (s : Reach) (t F : ℕ) where
  pub stopped_before : (r : Refusal) → first_refusal (record_grounds s s.held.boundaries) ≡ Err r → step s t F ≡ record { refusal = number r; reach = s }
  unfolding step
  stopped_before r e = ap (λ (k : Verdict). outcome k s (after_step s t F)) (no_further (record_grounds s s.held.boundaries) _ r e)

  module _ (e : first_refusal (record_grounds s s.held.boundaries) ≡ Ok tt) where
    pub stopped_10 : time_fits t ≡ false → step s t F ≡ record { refusal = 10; reach = s }
    unfolding step
    stopped_10 f = ap (λ (k : Verdict). outcome k s (after_step s t F)) (further (record_grounds s s.held.boundaries) _ e ∙ stop_at _ _ f)

    pub stopped_17 : time_fits t ≡ true → strickler_fits F ≡ false → step s t F ≡ record { refusal = 17; reach = s }
    unfolding step
    stopped_17 time f = ap (λ (k : Verdict). outcome k s (after_step s t F)) (further (record_grounds s s.held.boundaries) _ e ∙ go_on _ _ time (stop_at _ _ f))

    module _ (time : time_fits t ≡ true) (rough : strickler_fits F ≡ true) where
      pub stopped_11 : meets_cfl (place_speed s) (cells s + 1) s.cell_length t ≡ false → step s t F ≡ record { refusal = 11; reach = s }
      unfolding step
      stopped_11 f = ap (λ (k : Verdict). outcome k s (after_step s t F)) (further (record_grounds s s.held.boundaries) _ e ∙ go_on _ _ time (go_on _ _ rough (stop_at _ _ f)))

      module _ (cfl : meets_cfl (place_speed s) (cells s + 1) s.cell_length t ≡ true) where
        pub stopped_12 : depths_fit s t ≡ false → step s t F ≡ record { refusal = 12; reach = s }
        unfolding step
        stopped_12 f = ap (λ (k : Verdict). outcome k s (after_step s t F)) (further (record_grounds s s.held.boundaries) _ e ∙ go_on _ _ time (go_on _ _ rough (go_on _ _ cfl (stop_at _ _ f))))

        module _ (deep : depths_fit s t ≡ true) where
          at_last : (b : Bool) → all_totals_fit (step_held s t) ≡ b → first_refusal (step_grounds s t F) ≡ pass_or refusal.Total b
          at_last b f =
              further (record_grounds s s.held.boundaries) _ e ∙ go_on _ _ time (go_on _ _ rough (go_on _ _ cfl (go_on _ _ deep (last_one refusal.Total (all_totals_fit (step_held s t)) ∙ ap (pass_or refusal.Total) f))))

          pub stopped_13 : all_totals_fit (step_held s t) ≡ false → step s t F ≡ record { refusal = 13; reach = s }
          unfolding step
          stopped_13 f = ap (λ (k : Verdict). outcome k s (after_step s t F)) (at_last false f)

          pub stepped_on : all_totals_fit (step_held s t) ≡ true → step s t F ≡ record { refusal = 0; reach = after_step s t F }
          unfolding step
          stepped_on f = ap (λ (k : Verdict). outcome k s (after_step s t F)) (at_last true f)

  -- a refused step leaves everything as it came
  pub stayed : (n : ℕ) → 0 < n → step s t F ≡ record { refusal = n; reach = s }
      → StepCameTo s t F (stopped_by n s.held) s.depth s.discharge s.mass s.base s.carried
  unfolding transports
  stayed n p e =
      let z : eqb n 0 ≡ false = ne_eqb n 0 (λ q. absurd (omega (arith, p, q))) in
      record {
        refusal_is = ap (λ (o : Outcome). o.refusal) (sym e);
        held_is = ap (λ (o : Outcome). o.reach.held) (sym e);
        transported_is = rw (e, z) refl;
        depth_is = ap (λ (o : Outcome). o.reach.depth) (sym e);
        discharge_is = ap (λ (o : Outcome). o.reach.discharge) (sym e);
        mass_is = ap (λ (o : Outcome). o.reach.mass) (sym e);
        base_is = ap (λ (o : Outcome). o.reach.base) (sym e);
        carried_is = ap (λ (o : Outcome). o.reach.carried) (sym e);
      }

  -- the same of an answer by the refusal r, which is m
  pub stays_by : (m r : Refusal) (a : StepAnswer) → r ≡ m → a ≡ stopped_by (number r) s.held → step s t F ≡ record { refusal = number m; reach = s }
      → StepCameTo s t F a s.depth s.discharge s.mass s.base s.carried
  stays_by m r a x e f =
      subst (λ (a : StepAnswer). StepCameTo s t F a s.depth s.discharge s.mass s.base s.carried) (sym (e ∙ ap (λ (r : Refusal). stopped_by (number r) s.held) x)) (stayed (number m) (number_above m) f)

  pub transports_is : step s t F ≡ record { refusal = 0; reach = after_step s t F } → transports s t F ≡ not (keeps_sums s t)
  unfolding transports
  transports_is e = rw e refl

  -- an accepted one leaves the record after the step
  pub came_out : {x : Held} {v : Bool} {h : List ℕ} {q : List ℤ} {m b : List ℕ} {c : List ℤ} → step s t F ≡ record { refusal = 0; reach = after_step s t F }
      → x ≡ step_held s t → v ≡ not (keeps_sums s t)
      → h ≡ (after_step s t F).depth → q ≡ (after_step s t F).discharge → m ≡ (after_step s t F).mass → b ≡ (after_step s t F).base → c ≡ (after_step s t F).carried
      → StepCameTo s t F (record { refusal = 0; held = x; transported = v }) h q m b c
  unfolding after_step
  came_out e x v h q m b c = record {
    refusal_is = ap (λ (o : Outcome). o.refusal) (sym e);
    held_is = x ∙ ap (λ (o : Outcome). o.reach.held) (sym e);
    transported_is = v ∙ sym (transports_is e);
    depth_is = h ∙ ap (λ (o : Outcome). o.reach.depth) (sym e);
    discharge_is = q ∙ ap (λ (o : Outcome). o.reach.discharge) (sym e);
    mass_is = m ∙ ap (λ (o : Outcome). o.reach.mass) (sym e);
    base_is = b ∙ ap (λ (o : Outcome). o.reach.base) (sym e);
    carried_is = c ∙ ap (λ (o : Outcome). o.reach.carried) (sym e);
  }

-- ---- what a step left in the columns, with what it handed back, is the record of the definition

-- it leaves the bed and X
kept : (s : Reach) (t F : ℕ) →
    let r = (step s t F).reach in
    reach_of s.bed r.depth r.discharge r.mass r.base r.carried s.cell_length r.held ≡ r
unfolding after_step
kept s t F =
    by_step s t F
    (λ o. let r = o.reach in
    reach_of s.bed r.depth r.discharge r.mass r.base r.carried s.cell_length r.held ≡ r)
    (λ n p. refl)
    (λ k c d l. refl)

pub left_by_step : (s : Reach) (t F : ℕ) {r : StepAnswer} {h : List ℕ} {q : List ℤ} {m b : List ℕ} {c : List ℤ} → StepCameTo s t F r h q m b c
    → reach_of s.bed h q m b c s.cell_length r.held ≡ (step s t F).reach
left_by_step s t F k = rw (k.depth_is, k.discharge_is, k.mass_is, k.base_is, k.carried_is, k.held_is) (kept s t F)
