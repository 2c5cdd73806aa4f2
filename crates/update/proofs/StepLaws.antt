-- Laws of the step: in an accepted step no depth goes below zero, and it leaves a record that stands grounds 4 to 9 again. Assumes nothing.
use mathlib.Core.Path.{◌≡◌, refl, sym, ap, ap₂, ◌∙◌, subst}
use mathlib.Core.Bool.{Bool, true, false, cond}
use mathlib.Core.Logic.{⊎_elim}
use mathlib.Core.List.{List}
use Prim.Native.Nat.{ℕ, suc, ◌+◌, ◌-◌, ◌*◌, ◌≤◌, ◌<◌}
use native.Mathlib.Nat.{zero-add}
use native.Mathlib.Numerals.{add-one}
use native.Mathlib.Omega.{arith}
use borrow.Author.Tests.{leb-true, leb-false, le-leb, lt-leb, lt-ltb}
use lib.Dec.{leb, eqb}
use lib.IntN.{ℤ, pos, ◌+ℤ◌, neg_ℤ, sub_ℕ, nat_abs, +ℤ_idl}
use lib.Signed.{le_z}
use lib.ListN.{length, get_or}
use Rattle.numbers.specs.Index.{tabulate, sum, sum_below}
use Rattle.numbers.specs.Signed.{positive}
use Rattle.numbers.proofs.IndexLaws.{all_of_lem, all_at, all_below_lem, on, only, length_tabulate, get_or_tabulate, telescope, sum_tabulate, sum_by_index, sum_same, sum_add}
use Rattle.numbers.proofs.SignedLaws.{R, L, right_sub, left_sub, add_cross, one_part, abs_parts}
use Rattle.outlet.specs.Outlets.{outlets_most, outlet_at, from_cell, each_outlet}
use Rattle.outlet.specs.declared.Outlet.{Outlet}
use Rattle.outlet.specs.declared.Outlets.{Outlets}
use Rattle.outlet.proofs.OutletLaws.{each_at, each_count}
use Rattle.drawing.proofs.DrawingLaws.{all_cells}
use Rattle.flux.specs.Limits.{depth_most}
use Rattle.flux.specs.Wave.{wave_speed}
use Rattle.flux.specs.Velocity.{velocity}
use Rattle.cfl.specs.Cfl.{signal_speed, speed_at, meets_cfl}
use Rattle.reach.specs.Limits.{total_most}
use Rattle.reach.specs.Reach.{Reach, cells, bed_at, depth_at, discharge_at, mass_at, base_at, carried_at, left_boundary, right_boundary, with_totals}
use Rattle.reach.specs.Grounds.{first_refusal, record_grounds, boundaries_fit, totals_fit, ledger_fits, outlets_fit, outlet_totals_fit, all_totals_fit}
use Rattle.reach.specs.Outcome.{Outcome, outcome}
use Rattle.reach.specs.Balance.{water_held, total_water_in, total_water_out, outlet_water, water_gone, WaterBalanced, mass_held, total_mass_in, total_mass_out, outlet_mass, mass_gone, MassBalanced, everywhere, CellsWithin, BoundariesWithin}
use Rattle.reach.specs.declared.held.Held.{Held}
use Rattle.reach.specs.declared.ledger.Totals.{Totals}
use Rattle.reach.specs.declared.boundary.Boundary.{Boundary}
use Rattle.reach.specs.Grounds.{Verdict}
use Rattle.reach.specs.Refusals.{number}
use Rattle.reach.specs.Parts.{outflow, drawn_from}
use Rattle.reach.proofs.PartsLaws.{outflow_is}
use Rattle.reach.proofs.OutletLaws.{each_fits, each_from, each_sum}
use Rattle.reach.proofs.GroundsLaws.{stood, number_above, passed_first}
use Rattle.reach.proofs.Sound.{Sound, sound, stands, CellSound, CarriedSound, TotalsSound, totals_sound, ledger_left, ledger_right, ledger_fits_lem, outlets_few, outlet_sound}
use Rattle.transport.specs.Calls.{mass_columns_of, after_transport, transport_ledger, transport_outlets, transport_held, ledger_with, with_mass}
use Rattle.mass.specs.Transport.{moved_outlet, moved_outlets}
use Rattle.transport.proofs.CallsLaws.{holding_held, transport_sound, transport_balanced, transport_within, carried_zero, base_at_lem}
use Rattle.water.specs.Water.{net_at, available, draws, draw_of, new_depth, new_discharge}
use Rattle.water.proofs.WaterLaws.{rightward, leftward, net_is, available_is, drawn_covered, draws_sum, new_depth_is, wall_left, wall_right, nearest_within}
use Rattle.timestep.specs.GreatestStep.{place_speed}
use Rattle.update.specs.Step.{summed, summed_drawn, keeps_sums, transported_first, with_water, with_boundary_water, step_ledger, stepped_outlet, step_outlets, step_held, after_step, depths_fit, step_grounds, step}
use Rattle.std.specs.Prelude.{Ok, Err}

-- ---- carried water that N is added to, over plain values

moved_balance : (h b A B C D G h' : ℕ) (c d N M : ℤ) (ds es : List ℕ) → N ≡ sub_ℕ A B → M ≡ sub_ℕ C D → B + C + G ≤ h → h' ≡ h + A + D - (B + C + G) → sum es ≡ sum ds + G
    → h + outflow c d ds ≡ b + R c + L d → h' + outflow (c +ℤ N) (d +ℤ M) es ≡ b + R (c +ℤ N) + L (d +ℤ M)
moved_balance h b A B C D G h' c d N M ds es eN eM out eh drawn old =
    let rN = ap R eN ∙ right_sub A B in
    let lN = ap L eN ∙ left_sub A B in
    let rM = ap R eM ∙ right_sub C D in
    let lM = ap L eM ∙ left_sub C D in
    let p = add_cross c N in
    let q = add_cross d M in
    let u = outflow_is c d ds in
    let v = outflow_is (c +ℤ N) (d +ℤ M) es in
    omega arith

carried_moved : (h b A B C D G h' : ℕ) (c d N M : ℤ) (ds es : List ℕ) → N ≡ sub_ℕ A B → M ≡ sub_ℕ C D → B + C + G ≤ h → h' ≡ h + A + D - (B + C + G) → sum es ≡ sum ds + G
    → h + outflow c d ds ≡ b + R c + L d → outflow (c +ℤ N) (d +ℤ M) es ≤ b → b ≤ depth_most → h' ≤ depth_most
    → CarriedSound h' b (c +ℤ N) (d +ℤ M) es
carried_moved h b A B C D G h' c d N M ds es eN eM out eh drawn old cov deep deep' =
    let v = outflow_is (c +ℤ N) (d +ℤ M) es in
    let balanced = moved_balance h b A B C D G h' c d N M ds es eN eM out eh drawn old in
    record {
      left = ⊎_elim (λ z. omega (arith, abs_parts (c +ℤ N))) (λ z. omega (arith, abs_parts (c +ℤ N))) (one_part (c +ℤ N));
      right = ⊎_elim (λ z. omega (arith, abs_parts (d +ℤ M))) (λ z. omega (arith, abs_parts (d +ℤ M))) (one_part (d +ℤ M));
      balance = balanced;
      covered = cov;
    }

-- of two sides of a balance, one is covered where the other is
same_test : (h o b x y : ℕ) → h + o ≡ b + x + y → leb (x + y) h ≡ leb o b
same_test h o b x y e = go (leb o b) refl
  where
    go : (t : Bool) → leb o b ≡ t → leb (x + y) h ≡ leb o b
    go true q = le-leb (x + y) h (omega (arith, leb-true o b q)) ∙ sym q
    go false q = lt-leb (x + y) h (omega (arith, leb-false o b q)) ∙ sym q

-- ---- ledgers

totals_fit_lem : (t : Totals) → TotalsSound t → totals_fit t ≡ true
unfolding totals_fit
totals_fit_lem t k =
    on _ _ (le-leb _ _ k.total_water_in) (on _ _ (le-leb _ _ k.total_water_out) (on _ _ (le-leb _ _ k.total_mass_in) (only _ ∙ le-leb _ _ k.total_mass_out)))

outlet_totals : (o : Outlet) → o.water ≤ total_most → o.mass ≤ total_most → outlet_totals_fit o ≡ true
unfolding outlet_totals_fit
outlet_totals o w m = on _ _ (le-leb _ _ w) (only _ ∙ le-leb _ _ m)

pub water_fits : (o : Outlet) → outlet_totals_fit o ≡ true → o.water ≤ total_most
unfolding outlet_totals_fit
water_fits o e = leb-true _ _ (all_of_lem _ e 0)

mass_fits : (o : Outlet) → outlet_totals_fit o ≡ true → o.mass ≤ total_most
unfolding outlet_totals_fit
mass_fits o e = leb-true _ _ (all_of_lem _ e 1)

-- the totals of each outlet of what is held
pub each_totals : (h : Held) → all_totals_fit h ≡ true → (k : ℕ) → k < h.outlets.count → outlet_totals_fit (outlet_at h.outlets k) ≡ true
unfolding all_totals_fit
each_totals h e k l = all_at (λ n. outlet_totals_fit (outlet_at h.outlets n)) h.outlets.count k (all_of_lem _ e 1) l

-- where the ledger of the whole step fits, so does that of a transport inside it
ledger_before : (s : Reach) (first last : ℤ) → ledger_fits s.held.ledger ≡ true → ledger_fits (with_boundary_water (transport_ledger s) first last) ≡ true
    → ledger_fits (transport_ledger s) ≡ true
unfolding ledger_fits with_boundary_water with_water transport_ledger ledger_with with_mass
ledger_before s first last old new =
    let l = totals_sound _ (ledger_left _ new) in
    let r = totals_sound _ (ledger_right _ new) in
    let l₀ = totals_sound _ (ledger_left s.held.ledger old) in
    let r₀ = totals_sound _ (ledger_right s.held.ledger old) in
    on _ _ (totals_fit_lem _ (record { total_water_in = l₀.total_water_in; total_water_out = l₀.total_water_out; total_mass_in = l.total_mass_in; total_mass_out = l.total_mass_out }))
    (only _ ∙ totals_fit_lem _ (record { total_water_in = r₀.total_water_in; total_water_out = r₀.total_water_out; total_mass_in = r.total_mass_in; total_mass_out = r.total_mass_out }))

-- the record that N is added to has the bed, the depths and the boundaries of s
module _ (s : Reach) (t : ℕ) where
  transported_bed : (transported_first s t).bed ≡ s.bed
  unfolding transported_first after_transport
  transported_bed = go (keeps_sums s t)
    where
      go : (b : Bool) → (cond b s (after_transport s)).bed ≡ s.bed
      go true = refl
      go false = refl

  transported_depth : (transported_first s t).depth ≡ s.depth
  unfolding transported_first after_transport
  transported_depth = go (keeps_sums s t)
    where
      go : (b : Bool) → (cond b s (after_transport s)).depth ≡ s.depth
      go true = refl
      go false = refl

  transported_boundaries : (transported_first s t).held.boundaries ≡ s.held.boundaries
  unfolding transported_first after_transport transport_held
  transported_boundaries = go (keeps_sums s t)
    where
      go : (b : Bool) → (cond b s (after_transport s)).held.boundaries ≡ s.held.boundaries
      go true = refl
      go false = refl

  -- and the outlets of s, each in its cell with its want and its water
  pub transported_count : (transported_first s t).held.outlets.count ≡ s.held.outlets.count
  unfolding transported_first after_transport transport_held transport_outlets moved_outlets
  transported_count = go (keeps_sums s t)
    where
      go : (b : Bool) → (cond b s (after_transport s)).held.outlets.count ≡ s.held.outlets.count
      go true = refl
      go false = each_count (moved_outlet (mass_columns_of s) s.held.outlets) s.held.outlets

  module _ (few : s.held.outlets.count ≤ outlets_most) (k : ℕ) (l : k < s.held.outlets.count) where
    moved_is : outlet_at (after_transport s).held.outlets k ≡ moved_outlet (mass_columns_of s) s.held.outlets k
    unfolding after_transport transport_held transport_outlets moved_outlets
    moved_is = each_at (moved_outlet (mass_columns_of s) s.held.outlets) s.held.outlets few k l

    pub transported_cell : (outlet_at (transported_first s t).held.outlets k).cell ≡ (outlet_at s.held.outlets k).cell
    unfolding transported_first moved_outlet
    transported_cell = go (keeps_sums s t)
      where
        go : (b : Bool) → (outlet_at (cond b s (after_transport s)).held.outlets k).cell ≡ (outlet_at s.held.outlets k).cell
        go true = refl
        go false = ap (λ (o : Outlet). o.cell) moved_is

    pub transported_water : (outlet_at (transported_first s t).held.outlets k).water ≡ (outlet_at s.held.outlets k).water
    unfolding transported_first moved_outlet
    transported_water = go (keeps_sums s t)
      where
        go : (b : Bool) → (outlet_at (cond b s (after_transport s)).held.outlets k).water ≡ (outlet_at s.held.outlets k).water
        go true = refl
        go false = ap (λ (o : Outlet). o.water) moved_is

  pub step_count : (step_held s t).outlets.count ≡ s.held.outlets.count
  unfolding step_held step_outlets
  step_count = each_count (stepped_outlet s t) (transported_first s t).held.outlets ∙ transported_count

-- N by its parts, and the ledger's water
net_parts : (s : Reach) (t i : ℕ) → positive (net_at s t i) + leftward s t i ≡ rightward s t i + positive (neg_ℤ (net_at s t i))
net_parts s t i =
    let a = ap R (net_is s t i) ∙ right_sub (rightward s t i) (leftward s t i) in
    let b = ap L (net_is s t i) ∙ left_sub (rightward s t i) (leftward s t i) in
    omega arith

ledger_water : (s : Reach) (t F : ℕ) →
    let k = (after_step s t F).held.ledger in
    (k.left.water_in ≡ s.held.ledger.left.water_in + positive (net_at s t 0))
    × (k.left.water_out ≡ s.held.ledger.left.water_out + positive (neg_ℤ (net_at s t 0)))
    × (k.right.water_in ≡ s.held.ledger.right.water_in + positive (neg_ℤ (net_at s t (cells s))))
    × (k.right.water_out ≡ s.held.ledger.right.water_out + positive (net_at s t (cells s)))
unfolding after_step step_held step_ledger with_boundary_water with_water transported_first after_transport transport_held transport_ledger ledger_with with_mass
ledger_water s t F = go (keeps_sums s t)
  where
    go : (b : Bool) →
        let k = (cond b s (after_transport s)).held.ledger in
        (k.left.water_in + positive (net_at s t 0) ≡ s.held.ledger.left.water_in + positive (net_at s t 0))
        × (k.left.water_out + positive (neg_ℤ (net_at s t 0)) ≡ s.held.ledger.left.water_out + positive (neg_ℤ (net_at s t 0)))
        × (k.right.water_in + positive (neg_ℤ (net_at s t (cells s))) ≡ s.held.ledger.right.water_in + positive (neg_ℤ (net_at s t (cells s))))
        × (k.right.water_out + positive (net_at s t (cells s)) ≡ s.held.ledger.right.water_out + positive (net_at s t (cells s)))
    go true = (refl, refl, refl, refl)
    go false = (refl, refl, refl, refl)

-- bounds are those of the record that N is added to: the step moves water alone
of_transported : (s : Reach) (t F : ℕ) (lo hi : ℕ → ℤ) → CellsWithin lo hi (transported_first s t) → CellsWithin lo hi (after_step s t F)
unfolding after_step
of_transported s t F lo hi w =
    let e = ap length (transported_bed s t) in
    record { above = λ i l. w.above i (omega arith); below = λ i l. w.below i (omega arith) }

module _ (s : Reach) (k : Sound s) (t : ℕ) (cfl : meets_cfl (place_speed s) (cells s + 1) s.cell_length t ≡ true) where
  -- CFL at each cell
  place_cell : (i : ℕ) → i < length s.depth → place_speed s (suc i) ≡ nat_abs (velocity (depth_at s i) (discharge_at s i)) + wave_speed (depth_at s i)
  unfolding place_speed speed_at signal_speed
  place_cell i l = rw (lt-ltb i (length s.depth) l) refl

  cfl_at : (i : ℕ) → i < cells s → t * (nat_abs (velocity (depth_at s i) (discharge_at s i)) + wave_speed (depth_at s i)) ≤ 1_000 * s.cell_length
  unfolding meets_cfl
  cfl_at i l =
      let p : suc i < suc (cells s + 1) = omega arith in
      let e : t * place_speed s (suc i) ≤ 1_000 * s.cell_length =
      leb-true _ _ (all_at (λ n. leb (t * place_speed s n) (1_000 * s.cell_length)) (suc (cells s + 1)) (suc i) cfl p) in
      rw (place_cell i (omega (arith, k.depths))) at e

  some_length : 0 < s.cell_length
  some_length = let x = k.length_least in omega arith

  -- no depth goes below zero
  pub depth_not_negative : (i : ℕ) → i < cells s → new_depth s t i ≡ pos (positive (new_depth s t i))
  depth_not_negative i l = let e = new_depth_is s t i l some_length (cfl_at i l) in e ∙ ap pos (sym (ap positive e))

  -- nor what a cell can give
  pub available_not_negative : (i : ℕ) → i < cells s → available s t i ≡ pos (positive (available s t i))
  available_not_negative i l = let e = available_is s t i l some_length (cfl_at i l) in e ∙ ap pos (sym (ap positive e))

  -- and with what its outlets draw
  drawn_at : (i : ℕ) → i < cells s → leftward s t i + rightward s t (suc i) + sum (draws s t i) ≤ depth_at s i
  drawn_at i l = drawn_covered s t i l some_length (cfl_at i l)

  depth_at_lem : (i : ℕ) → i < cells s
      → positive (new_depth s t i) ≡ depth_at s i + rightward s t i + leftward s t (suc i) - (leftward s t i + rightward s t (suc i) + sum (draws s t i))
  depth_at_lem i l = ap positive (new_depth_is s t i l some_length (cfl_at i l))

  -- ---- what the outlets have drawn

  abbrev os : Outlets
  os = s.held.outlets

  -- what each outlet of the record r has drawn of cell i with what it has in the step
  abbrev drawn_by : Reach → ℕ → List ℕ
  drawn_by r i = tabulate r.held.outlets.count (λ n. cond (eqb (outlet_at r.held.outlets n).cell i) ((outlet_at r.held.outlets n).drawn + draw_of s t n) 0)

  few : os.count ≤ outlets_most
  few = outlets_few (cells s) os k.outlets

  -- the outlets that draws are added to
  abbrev rs : Outlets
  rs = (transported_first s t).held.outlets

  few_there : rs.count ≤ outlets_most
  few_there = omega (arith, transported_count s t, few)

  both : (b : Bool) (x y : ℕ) → cond b (x + y) 0 ≡ cond b x 0 + cond b y 0
  both true x y = refl
  both false x y = omega arith

  -- of each cell, what was drawn before and what is drawn now
  added_drawn : (i : ℕ) → sum (drawn_from (step_outlets s t) i) ≡ sum (drawn_from rs i) + sum (draws s t i)
  unfolding step_outlets stepped_outlet from_cell
  added_drawn i =
      let here : ℕ → Bool = λ (n : ℕ). eqb (outlet_at rs n).cell i in
      ap sum (each_from (stepped_outlet s t) rs few_there (λ o. o.drawn) i)
      ∙ sum_tabulate rs.count (λ n. cond (here n) ((outlet_at rs n).drawn + draw_of s t n) 0)
      ∙ sum_same rs.count _ _ (λ n l. both (here n) (outlet_at rs n).drawn (draw_of s t n))
      ∙ sum_add rs.count (λ n. cond (here n) (outlet_at rs n).drawn 0) (λ n. cond (here n) (draw_of s t n) 0)
      ∙ ap₂ (λ (x y : ℕ). x + y) (sym (sum_tabulate rs.count (λ n. cond (here n) (outlet_at rs n).drawn 0)))
      (ap (λ (m : ℕ). sum_below m (λ n. cond (here n) (draw_of s t n) 0)) (transported_count s t)
      ∙ sum_same os.count _ _ (λ n l. ap (λ (c : ℕ). cond (eqb c i) (draw_of s t n) 0) (transported_cell s t few n l))
      ∙ sym (draws_sum s t i))

  -- the sums that the transport test reads
  pub summed_drawn_lem : (i : ℕ) → sum (summed_drawn s t i) ≡ sum (drawn_from os i) + sum (draws s t i)
  unfolding summed_drawn from_cell
  summed_drawn_lem i =
      let here : ℕ → Bool = λ (n : ℕ). eqb (outlet_at os n).cell i in
      sum_tabulate os.count (λ n. cond (here n) ((outlet_at os n).drawn + draw_of s t n) 0)
      ∙ sum_same os.count _ _ (λ n l. both (here n) (outlet_at os n).drawn (draw_of s t n))
      ∙ sum_add os.count (λ n. cond (here n) (outlet_at os n).drawn 0) (λ n. cond (here n) (draw_of s t n) 0)
      ∙ ap₂ (λ (x y : ℕ). x + y) (sym (sum_tabulate os.count (λ n. cond (here n) (outlet_at os n).drawn 0))) (sym (draws_sum s t i))

  -- what left a cell is covered by its base depth where what came in is by its new depth: the transport test in other words
  pub kept_by_depth : (i : ℕ) → i < cells s
      → leb (R (summed s t i) + L (summed s t (suc i))) (positive (new_depth s t i)) ≡ leb (outflow (summed s t i) (summed s t (suc i)) (summed_drawn s t i)) (base_at s i)
  unfolding summed
  kept_by_depth i l =
      same_test (positive (new_depth s t i)) _ (base_at s i) _ _
      (moved_balance (depth_at s i) (base_at s i) (rightward s t i) (leftward s t i) (rightward s t (suc i)) (leftward s t (suc i)) (sum (draws s t i)) (positive (new_depth s t i))
      (carried_at s i) (carried_at s (suc i)) (net_at s t i) (net_at s t (suc i)) (drawn_from os i) (summed_drawn s t i)
      (net_is s t i) (net_is s t (suc i)) (drawn_at i l) (depth_at_lem i l) (summed_drawn_lem i) (rw (add-one i) at (k.water i l).balance))

  moved_count : (after_transport s).held.outlets.count ≡ os.count
  unfolding after_transport transport_held transport_outlets moved_outlets
  moved_count = each_count (moved_outlet (mass_columns_of s) os) os

  none_before : (i n : ℕ) → cond (eqb (moved_outlet (mass_columns_of s) os n).cell i) ((moved_outlet (mass_columns_of s) os n).drawn + draw_of s t n) 0 ≡ cond (eqb (outlet_at os n).cell i) (draw_of s t n) 0
  unfolding moved_outlet
  none_before i n = ap (λ (x : ℕ). cond (eqb (outlet_at os n).cell i) x 0) (zero-add (draw_of s t n))

  -- after a transport, only what is drawn now
  just_drawn : (i : ℕ) → sum (drawn_by (after_transport s) i) ≡ sum (draws s t i)
  just_drawn i =
      let ms = (after_transport s).held.outlets in
      sum_tabulate ms.count (λ n. cond (eqb (outlet_at ms n).cell i) ((outlet_at ms n).drawn + draw_of s t n) 0)
      ∙ ap (λ (m : ℕ). sum_below m (λ n. cond (eqb (outlet_at ms n).cell i) ((outlet_at ms n).drawn + draw_of s t n) 0)) moved_count
      ∙ sum_same os.count _ _ (λ n l. rw (moved_is s t few n l) (none_before i n))
      ∙ sym (draws_sum s t i)

  -- N by itself is covered by the depth, and so is what is drawn with it
  net_covered : (i : ℕ) (ds : List ℕ) → i < cells s → sum ds ≡ sum (draws s t i) → outflow (net_at s t i) (net_at s t (suc i)) ds ≤ depth_at s i
  net_covered i ds l e =
      let a = ap R (net_is s t (suc i)) ∙ right_sub (rightward s t (suc i)) (leftward s t (suc i)) in
      let b = ap L (net_is s t i) ∙ left_sub (rightward s t i) (leftward s t i) in
      omega (arith, drawn_at i l, e, outflow_is (net_at s t i) (net_at s t (suc i)) ds)

  module _ (deep : depths_fit s t ≡ true) where
    deep_at : (i : ℕ) → i < cells s → positive (new_depth s t i) ≤ depth_most
    unfolding depths_fit
    deep_at i l =
        leb-true _ _ (ap (λ (z : ℤ). le_z z (pos depth_most)) (sym (depth_not_negative i l)) ∙ all_at (λ n. le_z (new_depth s t n) (pos depth_most)) (cells s) i deep l)

    module _ (fits : all_totals_fit (step_held s t) ≡ true) where
      -- what is held after the step, of the record r that its amounts are added to
      abbrev outlet_by : Reach → ℕ → Outlet
      outlet_by r n =
          let o = outlet_at r.held.outlets n in
          record { cell = o.cell; want = o.want; drawn = o.drawn + draw_of s t n; water = o.water + draw_of s t n; mass = o.mass }

      abbrev held_by_reach : Reach → Held
      held_by_reach r = with_totals (with_boundary_water r.held.ledger (net_at s t 0) (net_at s t (cells s))) (each_outlet (outlet_by r) r.held.outlets) s.held

      water_of_moved : (j : ℕ) → (outlet_at os j).water ≤ total_most → (moved_outlet (mass_columns_of s) os j).water ≤ total_most
      unfolding moved_outlet
      water_of_moved j w = w

      -- where the totals of the whole step fit, so do those of a transport inside it
      transport_fits : all_totals_fit (held_by_reach (after_transport s)) ≡ true → all_totals_fit (transport_held s) ≡ true
      unfolding all_totals_fit after_transport transport_held transport_outlets moved_outlets
      transport_fits f =
          let f' = moved_outlet (mass_columns_of s) os in
          let ms = each_outlet f' os in
          let g = outlet_by (after_transport s) in
          let n = each_count f' os in
          let long : ms.count ≤ outlets_most = omega (arith, n, few) in
          on _ _ (ledger_before s (net_at s t 0) (net_at s t (cells s)) (ledger_fits_lem s.held k.totals) (all_of_lem _ f 0))
          (only _ ∙ rw n
          (all_below_lem (λ j. outlet_totals_fit (outlet_at ms j)) os.count (λ j l.
          let at = each_at f' os few j l in
          let l' : j < ms.count = omega (arith, l, n) in
          let after = rw (each_at g ms long j l') at (each_totals (held_by_reach (after_transport s)) f j (rw (each_count g ms) l')) in
          outlet_totals (outlet_at ms j) (rw at (water_of_moved j (water_fits _ (each_totals s.held k.totals j l)))) (mass_fits _ after))))

      held_by : all_totals_fit (held_by_reach (transported_first s t)) ≡ true
      unfolding step_held step_ledger step_outlets stepped_outlet
      held_by = fits

      -- the record that N is added to is sound
      pub transported_sound : Sound (transported_first s t)
      unfolding transported_first
      transported_sound = go (keeps_sums s t) held_by
        where
          go : (b : Bool) → all_totals_fit (held_by_reach (cond b s (after_transport s))) ≡ true → Sound (cond b s (after_transport s))
          go true f = k
          go false f = subst Sound (holding_held s) (transport_sound s k s.held.boundaries k.boundaries (transport_fits f))

      -- what N makes of its carried water, and what is drawn, is covered by its base depth
      covered_by : (i : ℕ) → i < cells s
          → outflow (carried_at (transported_first s t) i +ℤ net_at s t i) (carried_at (transported_first s t) (suc i) +ℤ net_at s t (suc i)) (drawn_by (transported_first s t) i) ≤ base_at (transported_first s t) i
      unfolding transported_first keeps_sums summed summed_drawn
      covered_by i l = go (keeps_sums s t) refl
        where
          test : ℕ → Bool
          test n = leb (outflow (carried_at s n +ℤ net_at s t n) (carried_at s (suc n) +ℤ net_at s t (suc n)) (drawn_by s n)) (base_at s n)

          go : (b : Bool) → keeps_sums s t ≡ b
              → outflow (carried_at (cond b s (after_transport s)) i +ℤ net_at s t i) (carried_at (cond b s (after_transport s)) (suc i) +ℤ net_at s t (suc i)) (drawn_by (cond b s (after_transport s)) i)
              ≤ base_at (cond b s (after_transport s)) i
          go true e = leb-true _ _ (all_at test (cells s) i e l)
          go false e =
              let z = carried_zero s k in
              rw (z (suc i) (omega (arith, k.interfaces)), z i (omega (arith, k.interfaces)), +ℤ_idl, +ℤ_idl, base_at_lem s k i)
              (net_covered i (drawn_by (after_transport s) i) l (just_drawn i))

      summed_covered : (i : ℕ) → i < cells s
          → outflow (carried_at (transported_first s t) i +ℤ net_at s t i) (carried_at (transported_first s t) (suc i) +ℤ net_at s t (suc i)) (drawn_from (step_outlets s t) i) ≤ base_at (transported_first s t) i
      unfolding step_outlets stepped_outlet
      summed_covered i l = rw (each_from (stepped_outlet s t) rs few_there (λ o. o.drawn) i) (covered_by i l)

      -- ---- an accepted step leaves a sound record

      transported_cells : cells (transported_first s t) ≡ cells s
      transported_cells = ap length (transported_bed s t)

      depth_of : (F i : ℕ) → i < cells s → depth_at (after_step s t F) i ≡ positive (new_depth s t i)
      unfolding after_step
      depth_of F i l = get_or_tabulate (cells s) (λ n. positive (new_depth s t n)) i 0 l

      discharge_of : (F i : ℕ) → i < cells s → discharge_at (after_step s t F) i ≡ new_discharge s t F i
      unfolding after_step
      discharge_of F i l = get_or_tabulate (cells s) (new_discharge s t F) i (pos 0) l

      carried_of : (F i : ℕ) → i ≤ cells s → carried_at (after_step s t F) i ≡ carried_at (transported_first s t) i +ℤ net_at s t i
      unfolding after_step
      carried_of F i l = get_or_tabulate (suc (cells s)) (λ n. carried_at (transported_first s t) n +ℤ net_at s t n) i (pos 0) (omega arith)

      discharge_within : (F i : ℕ) → nat_abs (new_discharge s t F i) ≤ 8_000 * positive (new_depth s t i)
      unfolding new_discharge
      discharge_within F i = nearest_within _ _

      cell_after : (F i : ℕ) → i < cells s
          → CellSound (bed_at s i) (positive (new_depth s t i)) (new_discharge s t F i) (mass_at (transported_first s t) i) (base_at (transported_first s t) i)
      cell_after F i l =
          let c = transported_sound.cell i (omega (arith, transported_cells)) in record {
            bed = (k.cell i l).bed;
            depth = deep_at i l;
            discharge = discharge_within F i;
            base = c.base;
            mass = c.mass;
          }

      water_of_lem : (i : ℕ) → i < cells s
          → CarriedSound (positive (new_depth s t i)) (base_at (transported_first s t) i) (carried_at (transported_first s t) i +ℤ net_at s t i)
          (carried_at (transported_first s t) (suc i) +ℤ net_at s t (suc i)) (drawn_from (step_outlets s t) i)
      water_of_lem i l =
          let r = transported_first s t in
          let c = transported_sound.water i (omega (arith, transported_cells)) in
          let d : depth_at r i ≡ depth_at s i = ap (λ (h : List ℕ). get_or h i 0) (transported_depth s t) in
          let n : carried_at r (i + 1) ≡ carried_at r (suc i) = ap (carried_at r) (add-one i) in
          carried_moved (depth_at s i) (base_at r i) (rightward s t i) (leftward s t i) (rightward s t (suc i)) (leftward s t (suc i)) (sum (draws s t i)) (positive (new_depth s t i))
          (carried_at r i) (carried_at r (suc i)) (net_at s t i) (net_at s t (suc i)) (drawn_from rs i) (drawn_from (step_outlets s t) i)
          (net_is s t i) (net_is s t (suc i)) (drawn_at i l) (depth_at_lem i l) (added_drawn i)
          (rw (d, n) at c.balance) (summed_covered i l) (transported_sound.cell i (omega (arith, transported_cells))).base (deep_at i l)

      shut : (c n : ℤ) → c ≡ pos 0 → n ≡ pos 0 → c +ℤ n ≡ pos 0
      shut c n p q = rw (p, q) refl

      totals_after : all_totals_fit (with_totals (step_ledger s t) (step_outlets s t) s.held) ≡ true
      unfolding step_held
      totals_after = fits

      outlets_fit_lem : outlets_fit (cells s) (step_outlets s t) ≡ true
      unfolding step_outlets stepped_outlet
      outlets_fit_lem = each_fits (stepped_outlet s t) rs few_there (cells s) (λ n l. (refl, refl)) (rw transported_cells at transported_sound.outlets)

      pub stepped_sound : (F : ℕ) → Sound (after_step s t F)
      unfolding after_step step_held
      stepped_sound F =
          let r = transported_sound in
          let e = transported_boundaries s t in record {
            some = k.some;
            few = k.few;
            depths = length_tabulate (cells s) (λ i. positive (new_depth s t i));
            discharges = length_tabulate (cells s) (new_discharge s t F);
            masses = r.masses ∙ transported_cells;
            bases = r.bases ∙ transported_cells;
            interfaces = length_tabulate (suc (cells s)) (λ i. carried_at (transported_first s t) i +ℤ net_at s t i) ∙ sym (add-one (cells s));
            length_least = k.length_least;
            length_most = k.length_most;
            left = k.left;
            right = k.right;
            boundaries = k.boundaries;
            cell = λ i l. rw (depth_of F i l, discharge_of F i l) (cell_after F i l);
            water = λ i l. rw (depth_of F i l, add-one i, carried_of F i (omega arith), carried_of F (suc i) l) (water_of_lem i l);
            shut_left = λ w. carried_of F 0 (omega arith) ∙ shut _ _ (r.shut_left (ap (λ x. (left_boundary x).kind) e ∙ w)) (wall_left s t k.some w);
            shut_right = λ w. carried_of F (cells s) (omega arith) ∙ shut _ _ (ap (carried_at (transported_first s t)) (sym transported_cells) ∙ r.shut_right (ap (λ x. (right_boundary x).kind) e ∙ w)) (wall_right s t k.some w);
            outlets = outlets_fit_lem;
            totals = totals_after;
          }

  -- ---- water: what crosses from one cell to the next cancels

  cell_water : (i : ℕ) → i < cells s
      → (positive (new_depth s t i) + sum (draws s t i)) + rightward s t (suc i) + leftward s t i ≡ depth_at s i + rightward s t i + leftward s t (suc i)
  cell_water i l = omega (arith, depth_at_lem i l, drawn_at i l)

  water_crossed : sum_below (cells s) (λ i. positive (new_depth s t i) + sum (draws s t i)) + rightward s t (cells s) + leftward s t 0
      ≡ sum_below (cells s) (depth_at s) + rightward s t 0 + leftward s t (cells s)
  water_crossed = telescope (cells s) (λ i. positive (new_depth s t i) + sum (draws s t i)) (depth_at s) (rightward s t) (leftward s t) cell_water

  -- what the cells give is what the outlets have
  drawn_all : sum_below (cells s) (λ i. sum (draws s t i)) ≡ sum_below os.count (draw_of s t)
  drawn_all =
      sum_same (cells s) _ _ (λ i l. draws_sum s t i)
      ∙ all_cells os (λ n i. draw_of s t n) (cells s) (λ n l. (outlet_sound (cells s) os k.outlets n l).cell)

  outlets_gain : outlet_water (step_outlets s t) ≡ outlet_water os + sum_below os.count (draw_of s t)
  unfolding outlet_water step_outlets stepped_outlet
  outlets_gain =
      each_sum (stepped_outlet s t) rs few_there (λ o. o.water)
      ∙ ap (λ (m : ℕ). sum_below m (λ n. (outlet_at rs n).water + draw_of s t n)) (transported_count s t)
      ∙ sum_same os.count _ _ (λ n l. ap (λ (w : ℕ). w + draw_of s t n) (transported_water s t few n l))
      ∙ sum_add os.count (λ n. (outlet_at os n).water) (draw_of s t)

  held_before : water_held s ≡ sum_below (cells s) (depth_at s)
  unfolding water_held
  held_before = sum_by_index s.depth ∙ ap (λ (n : ℕ). sum_below n (depth_at s)) k.depths

  held_after : (F : ℕ) → water_held (after_step s t F) ≡ sum_below (cells s) (λ i. positive (new_depth s t i))
  unfolding water_held after_step
  held_after F = sum_tabulate (cells s) (λ i. positive (new_depth s t i))

  outlets_after : (F : ℕ) → outlet_water (after_step s t F).held.outlets ≡ outlet_water (step_outlets s t)
  unfolding after_step step_held
  outlets_after F = refl

  pub step_water_balanced : (F : ℕ) → WaterBalanced s (after_step s t F)
  unfolding WaterBalanced total_water_in total_water_out water_gone
  step_water_balanced F =
      let first = net_parts s t 0 in
      let last = net_parts s t (cells s) in
      let w = ledger_water s t F in
      omega (
        arith,
        held_before,
        held_after F,
        outlets_after F,
        outlets_gain,
        drawn_all,
        sum_add (cells s) (λ i. positive (new_depth s t i)) (λ i. sum (draws s t i)),
        water_crossed,
      )

-- ---- mass: the step adds nothing to what a transport before it does

mass_same : (s : Reach) → Sound s → (t : ℕ) → outlet_mass (step_outlets s t) ≡ outlet_mass (transported_first s t).held.outlets
unfolding outlet_mass step_outlets stepped_outlet
mass_same s k t =
    let rs = (transported_first s t).held.outlets in
    each_sum (stepped_outlet s t) rs (omega (arith, transported_count s t, outlets_few (cells s) s.held.outlets k.outlets)) (λ o. o.mass)

transported_mass : (s : Reach) → Sound s → (t : ℕ) → MassBalanced s (transported_first s t)
unfolding MassBalanced transported_first
transported_mass s k t = go (keeps_sums s t)
  where
    go : (b : Bool) → MassBalanced s (cond b s (after_transport s))
    go true = refl
    go false = transport_balanced s k

pub step_mass_balanced : (s : Reach) → Sound s → (t F : ℕ) → MassBalanced s (after_step s t F)
unfolding MassBalanced mass_held total_mass_in total_mass_out mass_gone after_step step_held step_ledger with_boundary_water with_water
step_mass_balanced s k t F = omega (arith, mass_same s k t, transported_mass s k t)

pub step_within : (s : Reach) → Sound s → (t F : ℕ) (lo hi : ℤ) → CellsWithin (everywhere lo) (everywhere hi) s → BoundariesWithin (everywhere lo) (everywhere hi) (cells s) s.held.boundaries
    → CellsWithin (everywhere lo) (everywhere hi) (after_step s t F)
unfolding transported_first
step_within s k t F lo hi w e = of_transported s t F (everywhere lo) (everywhere hi) (go (keeps_sums s t))
  where
    go : (b : Bool) → CellsWithin (everywhere lo) (everywhere hi) (cond b s (after_transport s))
    go true = w
    go false = transport_within s k lo hi w e

-- ---- the call: what each outcome is, and what an accepted one leaves

-- every statement about the outcome, by the two ways it can go
pub by_step : (s : Reach) (t F : ℕ) (P : Outcome → Type 0)
    → ((n : ℕ) → 0 < n → P (record { refusal = n; reach = s }))
    → (Sound s → meets_cfl (place_speed s) (cells s + 1) s.cell_length t ≡ true → depths_fit s t ≡ true → all_totals_fit (step_held s t) ≡ true
    → P (record { refusal = 0; reach = after_step s t F }))
    → P (step s t F)
unfolding step
by_step s t F P stays moves = go (first_refusal (step_grounds s t F)) refl
  where
    go : (k : Verdict) → first_refusal (step_grounds s t F) ≡ k → P (outcome k s (after_step s t F))
    go (Err r) e = stays (number r) (number_above r)
    go (Ok u) e =
        let g = stood (step_grounds s t F) e in
        moves (sound s s.held.boundaries (passed_first (record_grounds s s.held.boundaries) _ e)) (g 10) (g 11) (g 12)

-- an accepted step leaves a record that stands grounds 4 to 9 again, whatever pair it is given next
pub step_stands_again : (s : Reach) (t F : ℕ) (gs : List Boundary) → (step s t F).refusal ≡ 0 → boundaries_fit gs ≡ true
    → first_refusal (record_grounds (step s t F).reach gs) ≡ Ok tt
step_stands_again s t F gs e g =
    by_step s t F (λ o. o.refusal ≡ 0 → first_refusal (record_grounds o.reach gs) ≡ Ok tt)
    (λ n p z. absurd (omega arith))
    (λ k c d l z. stands (after_step s t F) gs (stepped_sound s k t c d l F) g)
    e
