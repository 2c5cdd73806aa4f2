-- Laws of the calls that move mass: what a sound record owes the functions, what each outcome is, that mass and bounds are kept, and
-- that an accepted call leaves a sound record. Assumes nothing.
use mathlib.Core.Path.{◌≡◌, refl, sym, ap, ◌∙◌, subst}
use mathlib.Core.Bool.{Bool, true, false, cond}
use mathlib.Core.Logic.{⊎_elim}
use mathlib.Core.List.{List}
use Prim.Native.Nat.{ℕ, zero, suc, ◌+◌, ◌-◌, ◌*◌, ◌≤◌, ◌<◌}
use native.Mathlib.Nat.{mul-le-mul, mul-le-mul_left, eq-or-lt_of_le}
use native.Mathlib.Numerals.{add-one}
use native.Mathlib.Omega.{arith}
use borrow.Author.Tests.{leb-true, eqb-true, eqb-false}
use lib.Dec.{eqb}
use lib.IntN.{ℤ, pos, ◌+ℤ◌, ◌*ℤ◌, neg_ℤ, nat_abs}
use lib.Signed.{◌≤ℤ◌}
use lib.ListN.{length, get_or, get_or-replicate, length-replicate}
use Rattle.numbers.specs.Index.{sum, sum_below, tabulate}
use Rattle.numbers.specs.Signed.{positive}
use Rattle.numbers.proofs.IndexLaws.{all_of_lem, all_at, get_or_tabulate, length_tabulate, sum_tabulate, sum_add, sum_none}
use Rattle.numbers.proofs.SignedLaws.{abs_parts, pos_le, le_pos, pos_below, lower_bound, upper_bound, sum_lower, sum_upper, times_sum}
use Rattle.flux.specs.Limits.{depth_most, concentration_most}
use Rattle.outlet.specs.Outlets.{outlet_at, from_cell}
use Rattle.outlet.specs.declared.Outlet.{Outlet}
use Rattle.outlet.specs.declared.Outlets.{Outlets}
use Rattle.outlet.proofs.OutletLaws.{each_at}
use Rattle.mass.specs.Transport.{MassColumns, mass_columns, cell_shares, outlet_share, rightwards, leftwards, moved_cell, moved_outlet, moved_outlets}
use Rattle.mass.specs.Ranges.{Ready, OutletsReady, Gained, gains, mass_most, moved_mass}
use Rattle.mass.proofs.GainsLaws.{gained, taken_all}
use Rattle.mass.proofs.TransportLaws.{drawn_mass, drawn_mass_sum, ready_undrawn, rightwards_undrawn, leftwards_undrawn, water_rightwards, water_leftwards, water_stayed, conserved, moved_all, moved_lo, moved_hi, leftwards_small, rightwards_small, leftwards_end}
use Rattle.reach.specs.Limits.{wall}
use Rattle.reach.specs.Reach.{Reach, reach_of, cells, depth_at, base_at, mass_at, carried_at, left_boundary, right_boundary, with_boundaries}
use Rattle.reach.specs.Grounds.{first_refusal, record_grounds, boundaries_fit, outlets_fit, outlet_totals_fit, all_totals_fit, pass_or}
use Rattle.reach.specs.Outcome.{Outcome, outcome}
use Rattle.reach.specs.Parts.{outflow, drawn_from}
use Rattle.reach.specs.Ranges.{undrawn}
use Rattle.reach.specs.Balance.{mass_held, total_mass_in, total_mass_out, outlet_mass, mass_gone, MassBalanced, everywhere, CellsWithin, BoundaryWithin, BoundariesWithin}
use Rattle.reach.specs.declared.boundary.Boundary.{Boundary}
use Rattle.reach.specs.Grounds.{Verdict}
use Rattle.reach.proofs.GroundsLaws.{further, no_further, last_one, number_above}
use Rattle.reach.proofs.OutletLaws.{each_fits, each_from, each_sum}
use Rattle.reach.proofs.PartsLaws.{outflow_is}
use Rattle.reach.proofs.Sound.{Sound, CarriedSound, none_carried_lem, outlets_few, outlet_sound, sound, given_fits, stands, boundary_sound}
use Rattle.transport.specs.Calls.{entering_left, entering_right, mass_columns_of, with_mass, ledger_with, transport_ledger, transport_outlets, transport_held, after_transport, transport_grounds, transport, holding, set_boundaries, CameTo}
use Rattle.transport.specs.Ranges.{mass_columns_with, BoundaryMassOf, Small}
use Rattle.transport.specs.declared.TransportAnswer.{TransportAnswer}
use Rattle.std.specs.Prelude.{Ok, Err}
use Rattle.reach.specs.declared.refusal.Refusal.{Refusal}
use Rattle.reach.specs.declared.refusal.Refusal.TheVariants as refusal
use Rattle.reach.specs.Refusals.{number}

-- ---- what a sound record owes the functions

module _ (s : Reach) (k : Sound s) where
  last_carried : nat_abs (carried_at s (cells s)) ≤ depth_most
  last_carried =
      let n = k.some in
      let p : cells s - 1 + 1 ≡ cells s = omega arith in
      subst (λ (i : ℕ). nat_abs (carried_at s i) ≤ depth_most) p (k.water (cells s - 1) (omega arith)).right

  entering_left_lem : entering_left s ≤ mass_most
  unfolding entering_left
  entering_left_lem =
      let n = k.some in
      let c : positive (carried_at s 0) ≤ depth_most = omega (arith, abs_parts (carried_at s 0), (k.water 0 (omega arith)).left) in
      mul-le-mul c k.left.concentration

  entering_right_lem : entering_right s ≤ mass_most
  unfolding entering_right
  entering_right_lem =
      let c : positive (neg_ℤ (carried_at s (cells s))) ≤ depth_most = omega (arith, abs_parts (carried_at s (cells s)), last_carried) in
      mul-le-mul c k.right.concentration

  inside : (i : ℕ) → i < length s.mass → i < cells s
  inside i l = let e = k.masses in omega arith

  pub ready : Ready (mass_columns_of s)
  ready = record {
    each = λ i. record {
      bases = omega (arith, k.bases, k.masses);
      interfaces = omega (arith, k.interfaces, k.masses);
      giving = λ l. record {
        deep = (k.cell i (inside i l)).base;
        rich = (k.cell i (inside i l)).mass;
        covered = (k.water i (inside i l)).covered;
      };
      entering = entering_right_lem;
    };
    entering = entering_left_lem;
  }

  -- the columns with the concentrations, as the code has them
  columns_with : mass_columns_with s.mass s.base s.carried (drawn_from s.held.outlets) s.held.boundaries ≡ mass_columns_of s
  unfolding entering_left entering_right
  columns_with =
      ap (λ (n : ℕ). mass_columns s.mass s.base s.carried (drawn_from s.held.outlets) (positive (carried_at s 0) * (left_boundary s.held.boundaries).concentration) (positive (neg_ℤ (carried_at s n)) * (right_boundary s.held.boundaries).concentration))
      k.masses

  -- and as of cells that have no outlet
  pub ready_with : Ready (mass_columns_with s.mass s.base s.carried undrawn s.held.boundaries)
  ready_with =
      let r = subst Ready (sym columns_with) ready in
      record { each = ready_undrawn s.mass s.base s.carried (drawn_from s.held.outlets) _ _ r.each; entering = r.entering }

  pub crossed_with : {a b c o : ℕ} → BoundaryMassOf (mass_columns_with s.mass s.base s.carried undrawn s.held.boundaries) a b c o → BoundaryMassOf (mass_columns_of s) a b c o
  crossed_with {a} {b} {c} {o} x =
      subst (λ (m : MassColumns). BoundaryMassOf m a b c o) columns_with
      (record {
        left_in = x.left_in;
        left_out = x.left_out ∙ leftwards_undrawn s.mass s.base s.carried (drawn_from s.held.outlets) _ _ 0;
        right_in = x.right_in;
        right_out = x.right_out ∙ rightwards_undrawn s.mass s.base s.carried (drawn_from s.held.outlets) _ _ (length s.mass);
      })

  module _ {a c : ℕ} (left : a ≡ entering_left s) (right : c ≡ entering_right s) where
    pub ready_entering : Ready (mass_columns s.mass s.base s.carried undrawn a c)
    ready_entering = rw (left, right) (record { each = ready_undrawn s.mass s.base s.carried (drawn_from s.held.outlets) _ _ ready.each; entering = ready.entering })

    -- what has moved, of a record with no outlet
    pub moved_none : s.held.outlets.count ≡ 0 → moved_mass (mass_columns s.mass s.base s.carried undrawn a c) ≡ moved_mass (mass_columns_of s)
    unfolding from_cell tabulate
    moved_none e = rw (left, right, e) refl

    -- and of one whose outlets have each gained their share, which is taken off
    module _ (after : Outlets) (shared : (k : ℕ) → k < s.held.outlets.count → (outlet_at after k).mass ≡ (outlet_at s.held.outlets k).mass + outlet_share (mass_columns_of s) (outlet_at s.held.outlets k).cell k)
        (column : List ℕ) (e : column ≡ moved_mass (mass_columns s.mass s.base s.carried undrawn a c))
      where
        moved : column ≡ moved_mass (mass_columns s.mass s.base s.carried undrawn (entering_left s) (entering_right s))
        moved = e ∙ rw (left, right) refl

        pub gained_entering : Gained column s.held.outlets after
        gained_entering =
            gained s.mass s.base s.carried s.held.outlets after (entering_left s) (entering_right s) shared (λ i l. ((ready.each i).giving l).covered) column moved
            (outlets_few (cells s) s.held.outlets k.outlets) (omega (arith, k.masses, k.few))
            (λ j l. omega (arith, k.masses, (outlet_sound (cells s) s.held.outlets k.outlets j l).cell))

        pub taken_entering : tabulate (length column) (λ i. get_or column i 0 - gains s.held.outlets after i) ≡ moved_mass (mass_columns_of s)
        taken_entering = taken_all s.mass s.base s.carried s.held.outlets after (entering_left s) (entering_right s) shared (λ i l. ((ready.each i).giving l).covered) column moved

  -- and to move the outlets' mass
  pub outlets_ready : OutletsReady s.mass s.base s.carried s.held.outlets
  unfolding all_totals_fit outlet_totals_fit
  outlets_ready =
      let totals = all_of_lem _ k.totals 1 in record {
        few = outlets_few (cells s) s.held.outlets k.outlets;
        cells = omega (arith, k.masses, k.few);
        inside = λ j l. omega (arith, k.masses, (outlet_sound (cells s) s.held.outlets k.outlets j l).cell);
        totals = λ j l. leb-true _ _ (all_of_lem _ (all_at (λ n. outlet_totals_fit (outlet_at s.held.outlets n)) s.held.outlets.count j totals l) 1);
        each = λ i. let r = ready.each i in record { bases = r.bases; interfaces = r.interfaces; giving = λ l. r.giving l; entering = omega arith };
      }

  pub outlets_are : moved_outlets (mass_columns s.mass s.base s.carried (drawn_from s.held.outlets) 0 0) s.held.outlets ≡ transport_outlets s
  unfolding transport_outlets moved_outlets moved_outlet cell_shares
  outlets_are = refl

  -- each outlet gains its share
  pub shares_moved : (j : ℕ) → j < s.held.outlets.count → (outlet_at (transport_outlets s) j).mass ≡ (outlet_at s.held.outlets j).mass + outlet_share (mass_columns_of s) (outlet_at s.held.outlets j).cell j
  unfolding transport_outlets moved_outlets moved_outlet
  shares_moved j l = ap (λ (o : Outlet). o.mass) (each_at (moved_outlet (mass_columns_of s) s.held.outlets) s.held.outlets (outlets_few (cells s) s.held.outlets k.outlets) j l)

  pub small : (a b c d : ℕ) → BoundaryMassOf (mass_columns_of s) a b c d → Small a b c d
  small a b c d x =
      let n = length s.mass in record {
        left_in = omega (arith, x.left_in, entering_left_lem);
        left_out = omega (arith, x.left_out, leftwards_small (mass_columns_of s) 0 (ready.each 0) (omega arith));
        right_in = omega (arith, x.right_in, entering_right_lem);
        right_out = omega (arith, x.right_out, rightwards_small (mass_columns_of s) ready n (omega arith));
      }

  pub ledger_is : (a b c d : ℕ) → BoundaryMassOf (mass_columns_of s) a b c d → ledger_with s.held.ledger a b c d ≡ transport_ledger s
  unfolding transport_ledger
  ledger_is a b c d x = rw (x.left_in, x.left_out, x.right_in, x.right_out, k.masses) refl

-- ---- what each outcome is

module _ (s : Reach) (es : List Boundary) where
  pub stopped : (r : Refusal) → first_refusal (record_grounds s es) ≡ Err r → set_boundaries s es ≡ record { refusal = number r; reach = s }
  unfolding set_boundaries
  stopped r e = ap (λ (k : Verdict). outcome k s (holding es (after_transport s))) (no_further (record_grounds s es) _ r e)

  module _ (e : first_refusal (record_grounds s es) ≡ Ok tt) where
    at_last : (t : Bool) → all_totals_fit (transport_held s) ≡ t → first_refusal (transport_grounds s es) ≡ pass_or refusal.Total t
    at_last t f = further (record_grounds s es) _ e ∙ last_one refusal.Total _ ∙ ap (pass_or refusal.Total) f

    pub full : all_totals_fit (transport_held s) ≡ false → set_boundaries s es ≡ record { refusal = 13; reach = s }
    unfolding set_boundaries
    full f = ap (λ (k : Verdict). outcome k s (holding es (after_transport s))) (at_last false f)

    pub accepted : all_totals_fit (transport_held s) ≡ true → set_boundaries s es ≡ record { refusal = 0; reach = holding es (after_transport s) }
    unfolding set_boundaries
    accepted f = ap (λ (k : Verdict). outcome k s (holding es (after_transport s))) (at_last true f)

  -- every statement about the outcome, by the three ways it can go
  pub by_outcome : (P : Outcome → Type 0)
      → ((n : ℕ) → 0 < n → P (record { refusal = n; reach = s }))
      → (Sound s → boundaries_fit es ≡ true → all_totals_fit (transport_held s) ≡ true → P (record { refusal = 0; reach = holding es (after_transport s) }))
      → P (set_boundaries s es)
  by_outcome P stays moves = go (first_refusal (record_grounds s es)) refl (all_totals_fit (transport_held s)) refl
    where
      go : (k : Verdict) → first_refusal (record_grounds s es) ≡ k → (t : Bool) → all_totals_fit (transport_held s) ≡ t → P (set_boundaries s es)
      go (Ok u) p true q = subst P (sym (accepted p q)) (moves (sound s es p) (given_fits s es p) q)
      go (Ok u) p false q = subst P (sym (full p q)) (stays 13 (omega arith))
      go (Err r) p t q = subst P (sym (stopped r p)) (stays (number r) (number_above r))

-- ---- mass

module _ (s : Reach) (k : Sound s) where
  covered : (i : ℕ) → i < length s.mass → outflow (carried_at s i) (carried_at s (i + 1)) (drawn_from s.held.outlets i) ≤ base_at s i
  covered i l = (((ready s k).each i).giving l).covered

  first_in : rightwards (mass_columns_of s) 0 ≡ entering_left s
  unfolding rightwards
  first_in = refl

  -- what the outlets gain is what left the cells by them
  outlets_gain : outlet_mass (transport_outlets s) ≡ outlet_mass s.held.outlets + sum_below (length s.mass) (drawn_mass (mass_columns_of s))
  unfolding outlet_mass transport_outlets moved_outlets moved_outlet
  outlets_gain =
      let os = s.held.outlets in
      let x = mass_columns_of s in
      let ready = outlets_ready s k in
      each_sum (moved_outlet x os) os ready.few (λ o. o.mass)
      ∙ sum_add os.count (λ j. (outlet_at os j).mass) (λ j. outlet_share x (outlet_at os j).cell j)
      ∙ ap (λ (n : ℕ). sum_below os.count (λ j. (outlet_at os j).mass) + n) (sym (drawn_mass_sum s.mass s.base s.carried os _ _ ready.inside))

  pub transport_balanced : MassBalanced s (after_transport s)
  unfolding MassBalanced mass_held total_mass_in total_mass_out mass_gone after_transport transport_held transport_ledger ledger_with with_mass
  transport_balanced =
      let x = mass_columns_of s in
      let n = ap (rightwards x) k.masses in
      let l = leftwards_end x (length s.mass) (omega arith) in
      omega (arith, first_in, outlets_gain, conserved x covered)

  -- what is measured of a cell afterwards is its new mass against its depth
  moved_at : (i : ℕ) → i < cells s → mass_at (after_transport s) i ≡ moved_cell (mass_columns_of s) i
  unfolding after_transport
  moved_at i l = get_or_tabulate (length s.mass) (moved_cell (mass_columns_of s)) i 0 (omega (arith, k.masses))

  pub base_at_lem : (i : ℕ) → base_at (after_transport s) i ≡ depth_at s i
  unfolding after_transport
  base_at_lem i = refl

  -- a cell that gave all its water holds what came from both sides
  pub emptied_at : (i : ℕ) → i < cells s → outflow (carried_at s i) (carried_at s (i + 1)) (drawn_from s.held.outlets i) ≡ base_at s i
      → mass_at (after_transport s) i ≡ rightwards (mass_columns_of s) i + leftwards (mass_columns_of s) (i + 1)
  emptied_at i l e = moved_at i l ∙ moved_all (mass_columns_of s) concentration_most i (k.cell i l).mass e

  -- ---- bounds

  -- over a wall nothing comes; another boundary's concentration is bounded
  not_wall : (e : Boundary) (c : ℕ) {P : Type 0} → (e.kind ≡ wall → c ≡ 0) → (c ≡ 0 → P) → ((e.kind ≡ wall → ⊥) → P) → P
  not_wall e c {P} shut f g = go (eqb e.kind wall) refl
    where
      go : (t : Bool) → eqb e.kind wall ≡ t → P
      go true p = f (shut (eqb-true e.kind wall p))
      go false p = g (eqb-false e.kind wall p)

  module _ (lo hi : ℤ) (e : Boundary) (c : ℕ) (w : BoundaryWithin lo hi e) (shut : e.kind ≡ wall → c ≡ 0) where
    enters_lo : positive lo * c ≤ c * e.concentration
    enters_lo = not_wall e c shut (λ z. rw z (omega arith)) (λ n. omega (arith, mul-le-mul_left c (le_pos lo _ (w.above n))))

    enters_hi : (c * e.concentration ≤ positive hi * c) × (positive (neg_ℤ hi) * c ≡ 0)
    enters_hi =
        not_wall e c shut
        (λ z. rw z (omega arith, omega arith))
        (λ n. let u = pos_below _ hi (w.below n) in (omega (arith, mul-le-mul_left c u.0), rw u.1 (omega arith)))

  shut_left_lem : (left_boundary s.held.boundaries).kind ≡ wall → positive (carried_at s 0) ≡ 0
  shut_left_lem w = ap positive (k.shut_left w)

  shut_right_lem : (right_boundary s.held.boundaries).kind ≡ wall → positive (neg_ℤ (carried_at s (cells s))) ≡ 0
  shut_right_lem w = ap (λ (z : ℤ). positive (neg_ℤ z)) (k.shut_right w)

  -- the water of a cell afterwards, its new base, is what came over its left, what stayed, and what came over its right
  water_at : (i : ℕ) → i < cells s
      → water_rightwards (mass_columns_of s) i + water_stayed (mass_columns_of s) i + water_leftwards (mass_columns_of s) (i + 1) ≡ depth_at s i
  water_at i l = let w = k.water i l in omega (arith, w.balance, w.covered)

  -- numbers by place, each times the water that comes from there
  abbrev pub weighed : (ℕ → ℤ) → ℕ → ℤ
  weighed z i =
      let x = mass_columns_of s in
      z i *ℤ pos (water_rightwards x i) +ℤ z (i + 1) *ℤ pos (water_stayed x i) +ℤ z (i + 2) *ℤ pos (water_leftwards x (i + 1))

  -- the law by place: the mass of a cell after a transport lies within the bounds of the water that it then has
  module _ (lo hi : ℕ → ℤ) (w : CellsWithin lo hi s) (e : BoundariesWithin lo hi (cells s) s.held.boundaries) where
    pub transport_above : (i : ℕ) → i < cells s → weighed lo i ≤ℤ pos (mass_at (after_transport s) i)
    unfolding entering_left entering_right
    transport_above i l =
        rw (moved_at i l)
        (sum_lower (lo i) (lo (i + 1)) (lo (i + 2)) _ _ _ _
        (moved_lo (mass_columns_of s) covered (λ p. positive (lo p))
        (λ j h. lower_bound (lo (j + 1)) (base_at s j) (mass_at s j) (w.above j (inside s k j h)))
        (enters_lo (lo 0) (hi 0) _ _ e.left shut_left_lem)
        (rw k.masses (enters_lo (lo (cells s + 1)) (hi (cells s + 1)) _ _ e.right shut_right_lem))
        i (omega (arith, k.masses))))

    -- a place whose upper bound is below 0 gives no water: a cell there has none, and another boundary than a wall is not bounded
    upper_at : (i : ℕ) → i < cells s → (mass_at s i ≤ positive (hi (i + 1)) * base_at s i) × (positive (neg_ℤ (hi (i + 1))) * base_at s i ≡ 0)
    upper_at i l = upper_bound (hi (i + 1)) (base_at s i) (mass_at s i) (w.below i l)

    none_of : (i : ℕ) → i < cells s → (c : ℕ) → c ≤ base_at s i → positive (neg_ℤ (hi (i + 1))) * c ≡ 0
    none_of i l c h = omega (arith, (upper_at i l).1, mul-le-mul_left (positive (neg_ℤ (hi (i + 1)))) h)

    gone : (i : ℕ) → i < cells s → (positive (carried_at s (i + 1)) ≤ base_at s i) × (positive (neg_ℤ (carried_at s i)) ≤ base_at s i)
    gone i l = let c = (k.water i l).covered in let o = outflow_is (carried_at s i) (carried_at s (i + 1)) (drawn_from s.held.outlets i) in (omega arith, omega arith)

    none_rightwards : (i : ℕ) → i ≤ cells s → positive (neg_ℤ (hi i)) * positive (carried_at s i) ≡ 0
    none_rightwards zero l = (enters_hi (lo 0) (hi 0) _ _ e.left shut_left_lem).1
    none_rightwards (suc i) l = rw (← add-one i) (none_of i l _ (gone i l).0)

    none_leftwards : (i : ℕ) → i ≤ cells s → positive (neg_ℤ (hi (i + 1))) * positive (neg_ℤ (carried_at s i)) ≡ 0
    none_leftwards i l =
        ⊎_elim
        (λ q. rw q (enters_hi (lo (cells s + 1)) (hi (cells s + 1)) _ _ e.right shut_right_lem).1)
        (λ h. none_of i h _ (gone i h).1)
        (eq-or-lt_of_le l)

    pub transport_below : (i : ℕ) → i < cells s → pos (mass_at (after_transport s) i) ≤ℤ weighed hi i
    unfolding entering_left entering_right
    transport_below i l =
        let next : i + 1 + 1 ≡ i + 2 = omega arith in
        rw (moved_at i l)
        (sum_upper (hi i) (hi (i + 1)) (hi (i + 2)) _ _ _ _
        (none_rightwards i (omega arith))
        (none_of i l _ (omega arith))
        (subst (λ (p : ℕ). positive (neg_ℤ (hi p)) * positive (neg_ℤ (carried_at s (i + 1))) ≡ 0) next (none_leftwards (i + 1) (omega arith)))
        (moved_hi (mass_columns_of s) covered (λ p. positive (hi p))
        (λ j h. (upper_at j (inside s k j h)).0)
        (enters_hi (lo 0) (hi 0) _ _ e.left shut_left_lem).0
        (rw k.masses (enters_hi (lo (cells s + 1)) (hi (cells s + 1)) _ _ e.right shut_right_lem).0)
        i (omega (arith, k.masses))))

  cells_same : cells (after_transport s) ≡ cells s
  unfolding after_transport
  cells_same = refl

  -- two numbers are an instance: what came and stayed is the new base
  weighed_is : (z : ℤ) (i : ℕ) → i < cells s → weighed (everywhere z) i ≡ z *ℤ pos (base_at (after_transport s) i)
  weighed_is z i l = times_sum z _ _ _ ∙ ap (λ (h : ℕ). z *ℤ pos h) (water_at i l ∙ sym (base_at_lem i))

  pub transport_within : (lo hi : ℤ) → CellsWithin (everywhere lo) (everywhere hi) s → BoundariesWithin (everywhere lo) (everywhere hi) (cells s) s.held.boundaries
      → CellsWithin (everywhere lo) (everywhere hi) (after_transport s)
  transport_within lo hi w e = record {
    above = λ i l. let j : i < cells s = omega (arith, cells_same) in subst (λ (z : ℤ). z ≤ℤ pos (mass_at (after_transport s) i)) (weighed_is lo i j) (transport_above (everywhere lo) (everywhere hi) w e i j);
    below = λ i l. let j : i < cells s = omega (arith, cells_same) in subst (λ (z : ℤ). pos (mass_at (after_transport s) i) ≤ℤ z) (weighed_is hi i j) (transport_below (everywhere lo) (everywhere hi) w e i j);
  }

  -- ---- an accepted call leaves a sound record

  -- every record's concentrations lie in 0..500,000
  in_range : CellsWithin (everywhere (pos 0)) (everywhere (pos concentration_most)) s
  in_range = record { above = λ i l. pos_le _ _ (omega arith); below = λ i l. pos_le _ _ (k.cell i l).mass }

  boundaries_in_range : BoundariesWithin (everywhere (pos 0)) (everywhere (pos concentration_most)) (cells s) s.held.boundaries
  boundaries_in_range = record {
    left = record { above = λ n. pos_le _ _ (omega arith); below = λ n. pos_le _ _ k.left.concentration };
    right = record { above = λ n. pos_le _ _ (omega arith); below = λ n. pos_le _ _ k.right.concentration };
  }

  moved_long : length (after_transport s).mass ≡ cells s
  unfolding after_transport
  moved_long = length_tabulate (length s.mass) (moved_cell (mass_columns_of s)) ∙ k.masses

  pub carried_zero : (i : ℕ) → i < length s.carried → carried_at (after_transport s) i ≡ pos 0
  unfolding after_transport
  carried_zero i l = get_or-replicate (length s.carried) i (pos 0) (pos 0) l

  still : (h : ℕ) (l r : ℤ) (ds : List ℕ) → l ≡ pos 0 → r ≡ pos 0 → sum ds ≡ 0 → CarriedSound h h l r ds
  still h l r ds p q z = rw (p, q) (none_carried_lem h ds z)

  -- nothing is drawn any more
  pub drawn_none : (i : ℕ) → sum (drawn_from (transport_outlets s) i) ≡ 0
  unfolding transport_outlets moved_outlets moved_outlet
  drawn_none i =
      let os = s.held.outlets in
      let f = moved_outlet (mass_columns_of s) os in
      ap sum (each_from f os (outlets_ready s k).few (λ o. o.drawn) i)
      ∙ sum_tabulate os.count (λ j. cond (eqb (f j).cell i) (f j).drawn 0)
      ∙ sum_none os.count _ (λ j l. nothing (eqb (f j).cell i))
    where
      nothing : (b : Bool) → ◌≡◌ {A = ℕ} (cond b 0 0) 0
      nothing true = refl
      nothing false = refl

  outlets_fit_lem : outlets_fit (cells s) (transport_outlets s) ≡ true
  unfolding transport_outlets moved_outlets moved_outlet
  outlets_fit_lem = each_fits (moved_outlet (mass_columns_of s) s.held.outlets) s.held.outlets (outlets_ready s k).few (cells s) (λ j l. (refl, refl)) k.outlets

  totals_of : (es : List Boundary) → all_totals_fit (transport_held s) ≡ true → all_totals_fit (with_boundaries es (transport_held s)) ≡ true
  unfolding all_totals_fit
  totals_of es f = f

  pub transport_sound : (es : List Boundary) → boundaries_fit es ≡ true → all_totals_fit (transport_held s) ≡ true → Sound (holding es (after_transport s))
  unfolding after_transport transport_held boundaries_fit holding
  transport_sound es fits totals =
      let t = transport_within (pos 0) (pos concentration_most) in_range boundaries_in_range in
      let boundaries = all_of_lem _ fits in record {
        some = k.some;
        few = k.few;
        depths = k.depths;
        discharges = k.discharges;
        masses = moved_long;
        bases = k.depths;
        interfaces = length-replicate (length s.carried) (pos 0) ∙ k.interfaces;
        length_least = k.length_least;
        length_most = k.length_most;
        left = boundary_sound (left_boundary es) (boundaries 0);
        right = boundary_sound (right_boundary es) (boundaries 1);
        boundaries = fits;
        cell = λ i l. record {
          bed = (k.cell i l).bed;
          depth = (k.cell i l).depth;
          discharge = (k.cell i l).discharge;
          base = (k.cell i l).depth;
          mass = (upper_bound (pos concentration_most) (depth_at s i) _ (t.below i l)).0;
        };
        water = λ i l. still (depth_at s i) _ _ _ (carried_zero i (omega (arith, k.interfaces))) (carried_zero (i + 1) (omega (arith, k.interfaces))) (drawn_none i);
        shut_left = λ w. carried_zero 0 (omega (arith, k.interfaces));
        shut_right = λ w. carried_zero (cells s) (omega (arith, k.interfaces));
        outlets = outlets_fit_lem;
        totals = totals_of es totals;
      }

-- the pair that is held already changes nothing
pub holding_held : (s : Reach) → holding s.held.boundaries (after_transport s) ≡ after_transport s
unfolding holding after_transport transport_held
holding_held s = refl

-- a transport is the setting of the pair that is held
pub transport_is : (s : Reach) → transport s ≡ set_boundaries s s.held.boundaries
unfolding transport set_boundaries holding after_transport transport_held
transport_is s = refl

-- every statement about a transport, by the two ways it can go
pub by_transport : (s : Reach) (P : Outcome → Type 0)
    → ((n : ℕ) → 0 < n → P (record { refusal = n; reach = s }))
    → (Sound s → all_totals_fit (transport_held s) ≡ true → P (record { refusal = 0; reach = after_transport s }))
    → P (transport s)
by_transport s P stays moves =
    subst P (sym (transport_is s))
    (by_outcome s s.held.boundaries P stays
    (λ k f l. subst (λ (r : Reach). P (record { refusal = 0; reach = r })) (sym (holding_held s)) (moves k l)))

-- an accepted call leaves a record that stands grounds 4 to 9 again, whatever pair it is given next
pub stands_again : (s : Reach) (es gs : List Boundary) → (set_boundaries s es).refusal ≡ 0 → boundaries_fit gs ≡ true
    → first_refusal (record_grounds (set_boundaries s es).reach gs) ≡ Ok tt
stands_again s es gs e g =
    by_outcome s es (λ o. o.refusal ≡ 0 → first_refusal (record_grounds o.reach gs) ≡ Ok tt)
    (λ n p z. absurd (omega arith))
    (λ k f l z. stands (holding es (after_transport s)) gs (transport_sound s k es f l) g)
    e

-- ---- what a call left in the columns, with what it handed back, is the record of the definition

-- a transport leaves bed, depths, discharges and X
kept_by_setting : (s : Reach) (es : List Boundary) →
    let r = (set_boundaries s es).reach in
    reach_of s.bed s.depth s.discharge r.mass r.base r.carried s.cell_length r.held ≡ r
unfolding after_transport holding
kept_by_setting s es =
    by_outcome s es
    (λ o. let r = o.reach in
    reach_of s.bed s.depth s.discharge r.mass r.base r.carried s.cell_length r.held ≡ r)
    (λ n p. refl)
    (λ k g f. refl)

pub left_by_setting : (s : Reach) (es : List Boundary) {r : TransportAnswer} {m b : List ℕ} {c : List ℤ} → CameTo (set_boundaries s es) r m b c
    → reach_of s.bed s.depth s.discharge m b c s.cell_length r.held ≡ (set_boundaries s es).reach
left_by_setting s es k = rw (k.mass_is, k.base_is, k.carried_is, k.held_is) (kept_by_setting s es)

pub left_by_transport : (s : Reach) {r : TransportAnswer} {m b : List ℕ} {c : List ℤ} → CameTo (transport s) r m b c
    → reach_of s.bed s.depth s.discharge m b c s.cell_length r.held ≡ (transport s).reach
left_by_transport s {r} {m} {b} {c} k =
    left_by_setting s s.held.boundaries (subst (λ (o : Outcome). CameTo o r m b c) (transport_is s) k)
    ∙ ap (λ (o : Outcome). o.reach) (sym (transport_is s))
