-- What a record is that stands grounds 4 to 9 and 16: `sound` and `given_fits`, and back, `stands`. Assumes nothing.
use mathlib.Core.Path.{◌≡◌, refl, sym, ap, ◌∙◌}
use mathlib.Core.List.{List}
use mathlib.Core.Bool.{Bool, true, false, cond}
use Prim.Native.Nat.{ℕ, ◌+◌, ◌*◌, ◌≤◌, ◌<◌}
use native.Mathlib.Omega.{arith}
use lib.IntN.{ℤ, pos, negsuc, neg_ℤ, nat_abs}
use lib.ListN.{length, get_or}
use lib.Dec.{eqb}
use borrow.Author.Tests.{ltb-true, leb-true, eqb-true, le-leb, eq-eqb}
use Rattle.numbers.specs.Index.{sum}
use Rattle.numbers.specs.Signed.{positive}
use Rattle.numbers.proofs.IndexLaws.{all_of_lem, all_at, all_below_lem, on, only}
use Rattle.numbers.proofs.SignedLaws.{R, L, abs_parts}
use Rattle.outlet.specs.Outlets.{outlets_most, want_most, outlet_at}
use Rattle.outlet.specs.declared.Outlet.{Outlet}
use Rattle.outlet.specs.declared.Outlets.{Outlets}
use Rattle.flux.specs.Limits.{depth_most, velocity_most, bed_most, concentration_most, cell_length_least, cell_length_most}
use Rattle.reach.specs.Limits.{cells_most, carried_most, total_most, wall, open_boundary, fed}
use Rattle.reach.specs.Reach.{Reach, cells, bed_at, depth_at, discharge_at, mass_at, base_at, carried_at, left_boundary, right_boundary}
use Rattle.reach.specs.Grounds.{first_refusal, record_grounds, pass_or, lengths_fit, cell_length_fits, wall_fits, open_fits, fed_fits, kind_fits, boundary_fits, boundaries_fit, cell_fits, cells_fit, carried_fits, shut_fits, carried_cells_fit, carried_fit, totals_fit, ledger_fits, outlet_fits, outlets_fit, all_totals_fit}
use Rattle.reach.specs.Parts.{outflow, drawn_from}
use Rattle.reach.specs.Ranges.{ColumnLengths}
use Rattle.reach.specs.declared.boundary.Boundary.{Boundary}
use Rattle.reach.specs.declared.held.Held.{Held}
use Rattle.reach.specs.declared.ledger.Totals.{Totals}
use Rattle.reach.specs.declared.ledger.Ledger.{Ledger}
use Rattle.std.specs.Prelude.{Ok}
use Rattle.reach.specs.declared.refusal.Refusal.TheVariants as refusal
use Rattle.reach.proofs.GroundsLaws.{stood, go_on, last_one}
use Rattle.reach.proofs.CarriedLaws.{carried_is}
use Rattle.reach.proofs.PartsLaws.{outflow_is}

-- ---- 4

pub record LengthsSound (z h q m b c : ℕ) : Type 0 where
  pub columns : ColumnLengths z h q m b c
  pub few : z ≤ cells_most

module _ (z h q m b c : ℕ) where
  pub lengths_sound : lengths_fit z h q m b c ≡ true → LengthsSound z h q m b c
  unfolding lengths_fit
  lengths_sound e =
      let t = all_of_lem _ e in
      record {
        columns = record {
          cells = record { depths = eqb-true _ _ (t 2); discharges = eqb-true _ _ (t 3); masses = eqb-true _ _ (t 4); bases = eqb-true _ _ (t 5) };
          some = leb-true _ _ (t 0);
          interfaces = eqb-true _ _ (t 6);
        };
        few = leb-true _ _ (t 1);
      }

  lengths_stand : LengthsSound z h q m b c → lengths_fit z h q m b c ≡ true
  unfolding lengths_fit
  lengths_stand s =
      let k = s.columns.cells in
      on _ _ (le-leb _ _ s.columns.some) (on _ _ (le-leb _ _ s.few) (on _ _ (eq-eqb _ _ k.depths) (on _ _ (eq-eqb _ _ k.discharges)
      (on _ _ (eq-eqb _ _ k.masses) (on _ _ (eq-eqb _ _ k.bases) (only _ ∙ eq-eqb _ _ s.columns.interfaces))))))

-- ---- 6

pub record BoundarySound (e : Boundary) : Type 0 where
  pub concentration : e.concentration ≤ concentration_most
  pub depth : e.depth ≤ depth_most
  pub discharge : nat_abs e.discharge ≤ velocity_most * e.depth

by_kind : (a b c w o f : Bool) {P : Type 0} → cond a w (cond b o (cond c f false)) ≡ true → (w ≡ true → P) → (o ≡ true → P) → (f ≡ true → P) → P
by_kind true b c w o f e p q r = p e
by_kind false true c w o f e p q r = q e
by_kind false false true w o f e p q r = r e
by_kind false false false w o f e p q r = let z : ◌≡◌ {A = ℕ} 0 1 = cc in absurd (omega arith)

pub boundary_sound : (e : Boundary) → boundary_fits e ≡ true → BoundarySound e
unfolding boundary_fits kind_fits wall_fits open_fits fed_fits
boundary_sound e p =
    by_kind (eqb e.kind wall) (eqb e.kind open_boundary) (eqb e.kind fed) _ _ _ (all_of_lem _ p 1)
    (λ w. let t = all_of_lem _ w in
    record {
      concentration = omega (arith, eqb-true e.concentration 0 (t 2));
      depth = omega (arith, eqb-true e.depth 0 (t 0));
      discharge = omega (arith, eqb-true (nat_abs e.discharge) 0 (t 1));
    })
    (λ o. let t = all_of_lem _ o in
    record {
      concentration = leb-true _ _ (t 2);
      depth = omega (arith, eqb-true e.depth 0 (t 0));
      discharge = omega (arith, eqb-true (nat_abs e.discharge) 0 (t 1));
    })
    (λ f. let t = all_of_lem _ f in
    record {
      concentration = leb-true _ _ (t 3);
      depth = leb-true _ _ (t 1);
      discharge = leb-true _ _ (t 2);
    })

-- ---- 7

pub record CellSound (z : ℤ) (h : ℕ) (q : ℤ) (m b : ℕ) : Type 0 where
  pub bed : nat_abs z ≤ bed_most
  pub depth : h ≤ depth_most
  pub discharge : nat_abs q ≤ velocity_most * h
  pub base : b ≤ depth_most
  pub mass : m ≤ concentration_most * b

module _ (z : ℤ) (h : ℕ) (q : ℤ) (m b : ℕ) where
  pub cell_sound : cell_fits z h q m b ≡ true → CellSound z h q m b
  unfolding cell_fits
  cell_sound e =
      let t = all_of_lem _ e in
      record {
        bed = leb-true _ _ (t 0);
        depth = leb-true _ _ (t 1);
        discharge = leb-true _ _ (t 2);
        base = leb-true _ _ (t 3);
        mass = leb-true _ _ (t 4);
      }

  cell_stands : CellSound z h q m b → cell_fits z h q m b ≡ true
  unfolding cell_fits
  cell_stands s =
      on _ _ (le-leb _ _ s.bed) (on _ _ (le-leb _ _ s.depth) (on _ _ (le-leb _ _ s.discharge)
      (on _ _ (le-leb _ _ s.base) (only _ ∙ le-leb _ _ s.mass))))

-- of cell i
abbrev pub cell_fits_at : List ℤ → List ℕ → List ℤ → List ℕ → List ℕ → ℕ → Bool
cell_fits_at z h q m b i = cell_fits (get_or z i (pos 0)) (get_or h i 0) (get_or q i (pos 0)) (get_or m i 0) (get_or b i 0)

pub cells_sound : (z : List ℤ) (h : List ℕ) (q : List ℤ) (m b : List ℕ) → cells_fit z h q m b ≡ true → (i : ℕ) → i < length z → CellSound (get_or z i (pos 0)) (get_or h i 0) (get_or q i (pos 0)) (get_or m i 0) (get_or b i 0)
unfolding cells_fit
cells_sound z h q m b e i l = cell_sound _ _ _ _ _ (all_at _ (length z) i e l)

-- ---- 8

pub record CarriedSound (h b : ℕ) (l r : ℤ) (ds : List ℕ) : Type 0 where
  pub left : nat_abs l ≤ carried_most
  pub right : nat_abs r ≤ carried_most
  pub balance : h + outflow l r ds ≡ b + positive l + positive (neg_ℤ r)
  pub covered : outflow l r ds ≤ b

module _ (h b : ℕ) (l r : ℤ) (ds : List ℕ) where
  pub carried_sound : carried_fits h b l r ds ≡ true → CarriedSound h b l r ds
  carried_sound e =
      let t = all_of_lem _ (sym (carried_is h b l r ds refl refl refl refl refl) ∙ e) in
      record {
        left = omega (arith, abs_parts l, leb-true (R l + L l) depth_most (t 0));
        right = omega (arith, abs_parts r, leb-true (L r + R r) depth_most (t 1));
        balance = omega (arith, outflow_is l r ds, eqb-true (h + L l + R r + sum ds) (b + R l + L r) (t 2));
        covered = omega (arith, outflow_is l r ds, leb-true (R r + L l + sum ds) b (t 3));
      }

  pub carried_stands : CarriedSound h b l r ds → carried_fits h b l r ds ≡ true
  carried_stands s =
      carried_is h b l r ds refl refl refl refl refl
      ∙ on _ _ (le-leb (R l + L l) depth_most (omega (arith, abs_parts l))) (on _ _ (le-leb (L r + R r) depth_most (omega (arith, abs_parts r)))
      (on _ _ (eq-eqb (h + L l + R r + sum ds) (b + R l + L r) (omega (arith, outflow_is l r ds))) (only _ ∙ le-leb (R r + L l + sum ds) b (omega (arith, outflow_is l r ds)))))

-- where nothing is carried and nothing drawn, depth and base depth may agree
pub none_carried_lem : (h : ℕ) (ds : List ℕ) → sum ds ≡ 0 → CarriedSound h h (pos 0) (pos 0) ds
none_carried_lem h ds none =
    let o = outflow_is (pos 0) (pos 0) ds in
    record { left = omega arith; right = omega arith; balance = omega arith; covered = omega arith }

no_size : (z : ℤ) → nat_abs z ≡ 0 → z ≡ pos 0
no_size (pos n) e = ap pos e
no_size (negsuc n) e = absurd (omega arith)

module _ (kind : ℕ) (c : ℤ) where
  shut_sound : shut_fits kind c ≡ true → kind ≡ wall → c ≡ pos 0
  unfolding shut_fits
  shut_sound e p = no_size c (eqb-true _ _ (rw (eq-eqb _ _ p) at e))

  shut_stands : (kind ≡ wall → c ≡ pos 0) → shut_fits kind c ≡ true
  unfolding shut_fits
  shut_stands f = go (eqb kind wall) refl
    where
      go : (t : Bool) → eqb kind wall ≡ t → cond t (eqb (nat_abs c) 0) true ≡ true
      go true p = eq-eqb (nat_abs c) 0 (ap nat_abs (f (eqb-true kind wall p)))
      go false p = refl

-- ---- 9

pub record TotalsSound (t : Totals) : Type 0 where
  pub total_water_in : t.water_in ≤ total_most
  pub total_water_out : t.water_out ≤ total_most
  pub total_mass_in : t.mass_in ≤ total_most
  pub total_mass_out : t.mass_out ≤ total_most

pub totals_sound : (t : Totals) → totals_fit t ≡ true → TotalsSound t
unfolding totals_fit
totals_sound t e =
    let t = all_of_lem _ e in
    record { total_water_in = leb-true _ _ (t 0); total_water_out = leb-true _ _ (t 1); total_mass_in = leb-true _ _ (t 2); total_mass_out = leb-true _ _ (t 3) }

pub ledger_left : (k : Ledger) → ledger_fits k ≡ true → totals_fit k.left ≡ true
unfolding ledger_fits
ledger_left k e = all_of_lem _ e 0

pub ledger_right : (k : Ledger) → ledger_fits k ≡ true → totals_fit k.right ≡ true
unfolding ledger_fits
ledger_right k e = all_of_lem _ e 1

-- ---- 16

pub record OutletSound (n : ℕ) (o : Outlet) : Type 0 where
  pub cell : o.cell < n
  pub want : o.want ≤ want_most

module _ (n : ℕ) (os : Outlets) (e : outlets_fit n os ≡ true) where
  pub outlets_few : os.count ≤ outlets_most
  unfolding outlets_fit
  outlets_few = leb-true _ _ (all_of_lem _ e 0)

  pub outlet_sound : (k : ℕ) → k < os.count → OutletSound n (outlet_at os k)
  unfolding outlets_fit outlet_fits
  outlet_sound k l =
      let t = all_of_lem _ (all_at _ os.count k (all_of_lem _ e 1) l) in
      record { cell = ltb-true _ _ (t 0); want = leb-true _ _ (t 1) }

-- 9: the ledger's totals
pub ledger_fits_lem : (h : Held) → all_totals_fit h ≡ true → ledger_fits h.ledger ≡ true
unfolding all_totals_fit
ledger_fits_lem h e = all_of_lem _ e 0

-- ---- 4 to 9, and 16

pub record Sound (s : Reach) : Type 0 where
  pub some : 1 ≤ cells s
  pub few : cells s ≤ cells_most
  pub depths : length s.depth ≡ cells s
  pub discharges : length s.discharge ≡ cells s
  pub masses : length s.mass ≡ cells s
  pub bases : length s.base ≡ cells s
  pub interfaces : length s.carried ≡ cells s + 1
  pub length_least : cell_length_least ≤ s.cell_length
  pub length_most : s.cell_length ≤ cell_length_most
  pub left : BoundarySound (left_boundary s.held.boundaries)
  pub right : BoundarySound (right_boundary s.held.boundaries)
  pub boundaries : boundaries_fit s.held.boundaries ≡ true
  pub cell : (i : ℕ) → i < cells s → CellSound (bed_at s i) (depth_at s i) (discharge_at s i) (mass_at s i) (base_at s i)
  pub water : (i : ℕ) → i < cells s → CarriedSound (depth_at s i) (base_at s i) (carried_at s i) (carried_at s (i + 1)) (drawn_from s.held.outlets i)
  pub shut_left : (left_boundary s.held.boundaries).kind ≡ wall → carried_at s 0 ≡ pos 0
  pub shut_right : (right_boundary s.held.boundaries).kind ≡ wall → carried_at s (cells s) ≡ pos 0
  pub outlets : outlets_fit (cells s) s.held.outlets ≡ true
  pub totals : all_totals_fit s.held ≡ true

module _ (s : Reach) (es : List Boundary) where
  pub sound : first_refusal (record_grounds s es) ≡ Ok tt → Sound s
  unfolding cell_length_fits boundaries_fit carried_fit carried_cells_fit
  sound e =
      let t = stood (record_grounds s es) e in
      let n = lengths_sound _ _ _ _ _ _ (t 0) in
      let x = all_of_lem _ (t 1) in
      let boundaries = all_of_lem _ (t 2) in
      let water = all_of_lem _ (t 6) in
      record {
        some = n.columns.some;
        few = n.few;
        depths = n.columns.cells.depths;
        discharges = n.columns.cells.discharges;
        masses = n.columns.cells.masses;
        bases = n.columns.cells.bases;
        interfaces = n.columns.interfaces;
        length_least = leb-true _ _ (x 0);
        length_most = leb-true _ _ (x 1);
        left = boundary_sound _ (boundaries 0);
        right = boundary_sound _ (boundaries 1);
        boundaries = t 2;
        cell = cells_sound _ _ _ _ _ (t 4);
        water = λ i l. carried_sound _ _ _ _ _ (all_at _ (length s.depth) i (water 0) (omega arith));
        shut_left = shut_sound _ _ (water 1);
        shut_right = rw n.columns.cells.depths at (shut_sound (right_boundary s.held.boundaries).kind (carried_at s (length s.depth)) (water 2));
        outlets = t 5;
        totals = t 7;
      }

  pub given_fits : first_refusal (record_grounds s es) ≡ Ok tt → boundaries_fit es ≡ true
  given_fits e = stood (record_grounds s es) e 3

  pub stands : Sound s → boundaries_fit es ≡ true → first_refusal (record_grounds s es) ≡ Ok tt
  unfolding cell_length_fits cells_fit carried_fit carried_cells_fit
  stands k g =
      let lengths : LengthsSound (cells s) (length s.depth) (length s.discharge) (length s.mass) (length s.base) (length s.carried) = record {
        columns = record {
          cells = record { depths = k.depths; discharges = k.discharges; masses = k.masses; bases = k.bases };
          some = k.some;
          interfaces = k.interfaces;
        };
        few = k.few;
      } in
      let last = rw (← k.depths) at k.shut_right in
      go_on _ _ (lengths_stand _ _ _ _ _ _ lengths)
      (go_on _ _ (on _ _ (le-leb _ _ k.length_least) (only _ ∙ le-leb _ _ k.length_most))
      (go_on _ _ k.boundaries
      (go_on _ _ g
      (go_on _ _ (all_below_lem _ (cells s) (λ i l. cell_stands _ _ _ _ _ (k.cell i l)))
      (go_on _ _ k.outlets
      (go_on _ _ (on _ _ (all_below_lem _ (length s.depth) (λ i l. carried_stands _ _ _ _ _ (k.water i (omega arith))))
      (on _ _ (shut_stands _ _ k.shut_left) (only _ ∙ shut_stands _ _ last)))
      (last_one refusal.Ledger _ ∙ ap (pass_or refusal.Ledger) k.totals)))))))
