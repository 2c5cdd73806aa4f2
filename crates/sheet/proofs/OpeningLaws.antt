-- Laws of opening: what a passed ground tells, what the functions find is what the definitions say, what each outcome is, and that an opened
-- record stands grounds 4 to 9 and 16. Assumes nothing.
use mathlib.Core.Path.{◌≡◌, refl, sym, ap, ◌∙◌}
use mathlib.Core.Bool.{Bool, true, false, cond, ◌&&◌}
use mathlib.Core.List.{List, ◌∷◌}
use Prim.Native.Nat.{ℕ, ◌+◌, ◌*◌, ◌≤◌, ◌<◌}
use native.Mathlib.Omega.{arith}
use borrow.Author.Tests.{leb-true, eqb-true}
use lib.Dec.{leb, eqb}
use lib.IntN.{ℤ, pos}
use lib.ListN.{length, get_or, replicate, get_or-replicate, length-replicate}
use Rattle.numbers.specs.Index.{all_of, all_below, sum, tabulate}
use Rattle.numbers.proofs.IndexLaws.{and_left, and_right, all_of_lem, all_at, all_below_lem, all_same, on, only, length_tabulate, get_or_tabulate, sum_tabulate, sum_none}
use Rattle.outlet.specs.Outlets.{outlets_most, outlet_at, cleared, from_cell}
use Rattle.outlet.specs.declared.Outlet.{Outlet}
use Rattle.outlet.specs.declared.Outlets.{Outlets}
use Rattle.outlet.proofs.ClearingLaws.{cleared_at, cleared_count}
use Rattle.reach.specs.Limits.{cells_most}
use Rattle.reach.specs.Reach.{Reach, reach_of}
use Rattle.reach.specs.Grounds.{ground, first_refusal, cell_length_fits, boundaries_fit, cell_fits, cells_fit, outlet_fits, outlets_fit, totals_fit, ledger_fits, outlet_totals_fit, all_totals_fit, record_grounds}
use Rattle.reach.specs.Parts.{drawn_from}
use Rattle.reach.specs.Outcome.{Outcome, outcome}
use Rattle.reach.specs.declared.boundary.Boundary.{Boundary}
use Rattle.reach.specs.Grounds.{Verdict}
use Rattle.reach.proofs.GroundsLaws.{stood, number_above}
use Rattle.reach.proofs.Sound.{Sound, stands, CarriedSound, none_carried_lem, boundary_sound, cells_sound, outlets_few}
use Rattle.encoding.specs.FromBytes.{number_at, twos, column_at}
use Rattle.sheet.specs.Header.{header_size, count_of, beds_at, depths_at, discharges_at, masses_at, edition_fits, size_fits, Span, inside, apart_from, columns_clear, spans_of}
use Rattle.sheet.specs.Ranges.{LayoutOf, Within, cell_at}
use Rattle.sheet.specs.Opening.{empty_ledger, held_of, sheet_record, lent, lent_fit, open_grounds, opening, unopened_by, OpenCameTo}
use Rattle.sheet.specs.declared.header.Layout.{Layout}
use Rattle.sheet.specs.declared.opening.OpenAnswer.{OpenAnswer}
use Rattle.std.specs.Prelude.{Ok, Err}
use Rattle.reach.specs.Refusals.{number}
use Rattle.reach.specs.declared.refusal.Refusal.{Refusal}
use Rattle.reach.specs.declared.refusal.Refusal.TheVariants as refusal

-- ---- the values of a cell

pub cell_at_is : (s : List ℕ) (l : Layout) (i : ℕ) {z : ℤ} {h : ℕ} {q : ℤ} {m : ℕ}
    → z ≡ twos 4 (number_at 4 s (l.beds + 4 * i)) → h ≡ number_at 4 s (l.depths + 4 * i)
    → q ≡ twos 8 (number_at 8 s (l.discharges + 8 * i)) → m ≡ number_at 8 s (l.masses + 8 * i)
    → cell_fits z h q m h ≡ cell_at s l i
unfolding cell_at
cell_at_is s l i a b c d = rw (a, b, c, d) refl

pub values_are : (s : List ℕ) (os : Outlets) (l : Layout) → LayoutOf s l →
    let r = sheet_record s os in all_below (count_of s) (cell_at s l) ≡ cells_fit r.bed r.depth r.discharge r.mass r.base
unfolding cells_fit sheet_record column_at cell_at
values_are s os l k =
    let n = count_of s in
    rw (length_tabulate n (λ i. twos 4 (number_at 4 s (beds_at s + 4 * i))))
    (all_same _ _ n (λ i j.
    rw (
      get_or_tabulate n (λ i. twos 4 (number_at 4 s (beds_at s + 4 * i))) i (pos 0) j,
      get_or_tabulate n (λ i. number_at 4 s (depths_at s + 4 * i)) i 0 j,
      get_or_tabulate n (λ i. twos 8 (number_at 8 s (discharges_at s + 8 * i))) i (pos 0) j,
      get_or_tabulate n (λ i. number_at 8 s (masses_at s + 8 * i)) i 0 j,
      k.beds_are,
      k.depths_are,
      k.discharges_are,
      k.masses_are,
    ) refl))

-- ---- what a passed ground tells

pub edition_long : (s : List ℕ) → edition_fits s ≡ true → header_size ≤ length s
unfolding edition_fits
edition_long s e = leb-true _ _ (all_of_lem _ e 0)

pub size_some : (s : List ℕ) → size_fits s ≡ true → 1 ≤ count_of s
unfolding size_fits
size_some s e = leb-true _ _ (all_of_lem _ e 0)

pub size_few : (s : List ℕ) → size_fits s ≡ true → count_of s ≤ cells_most
unfolding size_fits
size_few s e = leb-true _ _ (all_of_lem _ e 1)

span_ends : (end : ℕ) (c : Span) (cs : List Span) → columns_clear end (c ∷ cs) ≡ true → c.start + c.size ≤ end
unfolding columns_clear inside
span_ends end c cs e =
    leb-true _ _
    (and_right (leb header_size c.start) (leb (c.start + c.size) end)
    (and_left (inside end c) (apart_from c cs) (and_left (inside end c && apart_from c cs) (columns_clear end cs) e)))

span_rest : (end : ℕ) (c : Span) (cs : List Span) → columns_clear end (c ∷ cs) ≡ true → columns_clear end cs ≡ true
unfolding columns_clear
span_rest end c cs e = and_right (inside end c && apart_from c cs) (columns_clear end cs) e

-- four columns that are clear lie within the sheet
pub within : (s : List ℕ) (l : Layout) → LayoutOf s l → size_fits s ≡ true → columns_clear (length s) (spans_of s) ≡ true → Within s l (count_of s)
unfolding spans_of
within s l k f e =
    let e₁ = span_rest _ _ _ e in
    let e₂ = span_rest _ _ _ e₁ in
    let e₃ = span_rest _ _ _ e₂ in
    let few = size_few s f in
    record {
      few = omega (arith, few);
      beds = omega (arith, span_ends _ _ _ e, k.beds_are);
      depths = omega (arith, span_ends _ _ _ e₁, k.depths_are);
      discharges = omega (arith, span_ends _ _ _ e₂, k.discharges_are);
      masses = omega (arith, span_ends _ _ _ e₃, k.masses_are);
    }

-- the lent columns have the lengths of the sheet's
pub record Lent (n z h q m b c : ℕ) : Type 0 where
  pub beds : z ≡ n
  pub depths : h ≡ n
  pub discharges : q ≡ n
  pub masses : m ≡ n
  pub bases : b ≡ n
  pub carried : c ≡ n + 1

pub lent_are : (n z h q m b c : ℕ) → lent_fit n z h q m b c ≡ true → Lent n z h q m b c
unfolding lent_fit
lent_are n z h q m b c e =
    let t = all_of_lem _ e in
    record {
      beds = eqb-true _ _ (t 0);
      depths = eqb-true _ _ (t 1);
      discharges = eqb-true _ _ (t 2);
      masses = eqb-true _ _ (t 3);
      bases = eqb-true _ _ (t 4);
      carried = eqb-true _ _ (t 5);
    }

-- ---- what each outcome is

module _ (s : List ℕ) (l : Reach) where
  -- what grounds 1 to 7 and 16 say of the sheet, of columns as long as those of l and of the outlets of l
  abbrev pub check : Verdict
  check = first_refusal (open_grounds s (length l.bed) (length l.depth) (length l.discharge) (length l.mass) (length l.base) (length l.carried) l.held.outlets)

  -- every statement about it, by the two ways it can go
  pub by_opening : (P : Verdict → Type 0) → ((r : Refusal) → 0 < number r → P (Err r)) → (check ≡ Ok tt → P (Ok tt)) → P check
  by_opening P stays opens = go check refl
    where
      go : (k : Verdict) → check ≡ k → P k
      go (Ok u) e = opens e
      go (Err r) e = stays r (number_above r)

  pub opened_passes : (opening s l).refusal ≡ 0 → check ≡ Ok tt
  unfolding opening
  opened_passes = by_opening (λ k. (outcome k l (sheet_record s l.held.outlets)).refusal ≡ 0 → k ≡ Ok tt) (λ n p z. absurd (omega arith)) (λ e z. refl)

  pub stopped : (r : Refusal) → check ≡ Err r → opening s l ≡ record { refusal = number r; reach = l }
  unfolding opening
  stopped r e = ap (λ (k : Verdict). outcome k l (sheet_record s l.held.outlets)) e

  pub accepted : check ≡ Ok tt → opening s l ≡ record { refusal = 0; reach = sheet_record s l.held.outlets }
  unfolding opening
  accepted e = ap (λ (k : Verdict). outcome k l (sheet_record s l.held.outlets)) e

  -- a refused opening leaves the lent columns and outlets as they came
  pub stayed : (n : Refusal) {r : OpenAnswer} → l ≡ lent l.bed l.depth l.discharge l.mass l.base l.carried l.held.outlets → check ≡ Err n
      → r ≡ unopened_by (number n) l.held.outlets
      → OpenCameTo (opening s l) r l.bed l.depth l.discharge l.mass l.base l.carried
  stayed n {r} k e f =
      let o = stopped n e in
      rw (o, f) (record {
        refusal_is = refl;
        length_is = ap (λ (x : Reach). x.cell_length) (sym k);
        held_is = ap (λ (x : Reach). x.held) (sym k);
        bed_is = refl;
        depth_is = refl;
        discharge_is = refl;
        mass_is = refl;
        base_is = refl;
        carried_is = refl;
      })

-- ---- outlets that an opening has cleared

module _ (os : Outlets) (few : os.count ≤ outlets_most) where
  -- where they stood ground 16 they still stand it
  cleared_fits : (n : ℕ) → outlets_fit n os ≡ true → outlets_fit n (cleared os) ≡ true
  unfolding outlets_fit outlet_fits
  cleared_fits n e =
      let t = all_of_lem _ e in
      rw (cleared_count os)
      (on _ _ (t 0) (only _ ∙ all_below_lem _ os.count (λ k l. ap (outlet_fits n) (cleared_at os few k l) ∙ all_at _ os.count k (t 1) l)))

  -- nothing is drawn of any cell
  cleared_drawn : (i : ℕ) → sum (drawn_from (cleared os) i) ≡ 0
  unfolding from_cell
  cleared_drawn i =
      let from : Outlet → ℕ = λ o. cond (eqb o.cell i) o.drawn 0 in
      sum_tabulate (cleared os).count (λ k. from (outlet_at (cleared os) k))
      ∙ sum_none (cleared os).count (λ k. from (outlet_at (cleared os) k)) (λ k l. ap from (cleared_at os few k (rw (cleared_count os) at l)) ∙ none (eqb (outlet_at os k).cell i))
    where
      none : (b : Bool) → ◌≡◌ {A = ℕ} (cond b 0 0) 0
      none true = refl
      none false = refl

  -- and no total exceeds its limit
  cleared_totals : all_below (cleared os).count (λ k. outlet_totals_fit (outlet_at (cleared os) k)) ≡ true
  unfolding outlet_totals_fit all_of
  cleared_totals = rw (cleared_count os) (all_below_lem _ os.count (λ k l. ap outlet_totals_fit (cleared_at os few k l)))

-- ---- an opened record stands grounds 4 to 9 and 16

empty_fits : ledger_fits empty_ledger ≡ true
unfolding ledger_fits totals_fit all_of
empty_fits = refl

opened_totals : (s : List ℕ) (os : Outlets) → os.count ≤ outlets_most → all_totals_fit (held_of s os) ≡ true
unfolding all_totals_fit
opened_totals s os few = on _ _ empty_fits (only _ ∙ cleared_totals os few)

module _ (s : List ℕ) (z h q m b c : ℕ) (os : Outlets) (e : first_refusal (open_grounds s z h q m b c os) ≡ Ok tt) where
  ground_at : (k : ℕ) → (get_or (open_grounds s z h q m b c os) k (ground refusal.Edition true)).stands ≡ true
  ground_at = stood (open_grounds s z h q m b c os) e

  outlets_count : os.count ≤ outlets_most
  outlets_count = outlets_few (count_of s) os (ground_at 7)

  still : (d k n : ℕ) → k < n → CarriedSound d d (get_or (replicate (n + 1) (pos 0)) k (pos 0)) (get_or (replicate (n + 1) (pos 0)) (k + 1) (pos 0)) (drawn_from (cleared os) k)
  still d k n l =
      rw (get_or-replicate (n + 1) k (pos 0) (pos 0) (omega arith), get_or-replicate (n + 1) (k + 1) (pos 0) (pos 0) (omega arith))
      (none_carried_lem d (drawn_from (cleared os) k) (cleared_drawn os outlets_count k))

  pub opened_sound : Sound (sheet_record s os)
  unfolding sheet_record column_at cell_length_fits boundaries_fit
  opened_sound =
      let n = count_of s in
      let x = all_of_lem _ (ground_at 4) in
      let boundaries = all_of_lem _ (ground_at 5) in
      let beds = length_tabulate n (λ i. twos 4 (number_at 4 s (beds_at s + 4 * i))) in
      record {
        some = rw beds (size_some s (ground_at 1));
        few = rw beds (size_few s (ground_at 1));
        depths = length_tabulate n _ ∙ sym beds;
        discharges = length_tabulate n _ ∙ sym beds;
        masses = length_tabulate n _ ∙ sym beds;
        bases = length_tabulate n _ ∙ sym beds;
        interfaces = length-replicate (n + 1) (pos 0) ∙ ap (λ (k : ℕ). k + 1) (sym beds);
        length_least = leb-true _ _ (x 0);
        length_most = leb-true _ _ (x 1);
        left = boundary_sound _ (boundaries 0);
        right = boundary_sound _ (boundaries 1);
        boundaries = ground_at 5;
        cell = cells_sound _ _ _ _ _ (ground_at 6);
        water = λ i j. still (get_or (tabulate n (λ k. number_at 4 s (depths_at s + 4 * k))) i 0) i n (omega (arith, beds));
        shut_left = λ w. get_or-replicate (n + 1) 0 (pos 0) (pos 0) (omega arith);
        shut_right = λ w. get_or-replicate (n + 1) _ (pos 0) (pos 0) (omega (arith, beds));
        outlets = rw beds (cleared_fits os outlets_count n (ground_at 7));
        totals = opened_totals s os outlets_count;
      }

pub opened_stands : (s : List ℕ) (l : Reach) (gs : List Boundary) → (opening s l).refusal ≡ 0 → boundaries_fit gs ≡ true
    → first_refusal (record_grounds (opening s l).reach gs) ≡ Ok tt
opened_stands s l gs e g =
    let p = opened_passes s l e in
    rw (accepted s l p) (stands (sheet_record s l.held.outlets) gs (opened_sound s _ _ _ _ _ _ l.held.outlets p) g)

-- the record that an opening left in the columns, with X, boundaries, ledger and outlets of its answer
pub left_by_opening : {o : Outcome} {r : OpenAnswer} {z : List ℤ} {h : List ℕ} {q : List ℤ} {m b : List ℕ} {c : List ℤ} → OpenCameTo o r z h q m b c
    → reach_of z h q m b c r.cell_length r.held ≡ o.reach
left_by_opening {o} k =
    rw (k.bed_is, k.depth_is, k.discharge_is, k.mass_is, k.base_is, k.carried_is, k.length_is, k.held_is) refl
