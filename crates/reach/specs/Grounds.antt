-- Document 01, 'Grounds for refusal, in checking order': the list, and grounds 4 to 9; document 02's 16.
use Rattle.std.specs.Prelude.{List, [], ◌∷◌, Bool, true, false, cond, ℕ, ◌+◌, ◌*◌, ℤ, pos, ◌+ℤ◌, ◌-ℤ◌, nat_abs, length, get_or, leb, ltb, eqb, Result, Ok, Err}
use Rattle.numbers.specs.Index.{all_of, all_below, sum}
use Rattle.numbers.specs.Signed.{eqℤ}
use Rattle.outlet.specs.Outlets.{outlets_most, want_most, outlet_at}
use Rattle.outlet.specs.declared.Outlet.{Outlet}
use Rattle.outlet.specs.declared.Outlets.{Outlets}
use Rattle.flux.specs.Limits.{depth_most, velocity_most, bed_most, concentration_most, cell_length_least, cell_length_most}
use Rattle.reach.specs.Limits.{cells_most, carried_most, total_most, wall, open_boundary, fed}
use Rattle.reach.specs.Reach.{Reach, left_boundary, right_boundary}
use Rattle.reach.specs.Parts.{outflow, drawn_from}
use Rattle.reach.specs.declared.boundary.Boundary.{Boundary}
use Rattle.reach.specs.declared.held.Held.{Held}
use Rattle.reach.specs.declared.ledger.Totals.{Totals}
use Rattle.reach.specs.declared.ledger.Ledger.{Ledger}
use Rattle.reach.specs.Refusals.{number}
use Rattle.reach.specs.declared.refusal.Refusal.{Refusal}
use Rattle.reach.specs.declared.refusal.Refusal.TheVariants as refusal

-- ---- the list

-- a ground for refusal, and whether the call stands it
pub record Ground : Type 0 where
  pub refusal : Refusal
  pub stands : Bool

abbrev pub ground : Refusal → Bool → Ground
ground r t = record { refusal = r; stands = t }

-- what a check comes to
abbrev pub Verdict : Type 0
Verdict = Result (Unit {0}) Refusal

-- the first ground, in checking order, that the call does not stand
unfoldable pub first_refusal : List Ground → Verdict
first_refusal [] = Ok tt
first_refusal (g ∷ gs) = cond g.stands (first_refusal gs) (Err g.refusal)

-- a verdict as the paper's number, 0 for none
abbrev pub number_of : Verdict → ℕ
number_of (Ok u) = 0
number_of (Err r) = number r

-- the verdict on one ground
abbrev pub pass_or : Refusal → Bool → Verdict
pass_or r true = Ok tt
pass_or r false = Err r

-- ---- 4: the bed column's length is in 1..512, and the other columns' lengths fit it
unfoldable pub lengths_fit : (bed depth discharge mass base carried : ℕ) → Bool
lengths_fit n h q m b c =
    all_of (leb 1 n ∷ leb n cells_most ∷ eqb h n ∷ eqb q n ∷ eqb m n ∷ eqb b n ∷ eqb c (n + 1) ∷ [])

-- ---- 5: X
unfoldable pub cell_length_fits : ℕ → Bool
cell_length_fits X = all_of (leb cell_length_least X ∷ leb X cell_length_most ∷ [])

-- ---- 6: a boundary keeps to its kind, and its reserved field (the paper's 'zero field') is 0

-- depth, discharge and concentration 0
unfoldable pub wall_fits : (depth concentration : ℕ) (discharge : ℤ) → Bool
wall_fits h k q = all_of (eqb h 0 ∷ eqb (nat_abs q) 0 ∷ eqb k 0 ∷ [])

-- depth and discharge 0, concentration 0..500,000
unfoldable pub open_fits : (depth concentration : ℕ) (discharge : ℤ) → Bool
open_fits h k q = all_of (eqb h 0 ∷ eqb (nat_abs q) 0 ∷ leb k concentration_most ∷ [])

-- depth 1..4,000,000, |discharge| ≤ 8,000 times depth, concentration as before
unfoldable pub fed_fits : (depth concentration : ℕ) (discharge : ℤ) → Bool
fed_fits h k q = all_of (leb 1 h ∷ leb h depth_most ∷ leb (nat_abs q) (velocity_most * h) ∷ leb k concentration_most ∷ [])

unfoldable pub kind_fits : (kind depth concentration : ℕ) (discharge : ℤ) → Bool
kind_fits kind h k q =
    cond (eqb kind wall) (wall_fits h k q) (cond (eqb kind open_boundary) (open_fits h k q) (cond (eqb kind fed) (fed_fits h k q) false))

unfoldable pub boundary_fits : Boundary → Bool
boundary_fits e = all_of (eqb e.reserved 0 ∷ kind_fits e.kind e.depth e.concentration e.discharge ∷ [])

unfoldable pub boundaries_fit : List Boundary → Bool
boundaries_fit es = all_of (boundary_fits (left_boundary es) ∷ boundary_fits (right_boundary es) ∷ [])

-- ---- 7: the values of a cell are in range
unfoldable pub cell_fits : (z : ℤ) (h : ℕ) (q : ℤ) (m b : ℕ) → Bool
cell_fits z h q m b =
    all_of
    (leb (nat_abs z) bed_most
    ∷ leb h depth_most
    ∷ leb (nat_abs q) (velocity_most * h)
    ∷ leb b depth_most
    ∷ leb m (concentration_most * b)
    ∷ [])

unfoldable pub cells_fit : List ℤ → List ℕ → List ℤ → List ℕ → List ℕ → Bool
cells_fit z h q m b =
    all_below (length z) (λ i. cell_fits (get_or z i (pos 0)) (get_or h i 0) (get_or q i (pos 0)) (get_or m i 0) (get_or b i 0))

-- ---- 16 (document 02, point 1), checked after 7: the list of outlets is no longer than 32, each is in one of the n cells, and no want is out of range
unfoldable pub outlet_fits : (n : ℕ) → Outlet → Bool
outlet_fits n o = all_of (ltb o.cell n ∷ leb o.want want_most ∷ [])

unfoldable pub outlets_fit : (n : ℕ) → Outlets → Bool
outlets_fit n os = all_of (leb os.count outlets_most ∷ all_below os.count (λ k. outlet_fits n (outlet_at os k)) ∷ [])

-- ---- 8: the carried water keeps its rules

-- at a cell of depth h and base depth b with l carried over its left, r over its right, and `drawn` by its outlets:
-- |c| ≤ 4,000,000, h = b + c(i) − c(i+1) − drawn, and max(c(i+1),0) + max(−c(i),0) + drawn ≤ b: no more left than the base depth
unfoldable pub carried_fits : (h b : ℕ) (l r : ℤ) (drawn : List ℕ) → Bool
carried_fits h b l r drawn =
    all_of
    (leb (nat_abs l) carried_most
    ∷ leb (nat_abs r) carried_most
    ∷ eqℤ (pos h) (pos b +ℤ l -ℤ r -ℤ pos (sum drawn))
    ∷ leb (outflow l r drawn) b
    ∷ [])

-- at a wall c is 0
unfoldable pub shut_fits : (kind : ℕ) (c : ℤ) → Bool
shut_fits kind c = cond (eqb kind wall) (eqb (nat_abs c) 0) true

-- `drawn` by cell
unfoldable pub carried_cells_fit : (h b : List ℕ) (c : List ℤ) (drawn : ℕ → List ℕ) → Bool
carried_cells_fit h b c drawn =
    all_below (length h) (λ i. carried_fits (get_or h i 0) (get_or b i 0) (get_or c i (pos 0)) (get_or c (i + 1) (pos 0)) (drawn i))

unfoldable pub carried_fit : (h b : List ℕ) (c : List ℤ) (drawn : ℕ → List ℕ) (leftKind rightKind : ℕ) → Bool
carried_fit h b c drawn leftKind rightKind =
    all_of
    (carried_cells_fit h b c drawn
    ∷ shut_fits leftKind (get_or c 0 (pos 0))
    ∷ shut_fits rightKind (get_or c (length h) (pos 0))
    ∷ [])

-- ---- 9: no total exceeds 10^18
unfoldable pub totals_fit : Totals → Bool
totals_fit t =
    all_of (leb t.water_in total_most ∷ leb t.water_out total_most ∷ leb t.mass_in total_most ∷ leb t.mass_out total_most ∷ [])

unfoldable pub ledger_fits : Ledger → Bool
ledger_fits k = all_of (totals_fit k.left ∷ totals_fit k.right ∷ [])

-- 9 includes the totals of the outlets
unfoldable pub outlet_totals_fit : Outlet → Bool
outlet_totals_fit o = all_of (leb o.water total_most ∷ leb o.mass total_most ∷ [])

unfoldable pub all_totals_fit : Held → Bool
all_totals_fit h = all_of (ledger_fits h.ledger ∷ all_below h.outlets.count (λ k. outlet_totals_fit (outlet_at h.outlets k)) ∷ [])

-- ---- grounds 4 to 9, and 16, of a call on the record s that is given the pair of boundaries es to hold; a call that is given none
-- holds the pair that it has
abbrev pub record_grounds : Reach → List Boundary → List Ground
record_grounds s es =
    ground refusal.Lengths (lengths_fit (length s.bed) (length s.depth) (length s.discharge) (length s.mass) (length s.base) (length s.carried))
    ∷ ground refusal.CellLength (cell_length_fits s.cell_length)
    ∷ ground refusal.Boundaries (boundaries_fit s.held.boundaries)
    ∷ ground refusal.Boundaries (boundaries_fit es)
    ∷ ground refusal.Values (cells_fit s.bed s.depth s.discharge s.mass s.base)
    ∷ ground refusal.Outlets (outlets_fit (length s.bed) s.held.outlets)
    ∷ ground refusal.Carried (carried_fit s.depth s.base s.carried (drawn_from s.held.outlets) (left_boundary s.held.boundaries).kind (right_boundary s.held.boundaries).kind)
    ∷ ground refusal.Ledger (all_totals_fit s.held)
    ∷ []
