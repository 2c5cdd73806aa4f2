-- Document 01, 'The sheet' (reading) and grounds 1 to 7 at opening; document 02, point 1: the outlets of a record that is opened, and ground 16.
use Rattle.std.specs.Prelude.{◌≡◌, Bool, List, [], ◌∷◌, ℕ, ◌+◌, eqb, ℤ, pos, length, replicate}
use Rattle.numbers.specs.Index.{all_of}
use Rattle.outlet.specs.Outlets.{cleared}
use Rattle.outlet.specs.declared.Outlets.{Outlets}
use Rattle.reach.specs.Reach.{Reach, reach_of, no_boundary, held_with}
use Rattle.reach.specs.Grounds.{Ground, ground, first_refusal, cell_length_fits, boundaries_fit, cells_fit, outlets_fit}
use Rattle.reach.specs.Outcome.{Outcome, outcome}
use Rattle.reach.specs.declared.held.Held.{Held}
use Rattle.reach.specs.declared.ledger.Totals.{Totals}
use Rattle.reach.specs.declared.ledger.Ledger.{Ledger}
use Rattle.encoding.specs.FromBytes.{twos, column_at}
use Rattle.sheet.specs.Header.{count_of, cell_length_of, beds_at, depths_at, discharges_at, masses_at, boundaries_of, edition_fits, size_fits, spans_of, columns_clear}
use Rattle.sheet.specs.declared.opening.OpenAnswer.{OpenAnswer}
use Rattle.reach.specs.declared.refusal.Refusal.TheVariants as refusal

-- an empty ledger (the paper's 'book')
abbrev pub empty_totals : Totals
empty_totals = record { water_in = 0; water_out = 0; mass_in = 0; mass_out = 0 }

abbrev pub empty_ledger : Ledger
empty_ledger = record { left = empty_totals; right = empty_totals }

-- the boundaries of a sheet, an empty ledger, and the outlets: 'the sheet does not hold it, so a record read back has the outlets lent to that
-- opening', and the opening sets their drawn water and totals to 0
abbrev pub held_of : List ℕ → (lent : Outlets) → Held
held_of s os = held_with (boundaries_of s) empty_ledger (cleared os)

-- the record of a sheet with the outlets lent to its opening: b = h, c = 0, an empty ledger
unfoldable pub sheet_record : List ℕ → (lent : Outlets) → Reach
sheet_record s os = record {
  bed = column_at (twos 4) 4 s (beds_at s) (count_of s);
  depth = column_at (λ v. v) 4 s (depths_at s) (count_of s);
  discharge = column_at (twos 8) 8 s (discharges_at s) (count_of s);
  mass = column_at (λ v. v) 8 s (masses_at s) (count_of s);
  base = column_at (λ v. v) 4 s (depths_at s) (count_of s);
  carried = replicate (count_of s + 1) (pos 0);
  cell_length = cell_length_of s;
  held = held_of s os;
}

-- what an opening holds before it: it is given no boundaries and no ledger, so all of them are 0; the outlets are those that it is lent
abbrev pub none_held : Outlets → Held
none_held os = held_with (no_boundary ∷ no_boundary ∷ []) empty_ledger os

-- columns and outlets as they are lent to an opening, which is given no X either
abbrev pub lent : List ℤ → List ℕ → List ℤ → List ℕ → List ℕ → List ℤ → Outlets → Reach
lent z h q m b c os = reach_of z h q m b c 0 (none_held os)

-- 4, at opening: the bed column's length is n, and the other columns' lengths fit it
unfoldable pub lent_fit : (n bed depth discharge mass base carried : ℕ) → Bool
lent_fit n z h q m b c = all_of (eqb z n ∷ eqb h n ∷ eqb q n ∷ eqb m n ∷ eqb b n ∷ eqb c (n + 1) ∷ [])

-- opening uses 1 to 7, then 16, 'checked after 7', of the outlets that it is lent; the lengths are those of the lent columns
abbrev pub open_grounds : List ℕ → (bed depth discharge mass base carried : ℕ) → Outlets → List Ground
open_grounds s z h q m b c os =
    let r = sheet_record s os in
    ground refusal.Edition (edition_fits s)
    ∷ ground refusal.Size (size_fits s)
    ∷ ground refusal.Layout (columns_clear (length s) (spans_of s))
    ∷ ground refusal.Lengths (lent_fit (count_of s) z h q m b c)
    ∷ ground refusal.CellLength (cell_length_fits (cell_length_of s))
    ∷ ground refusal.Boundaries (boundaries_fit (boundaries_of s))
    ∷ ground refusal.Values (cells_fit r.bed r.depth r.discharge r.mass r.base)
    ∷ ground refusal.Outlets (outlets_fit (count_of s) os)
    ∷ []

-- an opening that none of them stops leaves the sheet's record in the lent columns, with the outlets lent; a refused one leaves all of them as they came
unfoldable pub opening : List ℕ → Reach → Outcome
opening s l =
    outcome
    (first_refusal (open_grounds s (length l.bed) (length l.depth) (length l.discharge) (length l.mass) (length l.base) (length l.carried) l.held.outlets))
    l (sheet_record s l.held.outlets)

-- the answer of a refused opening: its number, the outlets as they were lent, and 0 in the other fields
abbrev pub unopened_by : ℕ → Outlets → OpenAnswer
unopened_by n os = record { refusal = n; cell_length = 0; held = none_held os }

-- an opening came out as o says: every field of its answer, and every column
pub record OpenCameTo (o : Outcome) (r : OpenAnswer) (bed : List ℤ) (depth : List ℕ) (discharge : List ℤ) (mass base : List ℕ) (carried : List ℤ) : Type 0 where
  pub refusal_is : r.refusal ≡ o.refusal
  pub length_is : r.cell_length ≡ o.reach.cell_length
  pub held_is : r.held ≡ o.reach.held
  pub bed_is : bed ≡ o.reach.bed
  pub depth_is : depth ≡ o.reach.depth
  pub discharge_is : discharge ≡ o.reach.discharge
  pub mass_is : mass ≡ o.reach.mass
  pub base_is : base ≡ o.reach.base
  pub carried_is : carried ≡ o.reach.carried
