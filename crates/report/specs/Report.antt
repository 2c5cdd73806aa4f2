-- Document 01, 'Figures to meet': what the program prints, in bytes. 32 is a space, 10 the end of a line.
use Rattle.std.specs.Prelude.{cond, List, [], ◌∷◌, ◌++◌, ℕ, zero, suc, eqb, ℤ, pos, length, get_or}
use Rattle.reach.specs.Outcome.{Outcome}
use Rattle.reach.specs.declared.ledger.Totals.{Totals}
use Rattle.reach.specs.declared.ledger.Ledger.{Ledger}
use Rattle.text.specs.Text.{decimal, signed_decimal}

-- 'cells ', 'book' and 'refused '
unfoldable pub cells_word : List ℕ
cells_word = 99 ∷ 101 ∷ 108 ∷ 108 ∷ 115 ∷ 32 ∷ []

unfoldable pub ledger_word : List ℕ
ledger_word = 98 ∷ 111 ∷ 111 ∷ 107 ∷ []

unfoldable pub refused_word : List ℕ
refused_word = 114 ∷ 101 ∷ 102 ∷ 117 ∷ 115 ∷ 101 ∷ 100 ∷ 32 ∷ []

unfoldable pub spaced : ℕ → List ℕ
spaced n = (32 ∷ []) ++ decimal n

-- a line per cell: index from 0, depth, discharge, mass
unfoldable pub cell_line : (i h : ℕ) (q : ℤ) (m : ℕ) → List ℕ
cell_line i h q m = decimal i ++ spaced h ++ (32 ∷ []) ++ signed_decimal q ++ spaced m ++ (10 ∷ [])

-- the lines of the first k cells
unfoldable pub cell_lines : (h : List ℕ) (q : List ℤ) (m : List ℕ) (k : ℕ) → List ℕ
cell_lines h q m zero = []
cell_lines h q m (suc k) = cell_lines h q m k ++ cell_line k (get_or h k 0) (get_or q k (pos 0)) (get_or m k 0)

-- the totals of one boundary in the order of document 01
unfoldable pub totals_text : Totals → List ℕ
totals_text t = spaced t.water_in ++ spaced t.water_out ++ spaced t.mass_in ++ spaced t.mass_out

-- `cells n` and a line per cell
unfoldable pub columns_text : (h : List ℕ) (q : List ℤ) (m : List ℕ) → List ℕ
columns_text h q m = cells_word ++ decimal (length h) ++ (10 ∷ []) ++ cell_lines h q m (length h)

-- `book` with eight totals: left, then right
unfoldable pub ledger_text : Ledger → List ℕ
ledger_text k = ledger_word ++ totals_text k.left ++ totals_text k.right ++ (10 ∷ [])

unfoldable pub report_text : (h : List ℕ) (q : List ℤ) (m : List ℕ) → Ledger → List ℕ
report_text h q m k = columns_text h q m ++ ledger_text k

-- a refusal prints only `refused` and the number
unfoldable pub refused_text : ℕ → List ℕ
refused_text n = refused_word ++ decimal n ++ (10 ∷ [])

unfoldable pub outcome_text : Outcome → List ℕ
outcome_text o =
    let s = o.reach in
    cond (eqb o.refusal 0) (report_text s.depth s.discharge s.mass s.held.ledger) (refused_text o.refusal)
