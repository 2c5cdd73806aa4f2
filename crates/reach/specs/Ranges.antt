-- Not the paper's: what the inner functions require and give. A reader of the model may skip this file.
use Rattle.std.specs.Prelude.{◌≡◌, List, [], ◌∷◌, ℕ, ◌+◌, ◌≤◌, ◌<◌, min, ℤ, length, get_or}
use Rattle.numbers.specs.Index.{tabulate}
use Rattle.outlet.specs.Outlets.{outlets_most, outlet_at}
use Rattle.outlet.specs.declared.Outlets.{Outlets}
use Rattle.drawing.specs.Ranges.{by_cell}
use Rattle.flux.specs.Limits.{depth_most}
use Rattle.reach.specs.Limits.{cells_most}

-- the lengths of the five columns of cells agree
pub record CellLengths (z h q m b : ℕ) : Type 0 where
  pub depths : h ≡ z
  pub discharges : q ≡ z
  pub masses : m ≡ z
  pub bases : b ≡ z

-- and there is one interface more than cells, of which there is one at least
pub record ColumnLengths (z h q m b c : ℕ) : Type 0 where
  pub cells : CellLengths z h q m b
  pub some : 1 ≤ z
  pub interfaces : c ≡ z + 1

-- depths and base depths are in range, and there is one interface more than cells, of which there is one at least
pub record CarriedColumns (h b : List ℕ) (c : List ℤ) : Type 0 where
  pub some : 1 ≤ length h
  pub few : length h ≤ cells_most
  pub bases : length b ≡ length h
  pub interfaces : length c ≡ length h + 1
  pub deep : (i : ℕ) → i < length h → get_or h i 0 ≤ depth_most
  pub base : (i : ℕ) → i < length h → get_or b i 0 ≤ depth_most

-- and what is drawn of each cell is far below what 64 bits hold
pub record CarriedLengths (h b : List ℕ) (c : List ℤ) (drawn : List ℕ) : Type 0 where
  pub columns : CarriedColumns h b c
  pub long : length h ≤ length drawn
  pub drawn_most : (i : ℕ) → i < length h → get_or drawn i 0 ≤ 1_000_000_000

-- what is drawn of each cell, as one number
abbrev pub alone : List ℕ → (i : ℕ) → List ℕ
alone d i = get_or d i 0 ∷ []

-- of no cell anything: what a list without outlets has drawn
abbrev pub undrawn : (i : ℕ) → List ℕ
undrawn i = []

-- what the outlets of cell i have drawn together, each cut at one more than any base depth: no such sum passes 64 bits, whatever a list holds, and
-- ground 8 says the same of it (`carried_cut`)
abbrev pub cut_drawn : Outlets → (i : ℕ) → ℕ
cut_drawn os = by_cell os (tabulate outlets_most (λ k. min (outlet_at os k).drawn 4_000_001))
