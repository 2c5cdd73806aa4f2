-- Not the paper's: what the inner functions require and give. A reader of the model may skip this file.
use Rattle.std.specs.Prelude.{◌≡◌, cond, List, ℕ, ◌+◌, ◌-◌, ◌*◌, ◌≤◌, ◌<◌, eqb, ℤ, length, get_or}
use Rattle.numbers.specs.Index.{sum_below, tabulate}
use Rattle.flux.specs.Limits.{depth_most, concentration_most}
use Rattle.outlet.specs.Outlets.{outlets_most, outlet_at}
use Rattle.outlet.specs.declared.Outlets.{Outlets}
use Rattle.reach.specs.Limits.{cells_most, total_most}
use Rattle.reach.specs.Parts.{drawn_from}
use Rattle.mass.specs.Transport.{MassColumns, mass_columns, cell_outflow, moved_cell}

-- the mass of a full cell at the highest concentration
abbrev pub mass_most : ℕ
mass_most = 2_000_000_000_000

-- mass m in a cell of base depth b that gave the water P
pub record Giving (m b P : ℕ) : Type 0 where
  pub deep : b ≤ depth_most
  pub rich : m ≤ concentration_most * b
  pub covered : P ≤ b

-- at cell i, where it is one
pub record ReadyAt (s : MassColumns) (i : ℕ) : Type 0 where
  pub bases : length s.base ≡ length s.mass
  pub interfaces : length s.carried ≡ length s.mass + 1
  pub giving : i < length s.mass → Giving (get_or s.mass i 0) (get_or s.base i 0) (cell_outflow s i)
  pub entering : s.right_inflow ≤ mass_most

pub record Ready (s : MassColumns) : Type 0 where
  pub each : (i : ℕ) → ReadyAt s i
  pub entering : s.left_inflow ≤ mass_most

-- the column of masses that a transport leaves
abbrev pub moved_mass : MassColumns → List ℕ
moved_mass s = tabulate (length s.mass) (moved_cell s)

-- outlets in the cells of these columns, whose drawn water they are, with totals that have room
pub record OutletsReady (m b : List ℕ) (c : List ℤ) (os : Outlets) : Type 0 where
  pub few : os.count ≤ outlets_most
  pub cells : length m ≤ cells_most
  pub inside : (k : ℕ) → k < os.count → (outlet_at os k).cell < length m
  pub totals : (k : ℕ) → k < os.count → (outlet_at os k).mass ≤ total_most
  pub each : (i : ℕ) → ReadyAt (mass_columns m b c (drawn_from os) 0 0) i

-- what outlet k of cell i has gained in mass from one list to another, one of another cell nothing; and what all outlets of cell i have
abbrev pub gain_at : (before after : Outlets) (i k : ℕ) → ℕ
gain_at before after i k = cond (eqb (outlet_at before k).cell i) ((outlet_at after k).mass - (outlet_at before k).mass) 0

unfoldable pub gains : (before after : Outlets) (i : ℕ) → ℕ
gains before after i = sum_below before.count (gain_at before after i)

-- outlets of these cells that have gained no more than is there
pub record Gained (m : List ℕ) (before after : Outlets) : Type 0 where
  pub few : before.count ≤ outlets_most
  pub inside : (k : ℕ) → k < before.count → (outlet_at before k).cell < length m
  pub cells : length m ≤ cells_most
  pub grown : (k : ℕ) → k < before.count → (outlet_at before k).mass ≤ (outlet_at after k).mass
  pub most : (i : ℕ) → i < length m → gains before after i ≤ get_or m i 0
