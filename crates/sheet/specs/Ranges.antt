-- Not the paper's: what the inner functions require and give. A reader of the model may skip this file.
use Rattle.std.specs.Prelude.{◌≡◌, Bool, List, ℕ, ◌+◌, ◌*◌, ◌≤◌, ◌<◌, length}
use Rattle.reach.specs.Grounds.{cell_fits}
use Rattle.encoding.specs.FromBytes.{number_at, twos}
use Rattle.sheet.specs.Header.{beds_at, depths_at, discharges_at, masses_at}
use Rattle.sheet.specs.declared.header.Layout.{Layout}

-- a number of 4 bytes
abbrev pub Offset : ℕ → Type 0
Offset n = n < 4_294_967_296

-- where the columns of the sheet s start
pub record LayoutOf (s : List ℕ) (l : Layout) : Type 0 where
  pub beds_are : l.beds ≡ beds_at s
  pub depths_are : l.depths ≡ depths_at s
  pub discharges_are : l.discharges ≡ discharges_at s
  pub masses_are : l.masses ≡ masses_at s
  pub beds_fit : Offset l.beds
  pub depths_fit_lem : Offset l.depths
  pub discharges_fit : Offset l.discharges
  pub masses_fit : Offset l.masses

-- the four columns of n cells lie within the sheet
pub record Within (s : List ℕ) (l : Layout) (n : ℕ) : Type 0 where
  -- far above any reach: an index fits its type
  pub few : n ≤ 1_000_000
  pub beds : l.beds + 4 * n ≤ length s
  pub depths : l.depths + 4 * n ≤ length s
  pub discharges : l.discharges + 8 * n ≤ length s
  pub masses : l.masses + 8 * n ≤ length s

-- the values of cell i as they stand in the sheet are in range; its base depth is its depth
unfoldable pub cell_at : List ℕ → Layout → ℕ → Bool
cell_at s l i =
    cell_fits (twos 4 (number_at 4 s (l.beds + 4 * i))) (number_at 4 s (l.depths + 4 * i))
    (twos 8 (number_at 8 s (l.discharges + 8 * i))) (number_at 8 s (l.masses + 8 * i)) (number_at 4 s (l.depths + 4 * i))
