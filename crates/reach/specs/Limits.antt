-- Limits of a record (document 01, 'What a record holds'); those of depth, velocity, bed level, concentration and cell length are flux's.
use Rattle.std.specs.Prelude.{ℕ}

-- cells of a reach
abbrev pub cells_most : ℕ
cells_most = 512

-- size of the carried water c of an interface, micrometres
abbrev pub carried_most : ℕ
carried_most = 4_000_000

-- each total of the ledger
abbrev pub total_most : ℕ
total_most = 1_000_000_000_000_000_000

-- kinds of boundary: a wall, an open and a fed one
abbrev pub wall : ℕ
wall = 0

abbrev pub open_boundary : ℕ
open_boundary = 1

abbrev pub fed : ℕ
fed = 2
