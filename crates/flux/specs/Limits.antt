-- The limits of document 01, 'What a record holds' and 'Grounds for refusal', that more than one crate above uses.
use Rattle.std.specs.Prelude.{ℕ}

-- depth h, micrometres
abbrev pub depth_most : ℕ
depth_most = 4_000_000

-- size of a velocity u, mm/s
abbrev pub velocity_most : ℕ
velocity_most = 8_000

-- size of a bed level z, micrometres
abbrev pub bed_most : ℕ
bed_most = 100_000_000

-- concentration, micrograms per litre
abbrev pub concentration_most : ℕ
concentration_most = 500_000

-- time step t, ms
abbrev pub time_step_most : ℕ
time_step_most = 1_000

-- cell length X, mm
abbrev pub cell_length_least : ℕ
cell_length_least = 100

abbrev pub cell_length_most : ℕ
cell_length_most = 100_000
