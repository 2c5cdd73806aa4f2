-- Document 01, 'What a record holds': the record of a reach as a call is given it, with the boundaries (the paper's 'ends') and the
-- ledger (its 'book') that travel with it.
use Rattle.std.specs.Prelude.{List, ℕ, ℤ, pos, length, get_or}
use Rattle.outlet.specs.declared.Outlets.{Outlets}
use Rattle.reach.specs.declared.boundary.Boundary.{Boundary}
use Rattle.reach.specs.declared.held.Held.{Held}
use Rattle.reach.specs.declared.ledger.Ledger.{Ledger}

pub record Reach : Type 0 where
  -- of each cell: bed level z and depth h, micrometres; discharge q, depth times velocity, micrometres times mm/s; mass m, the paper's
  -- 'nutrient', in its 'grains' (one micrometre of depth at one microgram per litre); base depth b, the depth at the last transport
  pub bed : List ℤ
  pub depth : List ℕ
  pub discharge : List ℤ
  pub mass : List ℕ
  pub base : List ℕ
  -- of each interface 0..n, interface i left of cell i: the water c carried over it since the last transport (the paper's 'settling'),
  -- micrometres, positive rightwards
  pub carried : List ℤ
  -- X, mm
  pub cell_length : ℕ
  -- the boundaries, left and right, the ledger, and the outlets along the reach (document 02, point 1)
  pub held : Held

abbrev pub reach_of : List ℤ → List ℕ → List ℤ → List ℕ → List ℕ → List ℤ → ℕ → Held → Reach
reach_of z h q m b c X k = record { bed = z; depth = h; discharge = q; mass = m; base = b; carried = c; cell_length = X; held = k }

-- the record that a call is given: what stands in the columns at its entry, X, and what it holds
abbrev pub came : List ℤ → List ℕ → List ℤ → List ℕ → List ℕ → List ℤ → ℕ → Held → Reach
came z h q m b c X k = reach_of z h q m b c X k

-- what is held, made of a pair of boundaries, a ledger and the list of outlets; with another pair; with another ledger; with another ledger and other outlets. A field that is added stands here, and
-- not where one of these is named
abbrev pub held_with : List Boundary → Ledger → Outlets → Held
held_with es k os = record { boundaries = es; ledger = k; outlets = os }

abbrev pub with_boundaries : List Boundary → Held → Held
with_boundaries es h = record { boundaries = es; ledger = h.ledger; outlets = h.outlets }

abbrev pub with_totals : Ledger → Outlets → Held → Held
with_totals k os h = record { boundaries = h.boundaries; ledger = k; outlets = os }

-- n
abbrev pub cells : Reach → ℕ
cells s = length s.bed

-- the values of cell i, c of interface i; past the end of a column they are 0
abbrev pub bed_at : Reach → ℕ → ℤ
bed_at s i = get_or s.bed i (pos 0)

abbrev pub depth_at : Reach → ℕ → ℕ
depth_at s i = get_or s.depth i 0

abbrev pub discharge_at : Reach → ℕ → ℤ
discharge_at s i = get_or s.discharge i (pos 0)

abbrev pub mass_at : Reach → ℕ → ℕ
mass_at s i = get_or s.mass i 0

abbrev pub base_at : Reach → ℕ → ℕ
base_at s i = get_or s.base i 0

abbrev pub carried_at : Reach → ℕ → ℤ
carried_at s i = get_or s.carried i (pos 0)

-- what stands for a boundary that is not there; never read of a pair
abbrev pub no_boundary : Boundary
no_boundary = record { kind = 0; reserved = 0; depth = 0; concentration = 0; discharge = pos 0 }

abbrev pub left_boundary : List Boundary → Boundary
left_boundary es = get_or es 0 no_boundary

abbrev pub right_boundary : List Boundary → Boundary
right_boundary es = get_or es 1 no_boundary
