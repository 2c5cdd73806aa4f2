-- Document 01, 'Figures to meet', with the wave speed of document 02, point 3: the two-cell run and the CFL figure, computed from the definitions. Two cells, walls, flat bottom 0, X 1,000, depths
-- 1,000,000 and 100,000 at rest, mass 3,000,000 and 0, one step of 100, then a transport.
use Rattle.std.specs.Prelude.{◌≡◌, List, [], ◌∷◌, ℕ, pos}
use Rattle.reach.specs.Reach.{Reach, no_boundary, held_with}
use Rattle.outlet.specs.Outlets.{no_outlets}
use Rattle.reach.specs.Outcome.{Outcome}
use Rattle.reach.specs.declared.ledger.Totals.{Totals}
use Rattle.reach.specs.declared.held.Held.{Held}
use Rattle.transport.specs.Calls.{transport}
use Rattle.update.specs.Step.{step}

abbrev pub no_totals : Totals
no_totals = record { water_in = 0; water_out = 0; mass_in = 0; mass_out = 0 }

-- a pair of walls, and an empty ledger
abbrev pub two_walls : Held
two_walls = held_with (no_boundary ∷ no_boundary ∷ []) (record { left = no_totals; right = no_totals }) no_outlets

abbrev pub two_cells : Reach
two_cells = record {
  bed = pos 0 ∷ pos 0 ∷ [];
  depth = 1_000_000 ∷ 100_000 ∷ [];
  discharge = pos 0 ∷ pos 0 ∷ [];
  mass = 3_000_000 ∷ 0 ∷ [];
  base = 1_000_000 ∷ 100_000 ∷ [];
  carried = pos 0 ∷ pos 0 ∷ pos 0 ∷ [];
  cell_length = 1_000;
  held = two_walls;
}

abbrev pub afterwards : Outcome
afterwards = transport (step two_cells 100 0).reach

pub record TwoCellRun : Type 0 where
  pub step_accepted : (step two_cells 100 0).refusal ≡ 0
  pub transport_accepted : afterwards.refusal ≡ 0
  pub depths : afterwards.reach.depth ≡ 907_132 ∷ 192_868 ∷ []
  pub discharges : afterwards.reach.discharge ≡ pos 242_795_920 ∷ pos 242_795_920 ∷ []
  pub masses : afterwards.reach.mass ≡ 2_721_396 ∷ 278_604 ∷ []
  pub ledger_empty : afterwards.reach.held.ledger ≡ record { left = no_totals; right = no_totals }

-- depth 1,000,000 at rest, X 1,000: t 260 passes CFL, 261 is 11
abbrev pub one_cell : Reach
one_cell = record {
  bed = pos 0 ∷ [];
  depth = 1_000_000 ∷ [];
  discharge = pos 0 ∷ [];
  mass = 0 ∷ [];
  base = 1_000_000 ∷ [];
  carried = pos 0 ∷ pos 0 ∷ [];
  cell_length = 1_000;
  held = two_walls;
}

pub record CflFigure : Type 0 where
  pub t_260 : (step one_cell 260 0).refusal ≡ 0
  pub t_261 : (step one_cell 261 0).refusal ≡ 11
