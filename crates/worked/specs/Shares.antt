-- Document 01, 'Settling': shares, what enters with its concentration, and where both go, of records that carry water.
use Rattle.std.specs.Prelude.{◌≡◌, [], ◌∷◌, ℕ, pos, neg_ℤ}
use Rattle.reach.specs.Reach.{Reach, held_with}
use Rattle.outlet.specs.Outlets.{no_outlets}
use Rattle.reach.specs.declared.boundary.Boundary.{Boundary}
use Rattle.reach.specs.declared.ledger.Totals.{Totals}
use Rattle.mass.specs.Transport.{right_share, left_share}
use Rattle.transport.specs.Calls.{mass_columns_of, transport}

abbrev pub open_at : ℕ → Boundary
open_at k = record { kind = 1; reserved = 0; depth = 0; concentration = k; discharge = pos 0 }

abbrev pub mass_totals : (gained lost : ℕ) → Totals
mass_totals gained lost = record { water_in = 0; water_out = 0; mass_in = gained; mass_out = lost }

-- m 1, b 2, c −1 and 1: a grain, and all of the water has left, half of it to either side
abbrev pub one_grain : Reach
one_grain = record {
  bed = pos 0 ∷ [];
  depth = 0 ∷ [];
  discharge = pos 0 ∷ [];
  mass = 1 ∷ [];
  base = 2 ∷ [];
  carried = neg_ℤ (pos 1) ∷ pos 1 ∷ [];
  cell_length = 1_000;
  held = held_with (open_at 0 ∷ open_at 0 ∷ []) (record { left = mass_totals 0 0; right = mass_totals 0 0 }) no_outlets;
}

-- the middle one of three cells sends 2 to the left and 3 to the right; 2 come in at the left at concentration 5, 4 at the right at 9
abbrev pub three_cells : Reach
three_cells = record {
  bed = pos 0 ∷ pos 0 ∷ pos 0 ∷ [];
  depth = 24 ∷ 2 ∷ 37 ∷ [];
  discharge = pos 0 ∷ pos 0 ∷ pos 0 ∷ [];
  mass = 100 ∷ 10 ∷ 200 ∷ [];
  base = 20 ∷ 7 ∷ 30 ∷ [];
  carried = pos 2 ∷ neg_ℤ (pos 2) ∷ pos 3 ∷ neg_ℤ (pos 4) ∷ [];
  cell_length = 1_000;
  held = held_with (open_at 5 ∷ open_at 9 ∷ []) (record { left = mass_totals 0 0; right = mass_totals 0 0 }) no_outlets;
}

pub record SharesWorked : Type 0 where
  -- R = L = 1: floor(1·1/2) = 0 to the right, floor(1·2/2) − 0 = 1 to the left. Left before right gives 1 and 0, floors taken singly 0 and 0
  pub grain_right : right_share (mass_columns_of one_grain) 0 ≡ 0
  pub grain_left : left_share (mass_columns_of one_grain) 0 ≡ 1
  pub grain_gone : (transport one_grain).reach.mass ≡ 0 ∷ []
  pub grain_entered : (transport one_grain).reach.held.ledger ≡ record { left = mass_totals 0 1; right = mass_totals 0 0 }
  -- m 10, b 7, R 3, L 2: floor(30/7) = 4, floor(50/7) − 4 = 3. Left before right: 5 and 2; singly: 4 and 2
  pub right : right_share (mass_columns_of three_cells) 1 ≡ 4
  pub left : left_share (mass_columns_of three_cells) 1 ≡ 3
  -- 100 + 2·5 + 3, 10 − 7, 200 + 4 + 4·9; b becomes h, c becomes 0
  pub accepted : (transport three_cells).refusal ≡ 0
  pub masses : (transport three_cells).reach.mass ≡ 113 ∷ 3 ∷ 240 ∷ []
  pub bases : (transport three_cells).reach.base ≡ 24 ∷ 2 ∷ 37 ∷ []
  pub none_carried_lem : (transport three_cells).reach.carried ≡ pos 0 ∷ pos 0 ∷ pos 0 ∷ pos 0 ∷ []
  -- with the concentrations of the two boundaries exchanged: 18 and 20
  pub entered : (transport three_cells).reach.held.ledger ≡ record { left = mass_totals 10 0; right = mass_totals 36 0 }
