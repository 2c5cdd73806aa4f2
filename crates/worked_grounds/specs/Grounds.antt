-- Document 01, 'Grounds for refusal, in checking order': the numbers of each call's grounds, in order, and which test has which number.
use Rattle.std.specs.Prelude.{◌≡◌, Bool, true, false, List, [], ◌∷◌, map, ℕ, ℤ, pos, take, replicate}
use Rattle.reach.specs.Reach.{Reach, reach_of, no_boundary, held_with, with_totals}
use Rattle.outlet.specs.Outlets.{no_outlet, no_outlets}
use Rattle.outlet.specs.declared.Outlets.{Outlets}
use Rattle.reach.specs.Refusals.{number}
use Rattle.reach.specs.Grounds.{Ground, number_of, record_grounds}
use Rattle.reach.specs.declared.boundary.Boundary.{Boundary}
use Rattle.friction.specs.Friction.{strickler_fits}
use Rattle.transport.specs.Calls.{transport_grounds, transport, set_boundaries}
use Rattle.timestep.specs.GreatestStep.{greatest}
use Rattle.update.specs.Step.{step_grounds, step}
use Rattle.sheet.specs.Opening.{open_grounds, empty_totals, lent, opening}
use Rattle.writing.specs.Writing.{write_grounds, write_refusal}

abbrev pub numbers : List Ground → List ℕ
numbers gs = map (λ g. number g.refusal) gs

abbrev pub standing : List Ground → List Bool
standing gs = map (λ g. g.stands) gs

abbrev pub kind_of : ℕ → Boundary
kind_of k = record { kind = k; reserved = 0; depth = 0; concentration = 1; discharge = pos 0 }

-- 4,000,000 of water at 8,000 mm/s towards the cell
abbrev pub torrent : Boundary
torrent = record { kind = 2; reserved = 0; depth = 4_000_000; concentration = 0; discharge = pos 32_000_000_000 }

-- one cell at rest over the bed 0, a wall at its right, c 0 there: base depths, X, left boundary, depth, c at the left, and the left water and mass that came in
abbrev pub cell : (b : List ℕ) (X : ℕ) (left : Boundary) (h : ℕ) (c : ℤ) (water mass : ℕ) → Reach
cell b X left h c water mass = record {
  bed = pos 0 ∷ [];
  depth = h ∷ [];
  discharge = pos 0 ∷ [];
  mass = 0 ∷ [];
  base = b;
  carried = c ∷ pos 0 ∷ [];
  cell_length = X;
  held = held_with (left ∷ no_boundary ∷ []) (record {
    left = record { water_in = water; water_out = 0; mass_in = mass; mass_out = 0 };
    right = empty_totals;
  }) no_outlets;
}

-- 33 outlets
abbrev pub too_many : Outlets
too_many = record { count = 33; list = replicate 32 no_outlet }

abbrev pub too_long : Reach → Reach
too_long s = reach_of s.bed s.depth s.discharge s.mass s.base s.carried s.cell_length (with_totals s.held.ledger too_many s.held)

-- ---- the ladder of a step: all is wrong at its foot, and each rung has mended one thing more. No base depth, X 0, kind 3, depth 5,000,000, 33 outlets, c 1 that h and b do not
-- account for, a total of 10^18 + 1, t 1,001, F 9; so CFL is broken, and the new depth and total are out of range too
abbrev pub foot : Reach
foot = too_long (cell [] 0 (kind_of 3) 5_000_000 (pos 1) 1_000_000_000_000_000_001 0)

abbrev pub lengths_mended : Reach
lengths_mended = too_long (cell (5_000_000 ∷ []) 0 (kind_of 3) 5_000_000 (pos 1) 1_000_000_000_000_000_001 0)

abbrev pub cell_length_mended : Reach
cell_length_mended = too_long (cell (5_000_000 ∷ []) 100 (kind_of 3) 5_000_000 (pos 1) 1_000_000_000_000_000_001 0)

abbrev pub boundary_mended : Reach
boundary_mended = too_long (cell (5_000_000 ∷ []) 100 torrent 5_000_000 (pos 1) 1_000_000_000_000_000_001 0)

abbrev pub depth_mended : Reach
depth_mended = too_long (cell (4_000_000 ∷ []) 100 torrent 4_000_000 (pos 1) 1_000_000_000_000_000_001 0)

abbrev pub outlets_mended : Reach
outlets_mended = cell (4_000_000 ∷ []) 100 torrent 4_000_000 (pos 1) 1_000_000_000_000_000_001 0

abbrev pub carried_mended : Reach
carried_mended = cell (4_000_000 ∷ []) 100 torrent 4_000_000 (pos 0) 1_000_000_000_000_000_001 0

abbrev pub total_mended : Reach
total_mended = cell (4_000_000 ∷ []) 100 torrent 4_000_000 (pos 0) 1_000_000_000_000_000_000 0

-- a dry cell: its new depth is 1,920,000; and with room in the total
abbrev pub dried : Reach
dried = cell (0 ∷ []) 100 torrent 0 (pos 0) 1_000_000_000_000_000_000 0

abbrev pub emptied : Reach
emptied = cell (0 ∷ []) 100 torrent 0 (pos 0) 0 0

-- ---- 1 micrometre of water at concentration 1 came in over the left boundary, with a given total of mass in
abbrev pub grain_in : (total : ℕ) → Reach
grain_in total = cell (5 ∷ []) 100 (kind_of 1) 6 (pos 1) 0 total

-- ---- a sheet of one cell, by the low bytes of edition, n, offset of the bed levels, X and left kind, and the third byte of the depth
abbrev pub sheet_of : (e n o X k h : ℕ) → List ℕ
sheet_of e n o X k h =
    e ∷ 0 ∷ 0 ∷ 0  -- edition
    ∷ 104 ∷ 0 ∷ 0 ∷ 0  -- length 104
    ∷ n ∷ 0 ∷ 0 ∷ 0  -- n
    ∷ X ∷ 0 ∷ 0 ∷ 0  -- X
    ∷ o ∷ 0 ∷ 0 ∷ 0  -- bed levels
    ∷ 84 ∷ 0 ∷ 0 ∷ 0  -- depths
    ∷ 88 ∷ 0 ∷ 0 ∷ 0  -- discharges
    ∷ 96 ∷ 0 ∷ 0 ∷ 0  -- masses
    ∷ k ∷ 0 ∷ 0 ∷ 0  -- left: kind
    ∷ 0 ∷ 0 ∷ 0 ∷ 0 ∷ 0 ∷ 0 ∷ 0 ∷ 0 ∷ 0 ∷ 0 ∷ 0 ∷ 0 ∷ 0 ∷ 0 ∷ 0 ∷ 0 ∷ 0 ∷ 0 ∷ 0 ∷ 0  -- depth, concentration, reserved, discharge
    ∷ 0 ∷ 0 ∷ 0 ∷ 0 ∷ 0 ∷ 0 ∷ 0 ∷ 0 ∷ 0 ∷ 0 ∷ 0 ∷ 0 ∷ 0 ∷ 0 ∷ 0 ∷ 0 ∷ 0 ∷ 0 ∷ 0 ∷ 0 ∷ 0 ∷ 0 ∷ 0 ∷ 0  -- the right boundary, a wall
    ∷ 0 ∷ 0 ∷ 0 ∷ 0  -- bed level
    ∷ 0 ∷ 0 ∷ h ∷ 0  -- depth
    ∷ 0 ∷ 0 ∷ 0 ∷ 0 ∷ 0 ∷ 0 ∷ 0 ∷ 0  -- discharge
    ∷ 0 ∷ 0 ∷ 0 ∷ 0 ∷ 0 ∷ 0 ∷ 0 ∷ 0 ∷ []  -- mass

abbrev pub lent_none : Reach
lent_none = lent [] [] [] [] [] [] too_many

abbrev pub lent_one : Reach
lent_one = lent (pos 0 ∷ []) (0 ∷ []) (pos 0 ∷ []) (0 ∷ []) (0 ∷ []) (pos 0 ∷ pos 0 ∷ []) too_many

-- and with no outlets
abbrev pub lent_fit : Reach
lent_fit = lent (pos 0 ∷ []) (0 ∷ []) (pos 0 ∷ []) (0 ∷ []) (0 ∷ []) (pos 0 ∷ pos 0 ∷ []) no_outlets

pub record GroundsWorked : Type 0 where
  -- 'Opening uses 1 to 7. Every other call on a record uses 4 to 9', with 16 'checked after 7'; 'then a step uses 10 to 13', with 17 'checked after 10', 'a settling or end setting 13, a write 14 and 15': whatever it is given.
  -- 6 stands twice, for the boundaries held and those newly given (for a call that is given none, those held)
  pub open_numbers : (s : List ℕ) (z h q m b c : ℕ) (os : Outlets) → numbers (open_grounds s z h q m b c os) ≡ 1 ∷ 2 ∷ 3 ∷ 4 ∷ 5 ∷ 6 ∷ 7 ∷ 16 ∷ []
  pub record_numbers : (s : Reach) (es : List Boundary) → numbers (record_grounds s es) ≡ 4 ∷ 5 ∷ 6 ∷ 6 ∷ 7 ∷ 16 ∷ 8 ∷ 9 ∷ []
  pub step_numbers : (s : Reach) (t F : ℕ) → numbers (step_grounds s t F) ≡ 4 ∷ 5 ∷ 6 ∷ 6 ∷ 7 ∷ 16 ∷ 8 ∷ 9 ∷ 10 ∷ 17 ∷ 11 ∷ 12 ∷ 13 ∷ []
  pub transport_numbers : (s : Reach) (es : List Boundary) → numbers (transport_grounds s es) ≡ 4 ∷ 5 ∷ 6 ∷ 6 ∷ 7 ∷ 16 ∷ 8 ∷ 9 ∷ 13 ∷ []
  pub write_numbers : (s : Reach) (room : ℕ) → numbers (write_grounds s room) ≡ 4 ∷ 5 ∷ 6 ∷ 6 ∷ 7 ∷ 16 ∷ 8 ∷ 9 ∷ 14 ∷ 15 ∷ []
  -- 4 to 9 are the same tests in each
  pub step_begins : (s : Reach) (t F : ℕ) → take 8 (step_grounds s t F) ≡ record_grounds s s.held.boundaries
  pub transport_begins : (s : Reach) (es : List Boundary) → take 8 (transport_grounds s es) ≡ record_grounds s es
  pub write_begins : (s : Reach) (room : ℕ) → take 8 (write_grounds s room) ≡ record_grounds s s.held.boundaries
  -- a step: at the foot it stands none
  pub step_foot : standing (step_grounds foot 1_001 9)
      ≡ false ∷ false ∷ false ∷ false ∷ false ∷ false ∷ false ∷ false ∷ false ∷ false ∷ false ∷ false ∷ false ∷ []
  pub step_4 : (step foot 1_001 9).refusal ≡ 4
  pub step_5 : (step lengths_mended 1_001 9).refusal ≡ 5
  pub step_6 : (step cell_length_mended 1_001 9).refusal ≡ 6
  pub step_7 : (step boundary_mended 1_001 9).refusal ≡ 7
  pub step_16 : (step depth_mended 1_001 9).refusal ≡ 16
  pub step_8 : (step outlets_mended 1_001 9).refusal ≡ 8
  pub step_9 : (step carried_mended 1_001 9).refusal ≡ 9
  pub step_10 : (step total_mended 1_001 9).refusal ≡ 10
  pub step_17 : (step total_mended 1_000 9).refusal ≡ 17
  pub step_11 : (step total_mended 1_000 10).refusal ≡ 11
  -- 6·(8,000 + 7,671) ≤ 100,000
  pub step_12 : (step total_mended 6 10).refusal ≡ 12
  pub step_13 : (step dried 6 10).refusal ≡ 13
  pub step_0 : (step emptied 6 10).refusal ≡ 0
  -- 0, 10 and 90 are allowed, 9 and 91 are not
  pub strickler_none : strickler_fits 0 ≡ true
  pub strickler_9 : strickler_fits 9 ≡ false
  pub strickler_10 : strickler_fits 10 ≡ true
  pub strickler_90 : strickler_fits 90 ≡ true
  pub strickler_91 : strickler_fits 91 ≡ false
  -- the greatest step: t, CFL, the new depth and the new total are not looked at
  pub greatest_9 : (greatest carried_mended).refusal ≡ 9
  pub greatest_0 : (greatest total_mended).refusal ≡ 0
  -- a setting of boundaries: the new pair after X, before the cells
  pub setting_5 : (set_boundaries (cell (5_000_000 ∷ []) 0 torrent 5_000_000 (pos 0) 0 0) (kind_of 3 ∷ no_boundary ∷ [])).refusal ≡ 5
  pub setting_6 : (set_boundaries (cell (5_000_000 ∷ []) 100 torrent 5_000_000 (pos 0) 0 0) (kind_of 3 ∷ no_boundary ∷ [])).refusal ≡ 6
  pub setting_7 : (set_boundaries (cell (5_000_000 ∷ []) 100 torrent 5_000_000 (pos 0) 0 0) (torrent ∷ no_boundary ∷ [])).refusal ≡ 7
  -- a transport of 1 grain: over 10^18 before it, over it by this call, just at it
  pub transport_9 : (transport (grain_in 1_000_000_000_000_000_001)).refusal ≡ 9
  pub transport_13 : (transport (grain_in 1_000_000_000_000_000_000)).refusal ≡ 13
  pub transport_0 : (transport (grain_in 999_999_999_999_999_999)).refusal ≡ 0
  -- a write into no room, with carried water; into a byte too little, without; and into enough
  pub write_9 : number_of (write_refusal (grain_in 1_000_000_000_000_000_001) 0) ≡ 9
  pub write_14 : number_of (write_refusal (grain_in 0) 0) ≡ 14
  pub write_15 : number_of (write_refusal emptied 103) ≡ 15
  pub write_0 : number_of (write_refusal emptied 104) ≡ 0
  -- an opening, of a sheet of edition 2, n 2, bed levels from 79 on, X 99, left kind 3 and depth 255·65,536, into columns that fit nothing: mended one by one
  pub open_foot : standing (open_grounds (sheet_of 2 2 79 99 3 255) 0 0 0 0 0 0 too_many) ≡ false ∷ false ∷ false ∷ false ∷ false ∷ false ∷ false ∷ false ∷ []
  pub open_1 : (opening (sheet_of 2 2 79 99 3 255) lent_none).refusal ≡ 1
  pub open_2 : (opening (sheet_of 1 2 79 99 3 255) lent_none).refusal ≡ 2
  pub open_3 : (opening (sheet_of 1 1 79 99 3 255) lent_none).refusal ≡ 3
  pub open_4 : (opening (sheet_of 1 1 80 99 3 255) lent_none).refusal ≡ 4
  pub open_5 : (opening (sheet_of 1 1 80 99 3 255) lent_one).refusal ≡ 5
  pub open_6 : (opening (sheet_of 1 1 80 100 3 255) lent_one).refusal ≡ 6
  pub open_7 : (opening (sheet_of 1 1 80 100 0 255) lent_one).refusal ≡ 7
  pub open_16 : (opening (sheet_of 1 1 80 100 0 1) lent_one).refusal ≡ 16
  pub open_0 : (opening (sheet_of 1 1 80 100 0 1) lent_fit).refusal ≡ 0
