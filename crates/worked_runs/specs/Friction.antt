-- Document 02, point 4: whole steps with friction: a deep and a thin cell that flow apart, three cells with outlets and a transport first (the paper's 'settling'), and the cut after friction.
-- X 1,000 mm, t 100 ms. D = F²·r, E = floor(4.5518·|u|).
use Rattle.std.specs.Prelude.{◌≡◌, true, List, [], ◌∷◌, ℕ, ℤ, pos, neg_ℤ}
use Rattle.outlet.specs.Outlets.{no_outlets}
use Rattle.reach.specs.Reach.{Reach, no_boundary, held_with}
use Rattle.reach.specs.declared.boundary.Boundary.{Boundary}
use Rattle.sheet.specs.Opening.{empty_ledger}
use Rattle.update.specs.Step.{step, transports}
use Rattle.worked_runs.specs.Draws.{outlet, listed}
use Rattle.worked_runs.specs.Steps.{fed_by}

abbrev pub open_at : (concentration : ℕ) → Boundary
open_at k = record { kind = 1; reserved = 0; depth = 0; concentration = k; discharge = pos 0 }

-- between walls: the left cell flows to the left at 500 mm/s, the right one lies thinly on a bank and flows to the right at 400
abbrev pub bank : (depth : List ℕ) (discharge carried : List ℤ) → Reach
bank h q c = record {
  bed = pos 0 ∷ pos 560_000 ∷ [];
  depth = h;
  discharge = q;
  mass = 1_200_007 ∷ 90_001 ∷ [];
  base = 600_000 ∷ 29_990 ∷ [];
  carried = c;
  cell_length = 1_000;
  held = held_with (no_boundary ∷ no_boundary ∷ []) empty_ledger no_outlets;
}

abbrev pub apart : Reach
apart = bank (600_000 ∷ 29_990 ∷ []) (neg_ℤ (pos 300_000_000) ∷ pos 12_000_000 ∷ []) (pos 0 ∷ pos 0 ∷ pos 0 ∷ [])

-- three cells over a rising bed, the left boundary fed, the right one open; outlets want 30,000 and 0 of the second, 3,000 of the third and 1 of the first
abbrev pub drawing : Reach
drawing = record {
  bed = pos 0 ∷ pos 20_000 ∷ pos 50_000 ∷ [];
  depth = 290_000 ∷ 126_000 ∷ 11_500 ∷ [];
  discharge = pos 90_000_001 ∷ neg_ℤ (pos 70_000_000) ∷ neg_ℤ (pos 2_000_000) ∷ [];
  mass = 900_001 ∷ 500_003 ∷ 777 ∷ [];
  base = 130_000 ∷ 10_000 ∷ 12_000 ∷ [];
  carried = pos 285_000 ∷ pos 125_000 ∷ pos 4_000 ∷ pos 4_500 ∷ [];
  cell_length = 1_000;
  held = held_with (fed_by 300_000 7 (pos 150_000_000) ∷ open_at 3 ∷ []) empty_ledger (listed (outlet 1 30_000 5_000 0 0 ∷ outlet 2 3_000 0 0 0 ∷ outlet 1 0 0 0 0 ∷ outlet 0 1 0 0 0 ∷ []));
}

-- one cell at 8,000 mm/s leftwards, which flows on between open boundaries; its outlet takes 10,000 of 100,000, so that 720,000,000 is the most
abbrev pub rushing : Reach
rushing = record {
  bed = neg_ℤ (pos 7) ∷ [];
  depth = 100_000 ∷ [];
  discharge = neg_ℤ (pos 800_000_000) ∷ [];
  mass = 250_003 ∷ [];
  base = 100_000 ∷ [];
  carried = pos 0 ∷ pos 0 ∷ [];
  cell_length = 1_000;
  held = held_with (open_at 5 ∷ open_at 9 ∷ []) empty_ledger (listed (outlet 0 10_000 0 0 0 ∷ []));
}

pub record FrictionWorked : Type 0 where
  -- N is 14 at the middle. Pushed to −194,272,823, k 59, r 2,296, D 2,066,400, E 2,275; and to 10,214,837, k 3 (2 before the step), r 43, D 38,700, E 1,820
  pub slowed : step apart 100 30
      ≡ record { refusal = 0; reach = bank (599_986 ∷ 30_004 ∷ []) (neg_ℤ (pos 194_059_173) ∷ pos 9_756_026 ∷ []) (pos 0 ∷ pos 14 ∷ pos 0 ∷ []) }
  pub without : step apart 100 0
      ≡ record { refusal = 0; reach = bank (599_986 ∷ 30_004 ∷ []) (neg_ℤ (pos 194_272_823) ∷ pos 10_214_837 ∷ []) (pos 0 ∷ pos 14 ∷ pos 0 ∷ []) }
  -- Speeds 310, −555 and −173; N is 13,329, 9,464, 573 and −199. Pushed to 100,589,654, k 29, r 890, D 801,000, E 1,411; to −35,261,852, k 10 (13 before drawing), r 215, D 193,500,
  -- E 2,526; to −1,663,429, k 0 (1 before drawing), so that D is 0 and nothing is left
  pub drawn_transports : transports drawing 100 30 ≡ true
  pub drawn_discharges : (step drawing 100 30).reach.discharge ≡ pos 100_412_772 ∷ neg_ℤ (pos 34_807_466) ∷ pos 0 ∷ []
  -- the rest is as without friction
  pub drawn_depths : (step drawing 100 30).reach.depth ≡ 293_864 ∷ 104_891 ∷ 9_272 ∷ []
  pub drawn_masses : (step drawing 100 30).reach.mass ≡ 2_029_616 ∷ 915_386 ∷ 200_487 ∷ []
  pub drawn_carried : (step drawing 100 30).reach.carried ≡ pos 13_329 ∷ pos 9_464 ∷ pos 573 ∷ neg_ℤ (pos 199) ∷ []
  -- k 9, r 187, E 36,414. F 30, D 168,300: 657,698,056 is left, below the most. F 90, D 1,514,700: more than the most is left, and it is cut. (Cut first, it would be 591,928,251 and 703,097,257)
  pub rough_cut : (step rushing 100 30).reach.discharge ≡ neg_ℤ (pos 657_698_056) ∷ []
  pub smooth_cut : (step rushing 100 90).reach.discharge ≡ neg_ℤ (pos 720_000_000) ∷ []
