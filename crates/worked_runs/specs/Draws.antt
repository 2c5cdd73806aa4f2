-- Document 02, point 1: two steps with four outlets, three of them at the second cell, which cannot give what they want. The second step transports first (the paper's 'settles'),
-- because of what was drawn. X 1,000 mm, t 100 ms.
use Rattle.std.specs.Prelude.{◌≡◌, true, false, List, [], ◌∷◌, ◌++◌, ℕ, ◌-◌, pos, length, replicate}
use Rattle.outlet.specs.Outlets.{no_outlet}
use Rattle.outlet.specs.declared.Outlet.{Outlet}
use Rattle.outlet.specs.declared.Outlets.{Outlets}
use Rattle.reach.specs.Reach.{Reach, held_with}
use Rattle.reach.specs.declared.boundary.Boundary.{Boundary}
use Rattle.sheet.specs.Opening.{empty_ledger}
use Rattle.water.specs.Water.{available, draws}
use Rattle.update.specs.Step.{step, transports}
use Rattle.worked_runs.specs.Steps.{fed_by}

abbrev pub outlet : (cell want drawn water mass : ℕ) → Outlet
outlet c w d v m = record { cell = c; want = w; drawn = d; water = v; mass = m }

abbrev pub listed : List Outlet → Outlets
listed l = record { count = length l; list = l ++ replicate (32 - length l) no_outlet }

-- wants of 60,000, 0 and 90,000 at cell 1, with one of 1,000 at cell 0 between them; the first has had `water` before
abbrev pub wanting : (water : ℕ) → Outlets
wanting water = listed (outlet 1 60_000 0 water 0 ∷ outlet 0 1_000 0 0 0 ∷ outlet 1 0 0 0 0 ∷ outlet 1 90_000 0 0 0 ∷ [])

-- two cells over a bed that rises by 20,000, beside a left boundary b; the right one is open at 3
abbrev pub lending : Boundary → Outlets → Reach
lending b os = record {
  bed = pos 0 ∷ pos 20_000 ∷ [];
  depth = 310_000 ∷ 125_000 ∷ [];
  discharge = pos 60_000_000 ∷ pos 20_000_000 ∷ [];
  mass = 900_001 ∷ 500_003 ∷ [];
  base = 310_000 ∷ 125_000 ∷ [];
  carried = pos 0 ∷ pos 0 ∷ pos 0 ∷ [];
  cell_length = 1_000;
  held = held_with (b ∷ record { kind = 1; reserved = 0; depth = 0; concentration = 3; discharge = pos 0 } ∷ []) empty_ledger os;
}

abbrev pub fed : Boundary
fed = fed_by 300_000 7 (pos 150_000_000)

abbrev pub wall : Boundary
wall = record { kind = 0; reserved = 0; depth = 0; concentration = 0; discharge = pos 0 }

abbrev pub before : Reach
before = lending fed (wanting 0)

-- after the first step, with the outlets lent to the second
abbrev pub again : Outlets → Reach
again os = record {
  bed = pos 0 ∷ pos 20_000 ∷ [];
  depth = 304_844 ∷ 21_206 ∷ [];
  discharge = pos 84_131_853 ∷ pos 41_609_377 ∷ [];
  mass = 900_001 ∷ 500_003 ∷ [];
  base = 310_000 ∷ 125_000 ∷ [];
  carried = pos 10_452 ∷ pos 14_608 ∷ pos 2_000 ∷ [];
  cell_length = 1_000;
  held = held_with before.held.boundaries (record {
    left = record { water_in = 10_452; water_out = 0; mass_in = 0; mass_out = 0 };
    right = record { water_in = 0; water_out = 2_000; mass_in = 0; mass_out = 0 };
  }) os;
}

abbrev pub between : Reach
between = again (listed (outlet 1 60_000 46_561 46_561 0 ∷ outlet 0 1_000 1_000 1_000 0 ∷ outlet 1 0 0 0 0 ∷ outlet 1 90_000 69_841 69_841 0 ∷ []))

-- with other wants at cell 1: w and 0
abbrev pub wanting_less : (w : ℕ) → Reach
wanting_less w = again (listed (outlet 1 w 46_561 46_561 0 ∷ outlet 0 1_000 1_000 1_000 0 ∷ outlet 1 0 0 0 0 ∷ outlet 1 0 69_841 69_841 0 ∷ []))

pub record DrawsWorked : Type 0 where
  -- 310,000 − 17,907 − 13,697 (u 193, own h* 290,000 and 310,000) and 125,000 − 5,299 − 3,299 (u 160): the own W of a cell over its right and its left, whatever stands there
  pub can_give_0 : available before 100 0 ≡ pos 278_396
  pub can_give_1 : available before 100 1 ≡ pos 116_402
  pub beside_a_wall : available (lending wall (wanting 0)) 100 0 ≡ pos 278_396
  -- 116,402 by wants 60,000, 0 and 90,000: floors 46,560, 0 and 69,841, and the unit left goes to the first
  pub draws_1 : draws before 100 1 ≡ 46_561 ∷ 0 ∷ 0 ∷ 69_841 ∷ []
  -- the sums are kept: 2,000 and 116,402 have left the second cell, of 125,000
  pub kept : transports before 100 0 ≡ false
  pub first : step before 100 0 ≡ record { refusal = 0; reach = between }
  -- 6,160 carried and 133,448 drawn are more than 125,000, so a transport comes first, with 2,000 carried and 116,402 drawn. Shares of 500,003 in 125,000: 8,000 to the right, then
  -- 186,245 and 279,365 to the outlets, floor(500,003·48,561 / 125,000) and floor(500,003·118,402 / 125,000) less those before
  pub transported : transports between 100 0 ≡ true
  pub second : step between 100 0 ≡ record {
    refusal = 0;
    reach = record {
      bed = pos 0 ∷ pos 20_000 ∷ [];
      depth = 297_015 ∷ 18_756 ∷ [];
      discharge = pos 106_191_016 ∷ pos 62_260_539 ∷ [];
      mass = 927_852 ∷ 68_803 ∷ [];
      base = 304_844 ∷ 21_206 ∷ [];
      carried = pos 11_927 ∷ pos 18_756 ∷ pos 4_160 ∷ [];
      cell_length = 1_000;
      held = held_with before.held.boundaries (record {
        left = record { water_in = 22_379; water_out = 0; mass_in = 73_164; mass_out = 0 };
        right = record { water_in = 0; water_out = 6_160; mass_in = 0; mass_out = 8_000 };
      }) (listed (outlet 1 60_000 6_819 53_380 186_245 ∷ outlet 0 1_000 1_000 2_000 2_903 ∷ outlet 1 0 0 0 0 ∷ outlet 1 90_000 10_227 80_068 279_365 ∷ []));
    };
  }
  -- with a want of 2,438 alone the 6,160 carried and 118,840 drawn are all of its 125,000: the sums are kept, and what is drawn adds up. With one unit more they are not
  pub kept_again : transports (wanting_less 2_438) 100 0 ≡ false
  pub kept_list : (step (wanting_less 2_438) 100 0).reach.held.outlets
      ≡ listed (outlet 1 2_438 48_999 48_999 0 ∷ outlet 0 1_000 2_000 2_000 0 ∷ outlet 1 0 0 0 0 ∷ outlet 1 0 69_841 69_841 0 ∷ [])
  pub not_kept : transports (wanting_less 2_439) 100 0 ≡ true
  -- an outlet's total counts for ground 13: 10^18 − 46,561 has room for what it draws, one unit more has not
  pub total_met : (step (lending fed (wanting 999_999_999_999_953_439)) 100 0).refusal ≡ 0
  pub total_passed : (step (lending fed (wanting 999_999_999_999_953_440)) 100 0).refusal ≡ 13
