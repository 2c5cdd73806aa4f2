-- Document 01, 'A water step': whole steps beside open and fed boundaries (its 'ends'): the cut of q', and the transport test (its 'settling test'), once met and
-- once not. X 1,000 mm, t 100 ms.
use Rattle.std.specs.Prelude.{◌≡◌, true, false, List, [], ◌∷◌, ℕ, ℤ, pos, neg_ℤ}
use Rattle.reach.specs.Reach.{Reach, held_with}
use Rattle.outlet.specs.Outlets.{no_outlets}
use Rattle.reach.specs.declared.boundary.Boundary.{Boundary}
use Rattle.reach.specs.declared.ledger.Ledger.{Ledger}
use Rattle.sheet.specs.Opening.{empty_totals, empty_ledger}
use Rattle.update.specs.Step.{step, transports}

abbrev pub fed_by : (h k : ℕ) (q : ℤ) → Boundary
fed_by h k q = record { kind = 2; reserved = 0; depth = h; concentration = k; discharge = q }

-- two dry cells, and 100,000 of water at 8,000 mm/s towards them from either side
abbrev pub dry : Reach
dry = record {
  bed = pos 0 ∷ pos 0 ∷ [];
  depth = 0 ∷ 0 ∷ [];
  discharge = pos 0 ∷ pos 0 ∷ [];
  mass = 0 ∷ 0 ∷ [];
  base = 0 ∷ 0 ∷ [];
  carried = pos 0 ∷ pos 0 ∷ pos 0 ∷ [];
  cell_length = 1_000;
  held = held_with (fed_by 100_000 0 (pos 800_000_000) ∷ fed_by 100_000 0 (neg_ℤ (pos 800_000_000)) ∷ []) empty_ledger no_outlets;
}

-- two cells over a bed that rises by 20,000, of base depths 300,000 and 100,000; the left boundary is fed, at 500 mm/s and concentration 7, the right one open at 3
abbrev pub carrying : (right_depth : ℕ) (c : List ℤ) (k : Ledger) → Reach
carrying h c k = record {
  bed = pos 0 ∷ pos 20_000 ∷ [];
  depth = 310_000 ∷ h ∷ [];
  discharge = pos 60_000_000 ∷ pos 20_000_000 ∷ [];
  mass = 900_001 ∷ 500_003 ∷ [];
  base = 300_000 ∷ 100_000 ∷ [];
  carried = c;
  cell_length = 1_000;
  held = held_with (fed_by 300_000 7 (pos 150_000_000) ∷ record { kind = 1; reserved = 0; depth = 0; concentration = 3; discharge = pos 0 } ∷ []) k no_outlets;
}

-- after the step the right cell has sent 98,002 + 1,998 of its 100,000, all of them; or 98,001 + 2,000, one more than it had. The running depth, 60,000 and 125,000,
-- would say the opposite of both
abbrev pub keeping : Reach
keeping = carrying 60_000 (pos 68_002 ∷ pos 58_002 ∷ pos 98_002 ∷ []) empty_ledger

-- after so much mass came in at the left
abbrev pub transporting_after : (mass : ℕ) → Reach
transporting_after mass =
    carrying 125_000 (pos 133_001 ∷ pos 123_001 ∷ pos 98_001 ∷ []) (record {
      left = record { water_in = 0; water_out = 0; mass_in = mass; mass_out = 0 };
      right = empty_totals;
    })

abbrev pub transporting : Reach
transporting = transporting_after 0

pub record StepsWorked : Type 0 where
  -- W = 100,000·100·8,000 / 1,000,000 enters at either side, as u is above a
  pub cut_depths : (step dry 100 0).reach.depth ≡ 80_000 ∷ 80_000 ∷ []
  -- Q = 10·64,490,456 = 644,904,560, moved to ±8,000·80,000
  pub cut_discharges : (step dry 100 0).reach.discharge ≡ pos 640_000_000 ∷ neg_ℤ (pos 640_000_000) ∷ []
  -- the sums are kept: N is 10,452, 17,320 and 1,998. A transport at this step would leave c = N, base depths 310,000 and 60,000, and masses 1,202,009 and 183,997
  pub kept : transports keeping 100 0 ≡ false
  pub kept_step : step keeping 100 0 ≡ record {
    refusal = 0;
    reach = record {
      bed = pos 0 ∷ pos 20_000 ∷ [];
      depth = 303_132 ∷ 75_322 ∷ [];
      discharge = pos 86_526_997 ∷ pos 44_774_406 ∷ [];
      mass = 900_001 ∷ 500_003 ∷ [];
      base = 300_000 ∷ 100_000 ∷ [];
      carried = pos 78_454 ∷ pos 75_322 ∷ pos 100_000 ∷ [];
      cell_length = 1_000;
      held = held_with keeping.held.boundaries (record {
        left = record { water_in = 10_452; water_out = 0; mass_in = 0; mass_out = 0 };
        right = record { water_in = 0; water_out = 1_998; mass_in = 0; mass_out = 0 };
      }) no_outlets;
    };
  }
  -- they are not: a transport with the old c first, then c is this step's N. 133,001·7 came in, floor(900,001·123,001 / 300,000) = 369,003 went over the middle,
  -- floor(500,003·98,001 / 100,000) = 490,007 went out
  pub transported : transports transporting 100 0 ≡ true
  pub transported_step : step transporting 100 0 ≡ record {
    refusal = 0;
    reach = record {
      bed = pos 0 ∷ pos 20_000 ∷ [];
      depth = 305_844 ∷ 137_608 ∷ [];
      discharge = pos 84_131_853 ∷ pos 41_609_377 ∷ [];
      mass = 1_462_005 ∷ 378_999 ∷ [];
      base = 310_000 ∷ 125_000 ∷ [];
      carried = pos 10_452 ∷ pos 14_608 ∷ pos 2_000 ∷ [];
      cell_length = 1_000;
      held = held_with transporting.held.boundaries (record {
        left = record { water_in = 10_452; water_out = 0; mass_in = 931_007; mass_out = 0 };
        right = record { water_in = 0; water_out = 2_000; mass_in = 0; mass_out = 490_007 };
      }) no_outlets;
    };
  }
  -- its mass counts for ground 13: 10^18 − 931,007 has room for it, one grain more has not
  pub total_met : (step (transporting_after 999_999_999_999_068_993) 100 0).refusal ≡ 0
  pub total_passed : (step (transporting_after 999_999_999_999_068_994) 100 0).refusal ≡ 13
