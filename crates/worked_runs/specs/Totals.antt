-- Document 01, 'The list of demand 3 and its tally': all eight totals of a run with open and fed boundaries, by the ledger (its 'book') and by
-- the tally. Two cells, X 1,000 mm, no outlet.
use Rattle.std.specs.Prelude.{◌≡◌, List, [], ◌∷◌, ℕ, pos, neg_ℤ}
use Rattle.outlet.specs.Outlets.{no_outlets}
use Rattle.reach.specs.Outcome.{Outcome}
use Rattle.reach.specs.declared.boundary.Boundary.{Boundary}
use Rattle.reach.specs.declared.ledger.Ledger.{Ledger}
use Rattle.sheet.specs.Opening.{lent, opening}
use Rattle.tally.specs.Call.{Call, step_call, transport_call, boundaries_call, greatest_call, write_call, Entry, final}
use Rattle.tally.specs.Tally.{start, run}

-- 40,000 and 35,000 of water flow to the right; both boundaries are open, at concentrations 13 and 11
abbrev pub run_sheet : List ℕ
run_sheet =
    1 ∷ 0 ∷ 0 ∷ 0  -- edition 1
    ∷ 128 ∷ 0 ∷ 0 ∷ 0  -- length 128
    ∷ 2 ∷ 0 ∷ 0 ∷ 0  -- n 2
    ∷ 232 ∷ 3 ∷ 0 ∷ 0  -- X 1,000
    ∷ 80 ∷ 0 ∷ 0 ∷ 0  -- bed levels from 80 on
    ∷ 88 ∷ 0 ∷ 0 ∷ 0  -- depths from 88 on
    ∷ 96 ∷ 0 ∷ 0 ∷ 0  -- discharges from 96 on
    ∷ 112 ∷ 0 ∷ 0 ∷ 0  -- masses from 112 on
    ∷ 1 ∷ 0 ∷ 0 ∷ 0  -- left: kind 1
    ∷ 0 ∷ 0 ∷ 0 ∷ 0  -- depth 0
    ∷ 13 ∷ 0 ∷ 0 ∷ 0  -- concentration 13
    ∷ 0 ∷ 0 ∷ 0 ∷ 0  -- reserved, the paper's 'zero'
    ∷ 0 ∷ 0 ∷ 0 ∷ 0 ∷ 0 ∷ 0 ∷ 0 ∷ 0  -- discharge 0
    ∷ 1 ∷ 0 ∷ 0 ∷ 0  -- right: kind 1
    ∷ 0 ∷ 0 ∷ 0 ∷ 0  -- depth 0
    ∷ 11 ∷ 0 ∷ 0 ∷ 0  -- concentration 11
    ∷ 0 ∷ 0 ∷ 0 ∷ 0  -- reserved
    ∷ 0 ∷ 0 ∷ 0 ∷ 0 ∷ 0 ∷ 0 ∷ 0 ∷ 0  -- discharge 0
    ∷ 0 ∷ 0 ∷ 0 ∷ 0  -- bed level 0
    ∷ 232 ∷ 3 ∷ 0 ∷ 0  -- bed level 1,000
    ∷ 64 ∷ 156 ∷ 0 ∷ 0  -- depth 40,000
    ∷ 184 ∷ 136 ∷ 0 ∷ 0  -- depth 35,000
    ∷ 128 ∷ 141 ∷ 91 ∷ 0 ∷ 0 ∷ 0 ∷ 0 ∷ 0  -- discharge 6,000,000
    ∷ 192 ∷ 198 ∷ 45 ∷ 0 ∷ 0 ∷ 0 ∷ 0 ∷ 0  -- discharge 3,000,000
    ∷ 145 ∷ 95 ∷ 1 ∷ 0 ∷ 0 ∷ 0 ∷ 0 ∷ 0  -- mass 90,001
    ∷ 83 ∷ 195 ∷ 0 ∷ 0 ∷ 0 ∷ 0 ∷ 0 ∷ 0 ∷ []  -- mass 50,003

-- then both are fed: at the left 5,000 at rest and concentration 7, at the right 60,000 at −150 mm/s and concentration 5
abbrev pub fed_pair : List Boundary
fed_pair =
    record { kind = 2; reserved = 0; depth = 5_000; concentration = 7; discharge = pos 0 }
    ∷ record { kind = 2; reserved = 0; depth = 60_000; concentration = 5; discharge = neg_ℤ (pos 9_000_000) }
    ∷ []

abbrev pub entry : Call → Entry
entry c = record { free = record { wants = [] }; call = c }

-- the step of 0 is refused by 10 and the write by 14, since water is carried
abbrev pub calls : List Entry
calls =
    entry (step_call 100 0)
    ∷ entry (step_call 0 0)
    ∷ entry (boundaries_call fed_pair)
    ∷ entry greatest_call
    ∷ entry (step_call 100 0)
    ∷ entry (write_call 128)
    ∷ entry transport_call
    ∷ []

abbrev pub opened : Outcome
opened = opening run_sheet (lent (pos 0 ∷ pos 0 ∷ []) (0 ∷ 0 ∷ []) (pos 0 ∷ pos 0 ∷ []) (0 ∷ 0 ∷ []) (0 ∷ 0 ∷ []) (pos 0 ∷ pos 0 ∷ pos 0 ∷ []) no_outlets)

-- first step: 600 in at the left, 297 out at the right; the setting moves 600·13 grains in and floor(50,003·297 / 35,000) out.
-- Second step: 465 out at the left, 1,089 in at the right; the transport moves 1,089·5 grains in, and out
-- floor(96,514·(573 + 465) / 40,028) − floor(96,514·573 / 40,028)
abbrev pub totals : Ledger
totals = record {
  left = record { water_in = 600; water_out = 465; mass_in = 7_800; mass_out = 1_121 };
  right = record { water_in = 1_089; water_out = 297; mass_in = 5_445; mass_out = 424 };
}

pub record TotalsWorked : Type 0 where
  pub accepted : opened.refusal ≡ 0
  pub ledger : (final opened.reach calls).held.ledger ≡ totals
  pub sums : (run (start run_sheet no_outlets) calls).sums ≡ totals
  -- 75,000 of water and 600 + 1,089 − 465 − 297; 140,004 grains and 7,800 + 5,445 − 1,121 − 424
  pub depths : (final opened.reach calls).depth ≡ 38_990 ∷ 36_937 ∷ []
  pub masses : (final opened.reach calls).mass ≡ 94_012 ∷ 57_692 ∷ []
