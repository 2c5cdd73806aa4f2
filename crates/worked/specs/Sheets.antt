-- Document 01, 'The sheet': sheets of one cell, byte by byte, read into a record and written back.
use Rattle.std.specs.Prelude.{◌≡◌, List, [], ◌∷◌, ◌++◌, ℕ, pos, neg_ℤ, replicate}
use Rattle.reach.specs.Reach.{Reach, no_boundary, held_with}
use Rattle.outlet.specs.Outlets.{no_outlets}
use Rattle.reach.specs.declared.boundary.Boundary.{Boundary}
use Rattle.sheet.specs.Opening.{empty_ledger, lent, opening}
use Rattle.writing.specs.Writing.{output_after}

-- the columns in the writer's order, both boundaries fed; no two fields have the same value but edition and n, the two kinds and the two reserved fields
abbrev pub fed_sheet : List ℕ
fed_sheet =
    1 ∷ 0 ∷ 0 ∷ 0  -- edition 1
    ∷ 104 ∷ 0 ∷ 0 ∷ 0  -- length 104
    ∷ 1 ∷ 0 ∷ 0 ∷ 0  -- n 1
    ∷ 3 ∷ 4 ∷ 0 ∷ 0  -- X 1,027
    ∷ 80 ∷ 0 ∷ 0 ∷ 0  -- bed levels from 80 on
    ∷ 84 ∷ 0 ∷ 0 ∷ 0  -- depths from 84 on
    ∷ 88 ∷ 0 ∷ 0 ∷ 0  -- discharges from 88 on
    ∷ 96 ∷ 0 ∷ 0 ∷ 0  -- masses from 96 on
    ∷ 2 ∷ 0 ∷ 0 ∷ 0  -- left: kind 2
    ∷ 3 ∷ 2 ∷ 1 ∷ 0  -- depth 66,051
    ∷ 5 ∷ 6 ∷ 0 ∷ 0  -- concentration 1,541
    ∷ 0 ∷ 0 ∷ 0 ∷ 0  -- reserved, the paper's 'zero'
    ∷ 121 ∷ 41 ∷ 237 ∷ 255 ∷ 255 ∷ 255 ∷ 255 ∷ 255  -- discharge −1,234,567
    ∷ 2 ∷ 0 ∷ 0 ∷ 0  -- right: kind 2
    ∷ 8 ∷ 8 ∷ 7 ∷ 0  -- depth 460,808
    ∷ 10 ∷ 10 ∷ 0 ∷ 0  -- concentration 2,570
    ∷ 0 ∷ 0 ∷ 0 ∷ 0  -- reserved
    ∷ 51 ∷ 34 ∷ 17 ∷ 0 ∷ 0 ∷ 0 ∷ 0 ∷ 0  -- discharge 1,122,867
    ∷ 144 ∷ 238 ∷ 254 ∷ 255  -- bed level −70,000
    ∷ 1 ∷ 2 ∷ 4 ∷ 0  -- depth 262,657
    ∷ 79 ∷ 151 ∷ 33 ∷ 197 ∷ 255 ∷ 255 ∷ 255 ∷ 255  -- discharge −987,654,321
    ∷ 122 ∷ 20 ∷ 174 ∷ 71 ∷ 1 ∷ 0 ∷ 0 ∷ 0 ∷ []  -- mass 5,497,558,138

-- the columns in the opposite order, a wall at the left and an open boundary at the right
abbrev pub turned_sheet : List ℕ
turned_sheet =
    1 ∷ 0 ∷ 0 ∷ 0  -- edition 1
    ∷ 104 ∷ 0 ∷ 0 ∷ 0  -- length 104
    ∷ 1 ∷ 0 ∷ 0 ∷ 0  -- n 1
    ∷ 3 ∷ 4 ∷ 0 ∷ 0  -- X 1,027
    ∷ 100 ∷ 0 ∷ 0 ∷ 0  -- bed levels from 100 on
    ∷ 96 ∷ 0 ∷ 0 ∷ 0  -- depths from 96 on
    ∷ 88 ∷ 0 ∷ 0 ∷ 0  -- discharges from 88 on
    ∷ 80 ∷ 0 ∷ 0 ∷ 0  -- masses from 80 on
    ∷ 0 ∷ 0 ∷ 0 ∷ 0  -- left: kind 0
    ∷ 0 ∷ 0 ∷ 0 ∷ 0  -- depth 0
    ∷ 0 ∷ 0 ∷ 0 ∷ 0  -- concentration 0
    ∷ 0 ∷ 0 ∷ 0 ∷ 0  -- reserved
    ∷ 0 ∷ 0 ∷ 0 ∷ 0 ∷ 0 ∷ 0 ∷ 0 ∷ 0  -- discharge 0
    ∷ 1 ∷ 0 ∷ 0 ∷ 0  -- right: kind 1
    ∷ 0 ∷ 0 ∷ 0 ∷ 0  -- depth 0
    ∷ 9 ∷ 0 ∷ 0 ∷ 0  -- concentration 9
    ∷ 0 ∷ 0 ∷ 0 ∷ 0  -- reserved
    ∷ 0 ∷ 0 ∷ 0 ∷ 0 ∷ 0 ∷ 0 ∷ 0 ∷ 0  -- discharge 0
    ∷ 122 ∷ 20 ∷ 174 ∷ 71 ∷ 1 ∷ 0 ∷ 0 ∷ 0  -- mass 5,497,558,138
    ∷ 79 ∷ 151 ∷ 33 ∷ 197 ∷ 255 ∷ 255 ∷ 255 ∷ 255  -- discharge −987,654,321
    ∷ 1 ∷ 2 ∷ 4 ∷ 0  -- depth 262,657
    ∷ 144 ∷ 238 ∷ 254 ∷ 255 ∷ []  -- bed level −70,000

-- columns lent for one cell
abbrev pub lent_one : Reach
lent_one = lent (pos 0 ∷ []) (0 ∷ []) (pos 0 ∷ []) (0 ∷ []) (0 ∷ []) (pos 0 ∷ pos 0 ∷ []) no_outlets

-- the record of the cell between given boundaries: b = h, c = 0, an empty ledger
abbrev pub cell_between : (left right : Boundary) → Reach
cell_between left right = record {
  bed = neg_ℤ (pos 70_000) ∷ [];
  depth = 262_657 ∷ [];
  discharge = neg_ℤ (pos 987_654_321) ∷ [];
  mass = 5_497_558_138 ∷ [];
  base = 262_657 ∷ [];
  carried = pos 0 ∷ pos 0 ∷ [];
  cell_length = 1_027;
  held = held_with (left ∷ right ∷ []) empty_ledger no_outlets;
}

abbrev pub fed_record : Reach
fed_record =
    cell_between
    (record { kind = 2; reserved = 0; depth = 66_051; concentration = 1_541; discharge = neg_ℤ (pos 1_234_567) })
    (record { kind = 2; reserved = 0; depth = 460_808; concentration = 2_570; discharge = pos 1_122_867 })

pub record SheetsWorked : Type 0 where
  pub opened : opening fed_sheet lent_one ≡ record { refusal = 0; reach = fed_record }
  -- into an output of 106 bytes, all 9: the last two keep their values
  pub written_back : output_after fed_record (replicate 106 9) ≡ fed_sheet ++ 9 ∷ 9 ∷ []
  pub opened_turned : opening turned_sheet lent_one ≡ record {
    refusal = 0;
    reach = cell_between no_boundary (record { kind = 1; reserved = 0; depth = 0; concentration = 9; discharge = pos 0 });
  }
