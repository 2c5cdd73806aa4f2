-- Demand 2: 'a settled record written to a sheet reads back as that record with an empty book, and a sheet in the writer's column order
-- is written again byte for byte'; document 02, point 1: 'the sheet does not hold it', the list of outlets, 'so a record read back has the outlets lent to that opening'.
use Rattle.std.specs.Prelude.{◌≡◌, true, List, ℕ, ◌+◌, ◌≤◌, ◌<◌, length, get_or, take}
use Rattle.outlet.specs.Outlets.{cleared}
use Rattle.outlet.specs.declared.Outlets.{Outlets}
use Rattle.reach.specs.Reach.{Reach, cells, reach_of, held_with}
use Rattle.reach.specs.Grounds.{outlets_fit}
use Rattle.sheet.specs.Header.{sheet_size, beds_at, depths_at, discharges_at, masses_at}
use Rattle.sheet.specs.Opening.{empty_ledger, opening}
use Rattle.encoding.specs.ToBytes.{written}
use Rattle.writing.specs.Writing.{write_refusal, output_after}
use Rattle.std.specs.Prelude.{Ok}

-- columns lent to an opening have the lengths that n cells want
pub record LentFor (n : ℕ) (l : Reach) : Type 0 where
  pub beds : length l.bed ≡ n
  pub depths : length l.depth ≡ n
  pub discharges : length l.discharge ≡ n
  pub masses : length l.mass ≡ n
  pub bases : length l.base ≡ n
  pub interfaces : length l.carried ≡ n + 1

-- the record as it is read back: an empty ledger, and the outlets lent to that opening, their drawn water and totals 0
abbrev pub read_back : Reach → (lent : Outlets) → Reach
read_back s os =
    reach_of s.bed s.depth s.discharge s.mass s.base s.carried s.cell_length (held_with s.held.boundaries empty_ledger (cleared os))

-- a record that a write accepts, so one that carries nothing and of which nothing is drawn, the paper's 'settled': the sheet in the output opens, in whatever columns are lent
-- for its cells and with whatever outlets that ground 16 takes, as that record, all columns, X and boundaries, with an empty ledger and those outlets. (The pair of boundaries is
-- an array of two.)
abbrev pub ReadsBack : Type 0
ReadsBack =
    (s : Reach) (out : List ℕ) (l : Reach) →
    length s.held.boundaries ≡ 2 →
    write_refusal s (length out) ≡ Ok tt →
    LentFor (cells s) l →
    outlets_fit (cells s) l.held.outlets ≡ true →
    opening (take (sheet_size (cells s)) (output_after s out)) l ≡ record { refusal = 0; reach = read_back s l.held.outlets }

-- the sheet has its columns in the writer's order; where it opens there is no room between them (`in_place`)
pub record InWritersOrder (sheet : List ℕ) : Type 0 where
  pub beds_first : beds_at sheet < depths_at sheet
  pub depths_next : depths_at sheet < discharges_at sheet
  pub masses_last : discharges_at sheet < masses_at sheet

-- a sheet of bytes in the writer's order that opens, with whatever outlets it is lent, is written again byte for byte, header and boundaries included, at the start of any
-- output that has room for it
abbrev pub WrittenAgain : Type 0
WrittenAgain =
    (sheet : List ℕ) (l : Reach) (out : List ℕ) →
    ((i : ℕ) → i < length sheet → get_or sheet i 0 < 256) →
    InWritersOrder sheet →
    (opening sheet l).refusal ≡ 0 →
    length sheet ≤ length out →
    (write_refusal (opening sheet l).reach (length out) ≡ Ok tt) × (output_after (opening sheet l).reach out ≡ written sheet out)
