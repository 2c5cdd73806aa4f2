-- Not the paper's: a driver that plays a list of calls through the functions themselves, on lent columns, output and answers. `Replays` and
-- `ReplayCameTo` say demand 3 of it once more, as of a program that runs. A reader of the model may skip this file.
use Rattle.std.specs.Prelude.{◌≡◌, Bool, true, false, List, [], ◌∷◌, ℕ, suc, ◌+◌, ◌*◌, ℤ, length, set}
use Rattle.reach.specs.Reach.{Reach, reach_of}
use Rattle.sheet.specs.Opening.{opening}
use Rattle.tally.specs.Call.{Entry, refusal_of, next}
use Rattle.tally.specs.Tally.{start, run}
use Rattle.tally.specs.Holds.{Holds}
use Rattle.script.specs.Script.{script}
use Rattle.player.specs.Plays.{transported_by, time_by, place_by, output_of}
use Rattle.driver.specs.declared.Replayed.{Replayed}

-- 1 for yes
abbrev pub flag : Bool → ℕ
flag false = 0
flag true = 1

-- four words an answer, as far as there is room: its number, whether the step transported, the greatest time step and its place
unfoldable pub noted : (answers : List ℕ) (j refusal transported time place : ℕ) → List ℕ
noted a j refusal transported time place =
    set (set (set (set a (4 * j) refusal) (4 * j + 1) transported) (4 * j + 2) time) (4 * j + 3) place

pub record World : Type 0 where
  pub reach : Reach
  pub out : List ℕ
  pub answers : List ℕ

abbrev pub world : Reach → (out answers : List ℕ) → World
world s out a = record { reach = s; out = out; answers = a }

-- entry j
unfoldable pub played_one : World → (j : ℕ) → Entry → World
played_one w j e =
    let s = w.reach in
    let f = e.free in
    let c = e.call in
    world (next s f c) (output_of s f c w.out) (noted w.answers j (refusal_of s f c) (flag (transported_by s f c)) (time_by s f c) (place_by s f c))

-- the entries from entry j on
unfoldable pub played_from : World → (j : ℕ) → List Entry → World
played_from w j [] = w
played_from w j (e ∷ es) = played_from (played_one w j e) (suc j) es

-- ---- demand 3

-- after an accepted opening: the statement of demand 3, of the columns as lent, the ledger and the outlets as last handed back; and all that was
-- lent or handed back, by the definitions
pub record Replays (sheet words sheets : List ℕ) (l : Reach) (out answers : List ℕ) (s' : Reach) (out' answers' : List ℕ) : Type 0 where
  pub holds : Holds (run (start sheet l.held.outlets) (script words sheets (length out))) s'
  pub all_is : world s' out' answers' ≡ played_from (world (opening sheet l).reach out answers) 0 (script words sheets (length out))

-- the number of the first opening; after a refused one all that was lent stands as it came, and X, boundaries, ledger and outlets are those of its answer
pub record ReplayCameTo (sheet words sheets : List ℕ) (l : Reach) (out answers : List ℕ) (r : Replayed) (bed : List ℤ) (depth : List ℕ) (discharge : List ℤ) (mass base : List ℕ) (carried : List ℤ) (out' answers' : List ℕ) : Type 0 where
  pub refusal_is : r.refusal ≡ (opening sheet l).refusal
  pub plays : (opening sheet l).refusal ≡ 0 → Replays sheet words sheets l out answers (reach_of bed depth discharge mass base carried r.cell_length r.held) out' answers'
  pub stays : ((opening sheet l).refusal ≡ 0 → ⊥) → world (reach_of bed depth discharge mass base carried r.cell_length r.held) out' answers' ≡ world l out answers
