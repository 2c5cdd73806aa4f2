-- Document 01, 'Figures to meet': the program reads a sheet and then u32 step count and u32 t, plays them, and prints.
use Rattle.std.specs.Prelude.{Bool, List, [], ◌∷◌, ℕ, ◌+◌, ◌-◌, ◌/◌, leb, pos, length, take, replicate}
use Rattle.reach.specs.Reach.{Reach}
use Rattle.reach.specs.Grounds.{Ground, ground, first_refusal}
use Rattle.reach.specs.Outcome.{outcome}
use Rattle.encoding.specs.FromBytes.{number_at}
use Rattle.sheet.specs.Header.{header_size}
use Rattle.sheet.specs.Opening.{lent}
use Rattle.play.specs.Play.{and_then, played}
use Rattle.outlet.specs.Outlets.{no_outlets}
use Rattle.report.specs.Report.{outcome_text}
use Rattle.reach.specs.declared.refusal.Refusal.TheVariants as refusal

-- columns for as many cells as the sheet's bytes hold, and an empty list of outlets
unfoldable pub blank : ℕ → Reach
blank n =
    lent (replicate n (pos 0)) (replicate n 0) (replicate n (pos 0)) (replicate n 0) (replicate n 0) (replicate (n + 1) (pos 0)) no_outlets

-- the step count and t are there: 8 bytes
unfoldable pub trailer_fits : (size : ℕ) → Bool
trailer_fits size = leb 8 size

-- no more than those and the longest sheet
unfoldable pub input_fits : (size : ℕ) → Bool
input_fits size = leb size 12_376

-- under 8 bytes in all is 1, over 12,376 is 2
abbrev pub input_grounds : (size : ℕ) → List Ground
input_grounds size = ground refusal.Edition (trailer_fits size) ∷ ground refusal.Size (input_fits size) ∷ []

-- the two limits are looked at first; the sheet is all but the last 8 bytes
unfoldable pub program_text : List ℕ → List ℕ
program_text input =
    let k = length input - 8 in
    let columns = blank ((k - header_size) / 24) in
    outcome_text
    (and_then (outcome (first_refusal (input_grounds (length input))) columns columns) (λ l.
    played (take k input) l (number_at 4 input k) (number_at 4 input (k + 4))))
