-- Laws of the program: its text by what it met. Assumes nothing.
use mathlib.Core.Path.{◌≡◌, refl, sym, ap, ◌∙◌}
use mathlib.Core.Bool.{true, false}
use mathlib.Core.List.{List, ◌∷◌}
use Prim.Native.Nat.{ℕ, zero, suc, ◌+◌, ◌-◌, ◌/◌, ◌≤◌}
use native.Mathlib.Nat.{le_of_suc-le-suc}
use native.Mathlib.Omega.{arith}
use borrow.Author.Tests.{eq-eqb, ne_eqb, leb-true}
use lib.IntN.{ℤ, pos}
use lib.ListN.{length, take, replicate}
use Rattle.reach.specs.Reach.{Reach}
use Rattle.reach.specs.Grounds.{first_refusal}
use Rattle.reach.specs.Outcome.{Outcome}
use Rattle.encoding.specs.FromBytes.{number_at}
use Rattle.outlet.specs.Outlets.{no_outlets}
use Rattle.sheet.specs.Opening.{lent}
use Rattle.play.specs.Play.{played}
use Rattle.play.specs.Ranges.{PlayedTo}
use Rattle.play.specs.declared.Ran.{Ran}
use Rattle.report.specs.Report.{report_text, refused_text, outcome_text}
use Rattle.program.specs.Program.{blank, trailer_fits, input_fits, program_text}

-- the text of an outcome
pub refused_text_lem : {o : Outcome} {r : Ran} {z : List ℤ} {h : List ℕ} {q : List ℤ} {m b : List ℕ} {c : List ℤ} → PlayedTo o r z h q m b c → (r.refusal ≡ 0 → ⊥) → refused_text r.refusal ≡ outcome_text o
unfolding outcome_text
refused_text_lem {o} k n = rw (ne_eqb o.refusal 0 (λ z. n (k.refusal_is ∙ z)), ← k.refusal_is) refl

pub report_text_lem : {o : Outcome} {r : Ran} {z : List ℤ} {h : List ℕ} {q : List ℤ} {m b : List ℕ} {c : List ℤ} → PlayedTo o r z h q m b c → r.refusal ≡ 0 → report_text h q m r.held.ledger ≡ outcome_text o
unfolding outcome_text
report_text_lem {o} k e =
    let z = sym k.refusal_is ∙ e in
    rw (eq-eqb o.refusal 0 z, k.depth_is, k.discharge_is, k.mass_is, k.held_is) refl

-- the columns that the program lends
take_replicate : {A : Type 0} (x : A) (m n : ℕ) → n ≤ m → take n (replicate m x) ≡ replicate n x
take_replicate x m zero l = refl
take_replicate x zero (suc n) l = absurd (omega arith)
take_replicate x (suc m) (suc n) l = ap (λ r. x ∷ r) (take_replicate x m n (le_of_suc-le-suc l))

pub blank_is : (n : ℕ) → n ≤ 512
    → lent (take n (replicate 512 (pos 0))) (take n (replicate 512 0)) (take n (replicate 512 (pos 0))) (take n (replicate 512 0)) (take n (replicate 512 0)) (take (n + 1) (replicate 513 (pos 0))) no_outlets
    ≡ blank n
unfolding blank
blank_is n l =
    rw (take_replicate (pos 0) 512 n l, take_replicate {A = ℕ} 0 512 n l, take_replicate (pos 0) 513 (n + 1) (omega arith)) refl

-- the program's text by the length of its input
module _ (input : List ℕ) where
  pub too_short : trailer_fits (length input) ≡ false → refused_text 1 ≡ program_text input
  unfolding program_text first_refusal outcome_text
  too_short f = rw f refl

  module _ (f : trailer_fits (length input) ≡ true) where
    pub too_long : input_fits (length input) ≡ false → refused_text 2 ≡ program_text input
    unfolding program_text first_refusal outcome_text
    too_long g = rw (f, g) refl

    pub program_is : input_fits (length input) ≡ true → (n count t : ℕ) (l : Reach) → n ≡ (length input - 8 - 80) / 24 → l ≡ blank n
        → count ≡ number_at 4 input (length input - 8) → t ≡ number_at 4 input (length input - 8 + 4)
        → outcome_text (played (take (length input - 8) input) l count t) ≡ program_text input
    unfolding program_text first_refusal
    program_is g n count t l e h i j = rw (f, g, h, e, i, j) refl

-- and what the limits tell of it
pub trailer_there : (size : ℕ) → trailer_fits size ≡ true → 8 ≤ size
unfolding trailer_fits
trailer_there size e = leb-true _ _ e

pub input_short : (size : ℕ) → input_fits size ≡ true → size ≤ 12_376
unfolding input_fits
input_short size e = leb-true _ _ e
