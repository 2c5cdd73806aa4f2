-- Document 01, 'Figures to meet': the program opens, steps and transports (the paper: 'settles').
use Rattle.std.specs.Prelude.{Bool, cond, List, ℕ, zero, suc, leb, eqb}
use Rattle.reach.specs.Reach.{Reach}
use Rattle.reach.specs.Grounds.{pass_or}
use Rattle.reach.specs.Outcome.{Outcome, outcome}
use Rattle.transport.specs.Calls.{transport}
use Rattle.update.specs.Step.{step}
use Rattle.sheet.specs.Opening.{opening}
use Rattle.reach.specs.declared.refusal.Refusal.TheVariants as refusal

-- what a refusal stops, and what is done after an accepted call
abbrev pub and_then : Outcome → (Reach → Outcome) → Outcome
and_then o f = cond (eqb o.refusal 0) (f o.reach) o

-- k steps of t, one after the other, without friction: 'F is given with the step, 0 by the program' (document 02, point 4)
unfoldable pub steps : (k t : ℕ) → Reach → Outcome
steps zero t s = record { refusal = 0; reach = s }
steps (suc k) t s = and_then (step s t 0) (λ r. steps k t r)

abbrev pub count_most : ℕ
count_most = 1_000

unfoldable pub count_fits : ℕ → Bool
count_fits count = leb count count_most

-- a count over 1,000 is 10; with a count of 0, t is not looked at
unfoldable pub steps_then_transports : (count t : ℕ) → Reach → Outcome
steps_then_transports count t s = and_then (outcome (pass_or refusal.TimeStep (count_fits count)) s s) (λ r. and_then (steps count t r) transport)

-- opens into the lent columns l, steps, transports
unfoldable pub played : (s : List ℕ) → Reach → (count t : ℕ) → Outcome
played s l count t = and_then (opening s l) (steps_then_transports count t)
