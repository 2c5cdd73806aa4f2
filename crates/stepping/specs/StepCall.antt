-- Document 01, 'A water step' and 'Grounds for refusal': what the call of a step answers and leaves, accepted or refused.
use Rattle.std.specs.Prelude.{◌≡◌, false, List, ℕ, ℤ}
use Rattle.reach.specs.Reach.{Reach}
use Rattle.reach.specs.declared.held.Held.{Held}
use Rattle.stepping.specs.declared.step.StepAnswer.{StepAnswer}
use Rattle.update.specs.Step.{step, transports}

-- a refusal: its number, the boundaries and the ledger as they came, no transport
abbrev pub stopped_by : ℕ → Held → StepAnswer
stopped_by n k = record { refusal = n; held = k; transported = false }

-- a step of t with Strickler's coefficient F came out as `step` says: every field of its answer, and every column that it may write
pub record StepCameTo (s : Reach) (t F : ℕ) (r : StepAnswer) (depth : List ℕ) (discharge : List ℤ) (mass base : List ℕ) (carried : List ℤ) : Type 0 where
  pub refusal_is : r.refusal ≡ (step s t F).refusal
  pub held_is : r.held ≡ (step s t F).reach.held
  pub transported_is : r.transported ≡ transports s t F
  pub depth_is : depth ≡ (step s t F).reach.depth
  pub discharge_is : discharge ≡ (step s t F).reach.discharge
  pub mass_is : mass ≡ (step s t F).reach.mass
  pub base_is : base ≡ (step s t F).reach.base
  pub carried_is : carried ≡ (step s t F).reach.carried
