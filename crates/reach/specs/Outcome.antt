-- Document 01, 'Grounds for refusal': what a call comes to, the number of its refusal, 0 for none, and the record that it leaves.
use Rattle.std.specs.Prelude.{ℕ, Ok, Err}
use Rattle.reach.specs.Reach.{Reach}
use Rattle.reach.specs.Refusals.{number}
use Rattle.reach.specs.Grounds.{Verdict}

pub record Outcome : Type 0 where
  pub refusal : ℕ
  pub reach : Reach

-- a call that none of its grounds stops leaves t; a refused call leaves the record s as it came
abbrev pub outcome : Verdict → (s t : Reach) → Outcome
outcome (Ok u) s t = record { refusal = 0; reach = t }
outcome (Err r) s t = record { refusal = number r; reach = s }
