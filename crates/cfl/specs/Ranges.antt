-- Not the paper's: what the inner functions require and give. A reader of the model may skip this file.
use Rattle.std.specs.Prelude.{◌≡◌, List, ℕ, suc, ◌*◌, ◌≤◌, ◌<◌, ℤ, pos, nat_abs, leb, length, get_or}
use Rattle.numbers.specs.Search.{climb}
use Rattle.flux.specs.Limits.{depth_most, velocity_most, time_step_most}

-- depth and discharge of a cell
pub record Flowing (h : ℕ) (q : ℤ) : Type 0 where
  pub depth : h ≤ depth_most
  pub discharge : nat_abs q ≤ velocity_most * h

-- of every cell
pub record FlowColumns (h : List ℕ) (q : List ℤ) : Type 0 where
  pub long : length q ≡ length h
  -- far above any reach: a place fits its type
  pub few : length h ≤ 1_000_000
  pub each : (i : ℕ) → i < length h → Flowing (get_or h i 0) (get_or q i (pos 0))

-- the greatest step for one speed alone; `greatest_step_is` says that the greatest speed decides
unfoldable pub step_for : (X v : ℕ) → ℕ
step_for X v = climb (λ t. leb (suc t * v) (1_000 * X)) time_step_most 0
