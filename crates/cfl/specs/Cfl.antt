-- Document 01, 'A water step', CFL, and 'The greatest step'; document 02, point 2. Speeds in mm/s, t in ms, X in mm.
use Rattle.std.specs.Prelude.{List, Bool, cond, ℕ, zero, suc, ◌+◌, ◌*◌, ℤ, pos, nat_abs, length, get_or, leb, ltb}
use Rattle.numbers.specs.Index.{all_below}
use Rattle.numbers.specs.Search.{climb}
use Rattle.flux.specs.Limits.{time_step_most}
use Rattle.flux.specs.Velocity.{velocity}
use Rattle.flux.specs.Wave.{wave_speed}

-- |u|+a of a depth h with the discharge q
unfoldable pub signal_speed : (h : ℕ) (q : ℤ) → ℕ
signal_speed h q = nat_abs (velocity h q) + wave_speed h

-- |u|+a by place: 0 the left boundary, 1..n the cells, n+1 the right boundary; `left` and `right` are those of the boundaries
unfoldable pub speed_at : (h : List ℕ) (q : List ℤ) (left right place : ℕ) → ℕ
speed_at h q left right zero = left
speed_at h q left right (suc i) = cond (ltb i (length h)) (signal_speed (get_or h i 0) (get_or q i (pos 0))) right

-- CFL: t·(|u|+a) ≤ 1,000·X at each of the places 0..k
unfoldable pub meets_cfl : (speed : ℕ → ℕ) (k X t : ℕ) → Bool
meets_cfl speed k X t = all_below (suc k) (λ i. leb (t * speed i) (1_000 * X))

-- the greatest t in 1..1,000 that meets CFL: raised from 0, at most 1,000 times, to the first that cannot be raised
-- (1 always meets it within the limits of a record: `greatest_step_some`)
unfoldable pub greatest_step : (speed : ℕ → ℕ) (k X : ℕ) → ℕ
greatest_step speed k X = climb (λ t. meets_cfl speed k X (suc t)) time_step_most 0

-- the place of the greatest |u|+a among the places 0..k, the highest among equals
unfoldable pub fastest_place : (speed : ℕ → ℕ) (k : ℕ) → ℕ
fastest_place speed zero = 0
fastest_place speed (suc k) = cond (leb (speed (fastest_place speed k)) (speed (suc k))) (suc k) (fastest_place speed k)
