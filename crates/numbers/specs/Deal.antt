-- Document 02, point 1 (the units of an outlet's draw) and point 13 (the cents of a bill): a whole dealt out by weights. Each has the floor of
-- whole · weight / sum of weights, and the units left go singly, in list order, to those with a weight above 0.
-- `dealt_sum` says that nothing is lost, and `dealt_most` that nobody has more than its weight where the whole is at most their sum.
use Rattle.std.specs.Prelude.{Bool, cond, ◌&&◌, List, [], ◌∷◌, ℕ, ◌+◌, ◌-◌, ◌*◌, ◌/◌, ltb}
use Rattle.numbers.specs.Index.{sum, sum_below}

unfoldable pub floors : (whole W : ℕ) → List ℕ → List ℕ
floors whole W [] = []
floors whole W (w ∷ ws) = (whole * w / W) ∷ floors whole W ws

-- what the floors leave of the whole
unfoldable pub units_left : (whole : ℕ) → List ℕ → ℕ
units_left whole ws = whole - sum (floors whole (sum ws) ws)

-- whether one with weight w has a unit where `units` are left
unfoldable pub has_unit : (units w : ℕ) → Bool
has_unit units w = ltb 0 w && ltb 0 units

-- the floors, with `units` units handed out singly from the front
unfoldable pub handed : (units whole W : ℕ) → List ℕ → List ℕ
handed units whole W [] = []
handed units whole W (w ∷ ws) =
    cond (has_unit units w) ((whole * w / W + 1) ∷ handed (units - 1) whole W ws) ((whole * w / W) ∷ handed units whole W ws)

unfoldable pub dealt : (whole : ℕ) → List ℕ → List ℕ
dealt whole ws = handed (units_left whole ws) whole (sum ws) ws

-- how many of the first k weigh something
unfoldable pub weighing_below : (k : ℕ) → (weight : ℕ → ℕ) → ℕ
weighing_below k weight = sum_below k (λ j. cond (ltb 0 (weight j)) 1 0)
