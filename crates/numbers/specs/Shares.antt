-- Document 01, 'Settling': a whole m shared out along parts of b, by running floors: each part's share is the floor up to its end less the floor
-- up to its start, so that no unit is lost between two parts (`shares_rest` says so for any number of parts).
-- A quotient by 0 is 0 here, so all shares are 0 where b is 0.
use Rattle.std.specs.Prelude.{List, [], ◌∷◌, ℕ, ◌+◌, ◌-◌, ◌*◌, ◌/◌}

-- the share of a part p that comes after parts of P in all
unfoldable pub share : (m b P p : ℕ) → ℕ
share m b P p = m * (P + p) / b - m * P / b

-- the shares of a list of parts, the first after P
unfoldable pub shares : (m b P : ℕ) → List ℕ → List ℕ
shares m b P [] = []
shares m b P (p ∷ ps) = share m b P p ∷ shares m b (P + p) ps

-- what stays where parts of P in all have gone
unfoldable pub rest : (m b P : ℕ) → ℕ
rest m b P = m - m * P / b
