-- Document 02, point 3: the whole square root rounded up, the least whole number whose square is at least x.
use Rattle.std.specs.Prelude.{ℕ, ◌*◌}
use Rattle.numbers.specs.Search.{least_reaching}

-- no root of x is above x
unfoldable pub square_root_ceil : ℕ → ℕ
square_root_ceil x = least_reaching (λ a. a * a) x x
