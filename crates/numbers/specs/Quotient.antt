-- Not the paper's: what a quotient by a reciprocal needs of it. A reader of the model may skip this file.
use Rattle.std.specs.Prelude.{◌≡◌, ℕ, ◌/◌, ◌<◌}

-- of a `Divisor`, which has both numbers
pub record DivisorFits (value reciprocal : ℕ) : Type 0 where
  pub some : 0 < value
  pub reciprocal_is : reciprocal ≡ 18_446_744_073_709_551_615 / value
