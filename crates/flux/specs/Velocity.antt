-- Document 01, 'A water step': speed. Discharge in micrometres times mm/s, velocity in mm/s.
use Rattle.std.specs.Prelude.{ℕ, ℤ, pos}
use Rattle.std.specs.Int.Signed.{quot_z}

-- u = q/h cut towards zero; a quotient by 0 is 0 here, so u is 0 where h is (`velocity_dry`)
unfoldable pub velocity : ℕ → ℤ → ℤ
velocity h q = quot_z q (pos h)
