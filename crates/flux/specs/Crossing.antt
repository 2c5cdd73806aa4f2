-- Document 01, 'A water step': crossing amounts, what a cell of depth h and velocity u sends rightwards over an interface.
-- t in ms, X in mm. B is never above A (`lower_le_upper`), so neither difference below is cut off at 0. A quotient by 0 is 0
-- here, so all amounts are 0 where h is 0 (`water_flux_dry`, `momentum_flux_dry`, `still_thrust_dry`).
use Rattle.std.specs.Prelude.{ℕ, ◌*◌, ◌-◌, ◌/◌, ℤ, pos, ◌+ℤ◌, ◌-ℤ◌}
use Rattle.numbers.specs.Signed.{positive}
use Rattle.flux.specs.Wave.{wave_speed}

-- A = max(u+a, 0) and B = max(u−a, 0): of the speeds u−a..u+a, those that go rightwards are B..A
unfoldable pub upper : (a : ℕ) (u : ℤ) → ℕ
upper a u = positive (u +ℤ pos a)

unfoldable pub lower : (a : ℕ) (u : ℤ) → ℕ
lower a u = positive (u -ℤ pos a)

-- W of given a, A and B, micrometres: floor(h·t·(A²−B²) / (4,000·a·X))
unfoldable pub water_of : (t X h a A B : ℕ) → ℕ
water_of t X h a A B = h * t * (A * A - B * B) / (4_000 * a * X)

-- W(h,u), water
unfoldable pub water_flux : (t X h : ℕ) (u : ℤ) → ℕ
water_flux t X h u = water_of t X h (wave_speed h) (upper (wave_speed h) u) (lower (wave_speed h) u)

-- K = floor((A³−B³) / (6a)), the second moment of the speeds B..A
unfoldable pub second_moment : (a A B : ℕ) → ℕ
second_moment a A B = (A * A * A - B * B * B) / (6 * a)

-- Q of a given K: floor(h·t·K / (1,000·X))
unfoldable pub momentum_of : (t X h K : ℕ) → ℕ
momentum_of t X h K = h * t * K / (1_000 * X)

-- Q(h,u), momentum
unfoldable pub momentum_flux : (t X h : ℕ) (u : ℤ) → ℕ
momentum_flux t X h u = momentum_of t X h (second_moment (wave_speed h) (upper (wave_speed h) u) (lower (wave_speed h) u))

-- S(h) = 2·Q(h,0), the thrust of still water
unfoldable pub still_thrust : (t X h : ℕ) → ℕ
still_thrust t X h = 2 * momentum_flux t X h (pos 0)
