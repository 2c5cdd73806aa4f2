-- Document 02, point 3, in place of document 01, 'A water step': wave speed.
-- √(3gh/2) with g = 9.80665 m/s², half the width of the box of speeds that the kinetic scheme gives still water (report 4529,
-- χ = 1/(2√3) on |w| ≤ √3), rounded up. Depth in micrometres, speed in mm/s.
use Rattle.std.specs.Prelude.{ℕ, ◌*◌}
use Rattle.numbers.specs.Search.{least_reaching}

-- a(h), the least whole a with 1,000,000·a² at least 14,709,975·h; it is at most 4·h
unfoldable pub wave_speed : ℕ → ℕ
wave_speed h = least_reaching (λ a. 1_000_000 * (a * a)) (14_709_975 * h) (4 * h)
