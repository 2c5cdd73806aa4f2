-- What the crates above know of the wave speed: it is monotone, positive for a wet cell, small, and the least whole number not below √(3gh/2). Assumes nothing.
use mathlib.Core.Path.{◌≡◌, refl}
use Prim.Native.Nat.{ℕ, ◌+◌, ◌*◌, ◌≤◌, ◌<◌}
use native.Mathlib.Nat.{mul-le-mul, le_antisymm, lt_of_not-le}
use native.Mathlib.Omega.{arith}
use lib.Dec.{lit≤}
use Rattle.numbers.specs.Root.{square_root_ceil}
use Rattle.numbers.proofs.SearchLaws.{reaching_meets, reaching_least}
use Rattle.numbers.proofs.RootLaws.{square_lt, le_square, square_root_meets, square_root_least}
use Rattle.flux.specs.Wave.{wave_speed}
use Rattle.flux.specs.Limits.{depth_most}
use Rattle.flux.specs.Ranges.{wave_most}

-- its square is at least 3gh/2
pub wave_speed_meets : (h : ℕ) → 14_709_975 * h ≤ 1_000_000 * (wave_speed h * wave_speed h)
unfolding wave_speed
wave_speed_meets h = omega (arith, reaching_meets _ _ _ (wave_speed h) refl (omega (arith, le_square h)))

-- and that of no lesser number is
pub wave_speed_least : (h a : ℕ) → 14_709_975 * h ≤ 1_000_000 * (a * a) → wave_speed h ≤ a
unfolding wave_speed
wave_speed_least h a l = reaching_least _ _ _ (wave_speed h) a refl (omega (arith, l))

-- so a number whose square is below 3gh/2 is below it
pub wave_speed_above : (h a : ℕ) → 1_000_000 * (a * a) < 14_709_975 * h → a < wave_speed h
wave_speed_above h a m = square_lt a (wave_speed h) (omega (arith, m, wave_speed_meets h))

pub wave_speed_mono : (h k : ℕ) → h ≤ k → wave_speed h ≤ wave_speed k
wave_speed_mono h k l = wave_speed_least h (wave_speed k) (omega (arith, l, wave_speed_meets k))

pub wave_speed_pos : (h : ℕ) → 0 < h → 0 < wave_speed h
wave_speed_pos h l = lt_of_not-le (λ z. omega (arith, l, wave_speed_meets h, mul-le-mul z z))

pub wave_speed_dry : wave_speed 0 ≡ 0
wave_speed_dry = omega (arith, wave_speed_least 0 0 (lit≤ tt))

pub wave_speed_most : (h : ℕ) → h ≤ depth_most → wave_speed h ≤ wave_most
wave_speed_most h l = omega (arith, wave_speed_mono h depth_most l, wave_speed_least depth_most 7_671 (lit≤ tt))

-- it is the root, rounded up, of the quotient rounded up
pub wave_speed_root : (h x : ℕ) → 14_709_975 * h ≤ 1_000_000 * x → 1_000_000 * x < 14_709_975 * h + 1_000_000 → wave_speed h ≡ square_root_ceil x
wave_speed_root h x l m =
    le_antisymm
    (wave_speed_least h (square_root_ceil x) (omega (arith, l, square_root_meets x)))
    (square_root_least (wave_speed h) x (omega (arith, m, wave_speed_meets h)))
