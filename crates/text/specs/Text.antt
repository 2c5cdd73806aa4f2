-- Not the paper's: numbers as text, in bytes, and text put into a buffer. Whoever takes the names at their word may skip this file.
use Rattle.std.specs.Prelude.{◌≡◌, List, ◌∷◌, ℕ, suc, ◌+◌, ◌-◌, ◌/◌, ◌%◌, ◌^◌, ◌≤◌, ◌<◌, leb, ℤ, pos, negsuc, length, get_or}
use Rattle.numbers.specs.Index.{tabulate}
use Rattle.numbers.specs.Search.{climb}

-- how many decimal digits n has: raised from 1 while 10 to that power is at most n; 0 has one
unfoldable pub digit_count : ℕ → ℕ
digit_count n = suc (climb (λ k. leb (10 ^ suc k) n) n 0)

-- the digits of n, the highest first; '0' is 48
unfoldable pub decimal : ℕ → List ℕ
decimal n = tabulate (digit_count n) (λ i. 48 + n / 10 ^ (digit_count n - suc i) % 10)

-- with '-' in front, 45, where it is below 0
unfoldable pub signed_decimal : ℤ → List ℕ
signed_decimal (pos n) = decimal n
signed_decimal (negsuc n) = 45 ∷ decimal (suc n)

-- `after` is `before` with the bytes p from `at` on
pub record Put (before : List ℕ) (at : ℕ) (p : List ℕ) (after : List ℕ) : Type 0 where
  pub long : length after ≡ length before
  pub put : (k : ℕ) → k < length p → get_or after (at + k) 0 ≡ get_or p k 0
  pub ahead : (k : ℕ) → k < at → get_or after k 0 ≡ get_or before k 0
  pub behind : (k : ℕ) → at + length p ≤ k → get_or after k 0 ≡ get_or before k 0
