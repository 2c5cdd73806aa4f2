-- Document 01, 'The sheet': little-endian numbers of any width, signed ones in two's complement, and columns of them.
use Rattle.std.specs.Prelude.{cond, List, ℕ, zero, suc, ◌+◌, ◌*◌, ◌^◌, ltb, ℤ, pos, ◌-ℤ◌, get_or}
use Rattle.numbers.specs.Index.{tabulate}

-- the number in the w bytes from `at` on, the lowest byte first
unfoldable pub number_at : (w : ℕ) (s : List ℕ) (at : ℕ) → ℕ
number_at zero s at = 0
number_at (suc w) s at = get_or s at 0 + 256 * number_at w s (at + 1)

-- two's complement in a range of `all` numbers: from half of it on, the number less `all`
unfoldable pub twos_in : (all v : ℕ) → ℤ
twos_in all v = cond (ltb (2 * v) all) (pos v) (pos v -ℤ pos all)

-- w bytes in two's complement
unfoldable pub twos : (w v : ℕ) → ℤ
twos w v = twos_in (256 ^ w) v

-- n numbers of w bytes, one after the other from `at` on, each read by f
unfoldable pub column_at : {A : Type 0} → (ℕ → A) → (w : ℕ) (s : List ℕ) (at n : ℕ) → List A
column_at f w s at n = tabulate n (λ i. f (number_at w s (at + w * i)))
