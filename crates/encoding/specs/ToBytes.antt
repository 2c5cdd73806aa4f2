-- Document 01, 'The sheet': little-endian numbers of any width as bytes, signed ones in two's complement, and columns of them.
use Rattle.std.specs.Prelude.{List, [], ◌∷◌, ◌++◌, ℕ, zero, suc, ◌-◌, ◌/◌, ◌%◌, ◌^◌, ℤ, pos, negsuc, length, drop}

-- the lowest w bytes of v, the lowest first
unfoldable pub bytes_of : (w v : ℕ) → List ℕ
bytes_of zero v = []
bytes_of (suc w) v = v % 256 ∷ bytes_of w (v / 256)

-- two's complement in a range of `all` numbers: a number below 0 stands as `all` less its size
unfoldable pub bits_in : (all : ℕ) → ℤ → ℕ
bits_in all (pos n) = n
bits_in all (negsuc n) = all - suc n

-- in w bytes
unfoldable pub bits : (w : ℕ) → ℤ → ℕ
bits w z = bits_in (256 ^ w) z

-- numbers of w bytes, one after the other
unfoldable pub column_bytes : (w : ℕ) → List ℕ → List ℕ
column_bytes w [] = []
column_bytes w (v ∷ vs) = bytes_of w v ++ column_bytes w vs

-- out with the bytes p at its start; the bytes after them keep their values
unfoldable pub written : (p out : List ℕ) → List ℕ
written p out = p ++ drop (length p) out
