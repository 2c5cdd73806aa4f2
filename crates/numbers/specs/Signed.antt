-- Document 01's max(z,0) and max(−z,0): a signed z is the first less the second; `sub_ℕ p n` of the library is p − n in ℤ.
use Rattle.std.specs.Prelude.{Bool, cond, ◌&&◌, ℕ, ℤ, pos, negsuc}
use Rattle.std.specs.Int.Signed.{le_z}

-- max(z, 0); the other part, max(−z, 0), is `positive (neg_ℤ z)`
abbrev pub positive : ℤ → ℕ
positive (pos n) = n
positive (negsuc n) = 0

-- the larger of two
unfoldable pub maxℤ : ℤ → ℤ → ℤ
maxℤ y z = cond (le_z y z) z y

-- whether two are equal
unfoldable pub eqℤ : ℤ → ℤ → Bool
eqℤ y z = le_z y z && le_z z y
