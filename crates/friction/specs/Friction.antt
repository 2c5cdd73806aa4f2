-- Document 02, point 4: friction of the bed, the semi-implicit Strickler term of document 003 (5.2). Depth in micrometres, speed in mm/s, t in ms; F is
-- Strickler's coefficient in m^(1/3)/s.
use Rattle.std.specs.Prelude.{◌≡◌, Bool, cond, ◌||◌, List, [], ◌∷◌, ℕ, suc, ◌+◌, ◌*◌, ◌/◌, ◌≤◌, leb, eqb, ℤ, pos, ◌*ℤ◌, get_or}
use Rattle.std.specs.Int.Signed.{quot_z}
use Rattle.numbers.specs.Index.{all_of}
use Rattle.numbers.specs.Search.{climb}

-- 'coefficient F of 10..90 (0 means no friction)'
unfoldable pub strickler_fits : ℕ → Bool
strickler_fits F = eqb F 0 || all_of (leb 10 F ∷ leb F 90 ∷ [])

-- k = floor(depth / 10,000), 'whole centimetres'
unfoldable pub centimetres : ℕ → ℕ
centimetres h = h / 10_000

-- r³ ≤ 1,000·k⁴
unfoldable pub cube_fits : (k r : ℕ) → Bool
cube_fits k r = leb (r * r * r) (1_000 * (k * k * k * k))

-- 'the greatest whole r with r³ ≤ 1,000·k⁴', that is 10·k^(4/3) rounded down: raised from 0 to the first that cannot be raised (no such r is above
-- 1,000·k⁴)
unfoldable pub four_thirds : ℕ → ℕ
four_thirds k = climb (λ r. cube_fits k (suc r)) (1_000 * (k * k * k * k)) 0

-- 'A fixed list for whole centimetres k = 0..400 holds' it: k goes as far as a depth of 4 m
abbrev pub table_most : ℕ
table_most = 400

pub record Roots (list : List ℕ) : Type 0 where
  pub root : (k : ℕ) → k ≤ table_most → get_or list k 0 ≡ four_thirds k

-- D = F²·r, of a depth h of k whole centimetres: the square of F·h^(2/3), the conveyance of an area divided by the area, times 10·100^(4/3) with h in metres
unfoldable pub conveyance_squared : (F k : ℕ) → ℕ
conveyance_squared F k = F * F * four_thirds k

-- E = floor(45,518·t·|u| / 1,000,000), of the speed v = |u|: g·t·|u| in the units of D, since 9.80665·10·100^(4/3) = 45,518.4
unfoldable pub drag : (t v : ℕ) → ℕ
drag t v = 45_518 * t * v / 1_000_000

-- 'the discharge becomes q·D/(D+E) cut towards zero, and 0 where D is 0 and F is not'; 'With F = 0 the results are the frictionless ones'
abbrev pub slowed_by : (F D E : ℕ) → ℤ → ℤ
slowed_by F D E q = cond (eqb F 0) q (cond (eqb D 0) (pos 0) (quot_z (q *ℤ pos D) (pos (D + E))))

-- with k of the new depth and v, the size of the old speed
unfoldable pub slowed : (F t v k : ℕ) → ℤ → ℤ
slowed F t v k q = slowed_by F (conveyance_squared F k) (drag t v) q
