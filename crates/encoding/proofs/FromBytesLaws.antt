-- Laws of numbers in bytes. Assumes nothing.
use mathlib.Core.Path.{◌≡◌, refl, sym, ap, ◌∙◌, subst}
use mathlib.Core.List.{List}
use Prim.Native.Nat.{ℕ, zero, suc, ◌+◌, ◌-◌, ◌*◌, ◌^◌, ◌≤◌, ◌<◌}
use native.Mathlib.Nat.{pow-suc, pow-le-pow_right, zero-add}
use native.Mathlib.Omega.{arith}
use lib.IntN.{ℤ, pos, negsuc, ◌-ℤ◌}
use lib.ListN.{get_or}
use mir.Syntax.{w64}
use mir.Val.{to_z, SFits}
use mir.Facts.{to_z_pos}
use borrow.Author.Tests.{lt-ltb, le-ltb}
use Rattle.numbers.proofs.SignedLaws.{pos_minus, below}
use Rattle.encoding.specs.FromBytes.{number_at, twos_in}

-- one byte more, in front
pub number_more : (s : List ℕ) (at w i v : ℕ) → i < w → v ≡ number_at (w - (i + 1)) s (at + (i + 1)) → get_or s (at + i) 0 + 256 * v ≡ number_at (w - i) s (at + i)
unfolding number_at
number_more s at w i v l e =
    let n : w - i ≡ suc (w - (i + 1)) = omega arith in
    let p : at + (i + 1) ≡ at + i + 1 = omega arith in
    rw (n, e, p) refl

pub bound_more : (w i b v : ℕ) → i < w → b < 256 → v < 256 ^ (w - (i + 1)) → b + 256 * v < 256 ^ (w - i)
bound_more w i b v l p q =
    let n : w - i ≡ suc (w - (i + 1)) = omega arith in
    rw (n, pow-suc) (omega (arith, p, q))

-- what one more byte needs stays below 2^64
pub room_more : (w i v : ℕ) → i < w → w ≤ 8 → v < 256 ^ (w - (i + 1)) → 256 * v + 255 < 18_446_744_073_709_551_616
room_more w i v l m q =
    let n : w - (i + 1) ≤ 7 = omega arith in
    let p : 256 ^ (w - (i + 1)) ≤ 256 ^ 7 = pow-le-pow_right (omega arith) n in
    omega (arith, p, q)

-- ---- two's complement

pub twos_low : (half v : ℕ) → v < half → twos_in (2 * half) v ≡ pos v
unfolding twos_in
twos_low half v l = rw (lt-ltb (2 * v) (2 * half) (omega arith)) refl

pub twos_high : (half v : ℕ) → half ≤ v → v < 2 * half → twos_in (2 * half) v ≡ negsuc (half - 1 - (v - half))
unfolding twos_in
twos_high half v l m =
    let e : 2 * half - suc v ≡ half - 1 - (v - half) = omega arith in
    rw (le-ltb (2 * v) (2 * half) (omega arith)) (pos_minus v (2 * half) ∙ below v (2 * half) m ∙ ap negsuc e)

less_one : (k : ℕ) → negsuc 0 -ℤ pos k ≡ negsuc k
less_one zero = refl
less_one (suc k) = ap (λ (n : ℕ). negsuc (suc n)) (zero-add k)

-- what `-1 - (k as i64)` computes
module _ (k : ℕ) (h : k < 9_223_372_036_854_775_808) where
  pub down : negsuc 0 -ℤ to_z w64 k ≡ negsuc k
  down = ap (λ (z : ℤ). negsuc 0 -ℤ z) (to_z_pos w64 h) ∙ less_one k

  pub down_fits : SFits w64 (negsuc 0 -ℤ to_z w64 k)
  down_fits = subst (SFits w64) (sym down) (record { sfits = h })
