-- Laws of numbers and columns as bytes, and of a part of the output that a callee filled, said of the whole. Assumes nothing.
use mathlib.Core.Path.{◌≡◌, refl, sym, ap, ◌∙◌}
use mathlib.Core.List.{List, [], ◌∷◌, ◌++◌, append_assoc, append-nil}
use mathlib.Core.Bool.{true, false}
use Prim.Native.Nat.{ℕ, zero, suc, ◌+◌, ◌-◌, ◌*◌, ◌/◌, ◌%◌, ◌≤◌, ◌<◌}
use native.Mathlib.Numerals.{add-one}
use native.Mathlib.Nat.{not-suc-le-zero}
use borrow.Author.Tests.{ltb-true}
use native.Mathlib.Omega.{arith}
use lib.IntN.{ℤ, pos, negsuc, nat_abs}
use lib.Signed.{lt_z}
use lib.ListN.{length, take, drop, get_or, set, length-append, length-set, drop_of_length-le}
use lib.Seq.{length-take-le, take_all, take_at, drop_at, take-suc, take-suc-set, drop-drop}
use borrow.Rule.Slice.PartMut.{put_mid, same_len_mid}
use borrow.Author.Rules.{part_to_end}
use Rattle.encoding.specs.ToBytes.{bytes_of, bits_in, column_bytes, written}

-- ---- two's complement, by the sign of the number

pub bits_above : (all : ℕ) (z : ℤ) → (lt_z z (pos 0) ≡ false) → nat_abs z ≡ bits_in all z
unfolding bits_in
bits_above all (pos n) e = refl
bits_above all (negsuc n) e = let a : true ≡ false = e in cc

pub bits_below : (half : ℕ) (z : ℤ) → lt_z z (pos 0) ≡ true → nat_abs z < half → half - nat_abs z + half ≡ bits_in (2 * half) z
unfolding bits_in
bits_below half (pos n) e l = absurd (not-suc-le-zero (ltb-true n 0 e))
bits_below half (negsuc m) e l = omega (arith, l)

-- ---- one number

pub length_bytes : (w v : ℕ) → length (bytes_of w v) ≡ w
unfolding bytes_of
length_bytes zero v = refl
length_bytes (suc w) v = ap suc (length_bytes w (v / 256))

-- what the loop that writes a number keeps, and one turn of it
module _ (w v : ℕ) where
  abbrev pub Putting : List ℕ → ℕ → ℕ → Type 0
  Putting bytes rest i = (length bytes ≡ w) × (take i bytes ++ bytes_of (w - i) rest ≡ bytes_of w v)

  pub putting_more : (bytes : List ℕ) (rest i : ℕ) → i < w → Putting bytes rest i → Putting (set bytes i (rest % 256)) (rest / 256) (i + 1)
  unfolding bytes_of
  putting_more bytes rest i p (n, e) =
      let ew : w - i ≡ suc (w - suc i) = omega arith in (
        length-set bytes i (rest % 256) ∙ n,
        rw (add-one, take-suc-set bytes i (rest % 256) (omega arith), append_assoc) (rw ew at e),
      )

  pub putting_done : (bytes : List ℕ) (rest i : ℕ) → w ≤ i → Putting bytes rest i → (out : List ℕ) → bytes ++ drop w out ≡ written (bytes_of w v) out
  unfolding written bytes_of
  putting_done bytes rest i p (n, e) out =
      let z : w - i ≡ 0 = omega arith in
      let h : bytes ++ [] ≡ bytes_of w v = rw (z, take_all i bytes (omega arith)) at e in
      rw (← h, append-nil, n) refl

-- ---- a part of the output, from a on, that a callee filled, said of the whole

-- the output holds p and then its old bytes; the part from p's end on comes back with f written: the output holds p ++ f
pub written_part : (p f out₀ out ys : List ℕ) (a : ℕ) → a ≡ length p → out ≡ written p out₀ → ys ≡ written f (take (length out - a) (drop a out))
    → put_mid a (length out - a) out ys ≡ written (p ++ f) out₀
unfolding written
written_part p f out₀ out ys a ea eo ey =
    let tl : drop a out ≡ drop a out₀ = ap (drop a) eo ∙ drop_at p (drop (length p) out₀) a (sym ea) ∙ ap (λ (n : ℕ). drop n out₀) (sym ea) in
    let hd : take a out ≡ p = ap (take a) eo ∙ take_at p (drop (length p) out₀) a (sym ea) in
    let yy : ys ≡ f ++ drop (length f) (drop a out₀) = ey ∙ ap (written f) (part_to_end out a ∙ tl) in
    let post : drop (length out - a) (drop a out) ≡ [] = drop-drop (length out - a) a out ∙ drop_of_length-le out {i = a + (length out - a)} (omega arith) in
    rw (hd, post, append-nil, yy, drop-drop, ea, length-append, append_assoc)

-- the same of any contents
pub pasted_part : (f out ys : List ℕ) (a : ℕ) → ys ≡ written f (take (length out - a) (drop a out))
    → put_mid a (length out - a) out ys ≡ take a out ++ written f (drop a out)
unfolding written
pasted_part f out ys a ey =
    let post : drop (length out - a) (drop a out) ≡ [] = drop-drop (length out - a) a out ∙ drop_of_length-le out {i = a + (length out - a)} (omega arith) in
    rw (post, append-nil) (ap (λ (l : List ℕ). take a out ++ l) (ey ∙ ap (written f) (part_to_end out a)))

-- bytes put where the written ones end
pub next : (p f out₀ out out' : List ℕ) (a : ℕ) → a ≡ length p → out ≡ written p out₀ → out' ≡ take a out ++ written f (drop a out)
    → out' ≡ written (p ++ f) out₀
unfolding written
next p f out₀ out out' a ea e e' =
    let hd : take a out ≡ p = ap (take a) e ∙ take_at p (drop (length p) out₀) a (sym ea) in
    let tl : drop a out ≡ drop (length p) out₀ = ap (drop a) e ∙ drop_at p (drop (length p) out₀) a (sym ea) in
    e' ∙ rw (hd, tl, drop-drop, length-append, append_assoc)

-- ---- a column

pub columns_append : (w : ℕ) (us vs : List ℕ) → column_bytes w (us ++ vs) ≡ column_bytes w us ++ column_bytes w vs
unfolding column_bytes
columns_append w [] vs = refl
columns_append w (u ∷ us) vs = ap (λ (l : List ℕ). bytes_of w u ++ l) (columns_append w us vs) ∙ sym (append_assoc (bytes_of w u) (column_bytes w us) (column_bytes w vs))

pub length_column : (w : ℕ) (vs : List ℕ) → length (column_bytes w vs) ≡ w * length vs
unfolding column_bytes
length_column w [] = omega arith
length_column w (v ∷ vs) = length-append (bytes_of w v) (column_bytes w vs) ∙ omega (arith, length_bytes w v, length_column w vs)

-- what the fill's loop keeps, and one turn of it
module _ (w : ℕ) (column : List ℕ) (out₀ : List ℕ) where
  abbrev pub Filling : List ℕ → ℕ → Type 0
  Filling out i = (i ≤ length column) × (length out ≡ length out₀) × (out ≡ written (column_bytes w (take i column)) out₀)

  pub filling_none : Filling out₀ 0
  unfolding written column_bytes
  filling_none = (omega arith, refl, refl)

  at_end : (i : ℕ) → i ≤ length column → w * i ≡ length (column_bytes w (take i column))
  at_end i h = sym (length_column w (take i column) ∙ ap (λ (n : ℕ). w * n) (length-take-le i column h))

  more : (i : ℕ) → i < length column → column_bytes w (take (i + 1) column) ≡ column_bytes w (take i column) ++ bytes_of w (get_or column i 0)
  unfolding column_bytes
  more i h =
      ap (column_bytes w) (ap (λ (n : ℕ). take n column) (add-one i) ∙ take-suc column i 0 h) ∙ columns_append w (take i column) (get_or column i 0 ∷ [])
      ∙ ap (λ (l : List ℕ). column_bytes w (take i column) ++ l) (append-nil (bytes_of w (get_or column i 0)))

  pub filling_more : (out ys : List ℕ) (i : ℕ) → i < length column → Filling out i
      → ys ≡ written (bytes_of w (get_or column i 0)) (take (length out - w * i) (drop (w * i) out))
      → length ys ≡ length (take (length out - w * i) (drop (w * i) out))
      → Filling (put_mid (w * i) (length out - w * i) out ys) (i + 1)
  filling_more out ys i p (l, n, e) ey ly = (
    omega arith,
    same_len_mid (w * i) (length out - w * i) out ys ly ∙ n,
    written_part (column_bytes w (take i column)) (bytes_of w (get_or column i 0)) out₀ out ys (w * i) (at_end i l) e ey
        ∙ ap (λ (l : List ℕ). written l out₀) (sym (more i p)),
  )
