-- Laws of numbers and columns that are written and read back, and of those that are read and written again. Assumes nothing.
use mathlib.Core.Path.{◌≡◌, refl, sym, ap, ap₂, ◌∙◌}
use mathlib.Core.Bool.{Bool, true, false}
use mathlib.Core.List.{List, [], ◌∷◌, ◌++◌, map, append_assoc}
use mathlib.Core.Logic.{◌⊎◌, inl, inr, ⊎_elim}
use Prim.Native.Nat.{ℕ, zero, suc, ◌+◌, ◌-◌, ◌*◌, ◌/◌, ◌%◌, ◌^◌, ◌≤◌, ◌<◌}
use native.Mathlib.Nat.{pow-zero, pow-suc, not-suc-le-zero, le_of_suc-le-suc}
use native.Mathlib.Numerals.{add-one}
use native.Mathlib.Omega.{arith}
use borrow.Author.Tests.{ltb-true, ltb-false}
use lib.Dec.{ltb}
use lib.IntN.{ℤ, pos, negsuc, nat_abs}
use lib.ListN.{length, get_or, take, drop, get_or-eq_default}
use lib.Seq.{get_or-drop, drop-cons, drop_at, drop-drop, take-add}
use Rattle.numbers.specs.Index.{tabulate}
use Rattle.numbers.proofs.IndexLaws.{by_index, tabulate_same}
use Rattle.encoding.specs.FromBytes.{number_at, twos_in, twos, column_at}
use Rattle.encoding.proofs.FromBytesLaws.{twos_low, twos_high}
use Rattle.encoding.specs.ToBytes.{bytes_of, bits_in, bits, column_bytes}
use Rattle.encoding.proofs.ToBytesLaws.{length_bytes}

-- ---- a number, further on in a list

pub number_shift : (w : ℕ) (s : List ℕ) (a at k : ℕ) → k ≡ a + at → number_at w s k ≡ number_at w (drop a s) at
unfolding number_at
number_shift zero s a at k e = refl
number_shift (suc w) s a at k e =
    let f : k + 1 ≡ a + (at + 1) = omega arith in
    ap₂ (λ (x y : ℕ). x + 256 * y) (ap (λ (j : ℕ). get_or s j 0) e ∙ sym (get_or-drop a s at 0)) (number_shift w s a (at + 1) (k + 1) f)

-- past p
pub number_past : (w : ℕ) (p q : List ℕ) (at k : ℕ) → k ≡ length p + at → number_at w (p ++ q) k ≡ number_at w q at
number_past w p q at k e = number_shift w (p ++ q) (length p) at k e ∙ ap (λ (l : List ℕ). number_at w l at) (drop_at p q (length p) refl)

-- ---- written and read back

pub number_back : (w v : ℕ) (q : List ℕ) → v < 256 ^ w → number_at w (bytes_of w v ++ q) 0 ≡ v
unfolding number_at bytes_of
number_back zero v q l = omega (arith, rw pow-zero at l)
number_back (suc w) v q l =
    let m : v / 256 < 256 ^ w = omega (arith, rw pow-suc at l) in
    let r = number_past w (v % 256 ∷ []) (bytes_of w (v / 256) ++ q) 0 1 refl ∙ number_back w (v / 256) q m in
    omega (arith, r)

-- the i-th of a column
pub word_back : (w : ℕ) (vs q : List ℕ) (i : ℕ) → i < length vs → get_or vs i 0 < 256 ^ w → number_at w (column_bytes w vs ++ q) (w * i) ≡ get_or vs i 0
unfolding column_bytes
word_back w [] q i l m = absurd (not-suc-le-zero l)
word_back w (v ∷ vs) q zero l m =
    let z : w * zero ≡ 0 = omega arith in
    rw (z, append_assoc) (number_back w v (column_bytes w vs ++ q) m)
word_back w (v ∷ vs) q (suc i) l m =
    let z : w * suc i ≡ length (bytes_of w v) + w * i = omega (arith, length_bytes w v) in
    rw append_assoc (number_past w (bytes_of w v) (column_bytes w vs ++ q) (w * i) (w * suc i) z ∙ word_back w vs q i (le_of_suc-le-suc l) m)

-- a column behind p, each entry read by f
pub column_back : {A : Type 0} (f : ℕ → A) (w : ℕ) (p vs q : List ℕ) (us : List A) (d : A) (at n : ℕ)
    → length p ≡ at → length vs ≡ n → length us ≡ n
    → ((i : ℕ) → i < n → get_or vs i 0 < 256 ^ w) → ((i : ℕ) → i < n → f (get_or vs i 0) ≡ get_or us i d)
    → column_at f w (p ++ (column_bytes w vs ++ q)) at n ≡ us
unfolding column_at
column_back f w p vs q us d at n e lv lu b g =
    sym (by_index n (λ i. f (number_at w (p ++ (column_bytes w vs ++ q)) (at + w * i))) d us lu
    (λ i l.
    sym (ap f (number_past w p (column_bytes w vs ++ q) (w * i) (at + w * i) (omega arith) ∙ word_back w vs q i (omega arith) (b i l)) ∙ g i l)))

-- ---- read and written again

abbrev pub AllBytes : List ℕ → Type 0
AllBytes s = (k : ℕ) → get_or s k 0 < 256

less_by : (a b : ℕ) (t : Bool) → ltb a b ≡ t → (a < b) ⊎ (b ≤ a)
less_by a b true e = inl (ltb-true a b e)
less_by a b false e = inr (ltb-false a b e)

less_or : (a b : ℕ) → (a < b) ⊎ (b ≤ a)
less_or a b = less_by a b (ltb a b) refl

-- past the end a list reads 0
pub all_bytes : (s : List ℕ) → ((i : ℕ) → i < length s → get_or s i 0 < 256) → AllBytes s
all_bytes s h k =
    ⊎_elim (λ (l : k < length s). h k l) (λ (l : length s ≤ k). let z = get_or-eq_default s 0 l in omega arith) (less_or k (length s))

pub number_below : (w : ℕ) (s : List ℕ) (at : ℕ) → AllBytes s → number_at w s at < 256 ^ w
unfolding number_at
number_below zero s at h = rw pow-zero (omega arith)
number_below (suc w) s at h = rw pow-suc (omega (arith, h at, number_below w s (at + 1) h))

pub bytes_again : (w : ℕ) (s : List ℕ) (at : ℕ) → AllBytes s → at + w ≤ length s → bytes_of w (number_at w s at) ≡ take w (drop at s)
unfolding bytes_of number_at
bytes_again zero s at h l = refl
bytes_again (suc w) s at h l =
    let x = get_or s at 0 in
    let v = number_at w s (at + 1) in
    let m : (x + 256 * v) % 256 ≡ x = omega (arith, h at) in
    let d : (x + 256 * v) / 256 ≡ v = omega (arith, h at) in
    rw (m, d, drop-cons s at 0 (omega arith))
    (ap (λ (r : List ℕ). x ∷ r) (bytes_again w s (at + 1) h (omega arith) ∙ ap (λ (k : ℕ). take w (drop k s)) (add-one at)))

-- two parts of s side by side
pub joined : (s : List ℕ) (at a b k : ℕ) → k ≡ at + a → take a (drop at s) ++ take b (drop k s) ≡ take (a + b) (drop at s)
joined s at a b k e =
    ap (λ (l : List ℕ). take a (drop at s) ++ take b l) (ap (λ (j : ℕ). drop j s) e ∙ sym (drop-drop a at s)) ∙ sym (take-add a b (drop at s))

pub column_again : (w : ℕ) (s : List ℕ) (at n : ℕ) → AllBytes s → at + w * n ≤ length s
    → column_bytes w (column_at (λ v. v) w s at n) ≡ take (w * n) (drop at s)
unfolding column_bytes column_at tabulate
column_again w s at zero h l = let z : w * zero ≡ 0 = omega arith in rw z refl
column_again w s at (suc n) h l =
    let z : at + w * 0 ≡ at = omega arith in
    let same : tabulate n (λ i. number_at w s (at + w * suc i)) ≡ column_at (λ v. v) w s (at + w) n
    = tabulate_same n (λ i. number_at w s (at + w * suc i)) (λ i. number_at w s (at + w + w * i))
    (λ i k. ap (number_at w s) (omega arith)) in
    let more : w * suc n ≡ w + w * n = omega arith in
    rw (z, more)
    (ap₂ (λ (a b : List ℕ). a ++ b) (bytes_again w s at h (omega arith)) (ap (column_bytes w) same ∙ column_again w s (at + w) n h (omega arith))
    ∙ joined s at w (w * n) (at + w) refl)

pub map_tabulate : {A B : Type 0} (g : A → B) (n : ℕ) (f : ℕ → A) → map g (tabulate n f) ≡ tabulate n (λ i. g (f i))
unfolding tabulate
map_tabulate g zero f = refl
map_tabulate g (suc n) f = ap (λ l. g (f zero) ∷ l) (map_tabulate g n (λ i. f (suc i)))

-- a column read by f, each entry turned back to its number by g
pub turned_again : {A : Type 0} (f : ℕ → A) (g : A → ℕ) (w : ℕ) (s : List ℕ) (at n : ℕ) → AllBytes s → at + w * n ≤ length s
    → ((v : ℕ) → v < 256 ^ w → g (f v) ≡ v) → column_bytes w (map g (column_at f w s at n)) ≡ take (w * n) (drop at s)
unfolding column_at
turned_again f g w s at n h l e =
    ap (column_bytes w)
    (map_tabulate g n (λ i. f (number_at w s (at + w * i)))
    ∙ tabulate_same n (λ i. g (f (number_at w s (at + w * i)))) (λ i. number_at w s (at + w * i)) (λ i k. e _ (number_below w s (at + w * i) h)))
    ∙ column_again w s at n h l

-- ---- two's complement, there and back

bits_in_below : (half : ℕ) (z : ℤ) → nat_abs z < half → bits_in (2 * half) z < 2 * half
unfolding bits_in
bits_in_below half (pos n) l = omega arith
bits_in_below half (negsuc n) l = omega arith

twos_bits_in : (half : ℕ) (z : ℤ) → nat_abs z < half → twos_in (2 * half) (bits_in (2 * half) z) ≡ z
unfolding bits_in
twos_bits_in half (pos n) l = twos_low half n l
twos_bits_in half (negsuc n) l = twos_high half (2 * half - suc n) (omega arith) (omega arith) ∙ ap negsuc (omega arith)

bits_twos_in : (half v : ℕ) → v < 2 * half → bits_in (2 * half) (twos_in (2 * half) v) ≡ v
unfolding bits_in
bits_twos_in half v l =
    ⊎_elim (λ (k : v < half). ap (bits_in (2 * half)) (twos_low half v k))
    (λ (k : half ≤ v). ap (bits_in (2 * half)) (twos_high half v k l) ∙ omega arith)
    (less_or v half)

pub bits4_below : (z : ℤ) → nat_abs z < 2_147_483_648 → bits 4 z < 256 ^ 4
unfolding bits
bits4_below z l = bits_in_below 2_147_483_648 z l

pub bits8_below : (z : ℤ) → nat_abs z < 9_223_372_036_854_775_808 → bits 8 z < 256 ^ 8
unfolding bits
bits8_below z l = bits_in_below 9_223_372_036_854_775_808 z l

pub twos_bits4 : (z : ℤ) → nat_abs z < 2_147_483_648 → twos 4 (bits 4 z) ≡ z
unfolding bits twos
twos_bits4 z l = twos_bits_in 2_147_483_648 z l

pub twos_bits8 : (z : ℤ) → nat_abs z < 9_223_372_036_854_775_808 → twos 8 (bits 8 z) ≡ z
unfolding bits twos
twos_bits8 z l = twos_bits_in 9_223_372_036_854_775_808 z l

pub bits_twos4 : (v : ℕ) → v < 256 ^ 4 → bits 4 (twos 4 v) ≡ v
unfolding bits twos
bits_twos4 v l = bits_twos_in 2_147_483_648 v l

pub bits_twos8 : (v : ℕ) → v < 256 ^ 8 → bits 8 (twos 8 v) ≡ v
unfolding bits twos
bits_twos8 v l = bits_twos_in 9_223_372_036_854_775_808 v l
