-- Laws of text in a buffer. Assumes nothing.
use mathlib.Core.Path.{◌≡◌, refl, sym, ap, ◌∙◌, subst}
use mathlib.Core.List.{List, [], ◌∷◌, ◌++◌}
use mathlib.Core.Bool.{Bool, true, false}
use Prim.Native.Nat.{ℕ, zero, suc, ◌+◌, ◌-◌, ◌*◌, ◌/◌, ◌%◌, ◌^◌, ◌≤◌, ◌<◌}
use native.Mathlib.Nat.{not-suc-le-zero, pow-suc, one-le-pow, mul-div_cancel}
use native.Mathlib.Omega.{arith}
use lib.Dec.{T, leb, leb→le, le→leb}
use lib.IntN.{ℤ, pos, negsuc, nat_abs}
use lib.Signed.{lt_z}
use borrow.Author.Tests.{ltb-true}
use lib.ListN.{length, take, drop, get_or, set, length-set, length-append}
use lib.Seq.{get_or-set_same, get_or-set_other}
use Rattle.numbers.proofs.SearchLaws.{by_less, climb_reaches, climb_past}
use Rattle.numbers.specs.Search.{climb}
use Rattle.numbers.proofs.IndexLaws.{length_tabulate}
use borrow.Rule.Slice.PartMut.{put_mid}
use Rattle.std.proofs.lemmas.Grind.{common_steps}
use Rattle.std.proofs.lemmas.List.{get_or_append_left, get_or-append_right}
use Rattle.numbers.proofs.IndexLaws.{Written, written_all}
use Rattle.text.specs.Writer.{Adds}
use Rattle.text.specs.declared.Writer.{Writer}
use Rattle.text.specs.Text.{digit_count, decimal, signed_decimal, Put}

pub put_none : (a : List ℕ) (at : ℕ) → Put a at [] a
put_none a at = record { long = refl; put = λ k l. absurd (not-suc-le-zero l); ahead = λ k l. refl; behind = λ k l. refl }

-- one text after another
pub put_more : (a : List ℕ) (at : ℕ) (p b q c : List ℕ) → Put a at p b → Put b (at + length p) q c → Put a at (p ++ q) c
put_more a at p b q c f g = record {
  long = g.long ∙ f.long;
  put = λ k l.
      by_less k (length p) (λ t. get_or c (at + k) 0 ≡ get_or (p ++ q) k 0)
      (λ j. g.ahead (at + k) (omega arith) ∙ f.put k j ∙ sym (get_or_append_left p q 0 k j))
      (λ j.
      let m : k - length p < length q = omega (arith, length-append p q) in
      let e : at + length p + (k - length p) ≡ at + k = omega arith in
      rw e at (g.put (k - length p) m) ∙ sym (get_or-append_right p q (length p) k 0 refl j));
  ahead = λ k l. g.ahead k (omega arith) ∙ f.ahead k l;
  behind = λ k l. let n = length-append p q in g.behind k (omega arith) ∙ f.behind k (omega arith);
}

-- a text from the start of a buffer on
pub put_all : {a : List ℕ} {at : ℕ} {p b out out' : List ℕ} → Put a at p b → at ≡ 0 → a ≡ out → b ≡ out' → Put out 0 p out'
put_all f e l m = rw (e, l, m) at f

-- the same of a writer
pub adds_none : (a : Writer) → Adds a [] a
adds_none a = record { same = refl; next_is = omega arith; put = put_none a.out.now a.at }

pub adds_more : {a b c : Writer} {p q : List ℕ} → Adds a p b → Adds b q c → Adds a (p ++ q) c
adds_more {a} {b} {c} {p} {q} f g = record {
  same = g.same ∙ f.same;
  next_is = omega (arith, f.next_is, g.next_is, length-append p q);
  put = put_more a.out.now a.at p b.out.now q c.out.now f.put (subst (λ (n : ℕ). Put b.out.now n q c.out.now) f.next_is g.put);
}

-- what a writer that began at the start of a buffer left there
pub adds_all : {a b : Writer} {p out out' : List ℕ} → Adds a p b → a.at ≡ 0 → a.out.now ≡ out → b.out.now ≡ out' → Put out 0 p out'
adds_all f e l m = put_all f.put e l m

-- the part of the buffer from `at` to `at + n`
pub part_long : (a : List ℕ) (at n : ℕ) → at + n ≤ length a → length (take (at + n - at) (drop at a)) ≡ n
part_long a at n h = grind (arith, common_steps)

-- a part of the buffer that has become the text
pub put_part : (a p : List ℕ) (at n : ℕ) → length p ≡ n → at + n ≤ length a → Put a at p (put_mid at n a p)
put_part a p at n e h = record {
  long = grind (arith, common_steps);
  put = λ k l. grind (arith, common_steps);
  ahead = λ k l. grind (arith, common_steps);
  behind = λ k l. grind (arith, common_steps);
}

-- ---- byte by byte

-- `b` is `a` with the bytes f 0 .. f (i − 1) from `at` on: what a loop keeps that puts a text from its front
pub record Putting (a : List ℕ) (at : ℕ) (f : ℕ → ℕ) (i : ℕ) (b : List ℕ) : Type 0 where
  pub long : length b ≡ length a
  pub done : (k : ℕ) → k < i → get_or b (at + k) 0 ≡ f k
  pub ahead : (k : ℕ) → k < at → get_or b k 0 ≡ get_or a k 0
  pub behind : (k : ℕ) → at + i ≤ k → get_or b k 0 ≡ get_or a k 0

module _ (a : List ℕ) (at : ℕ) (f : ℕ → ℕ) where
  pub putting_none : Putting a at f 0 a
  putting_none = record { long = refl; done = λ k l. absurd (not-suc-le-zero l); ahead = λ k l. refl; behind = λ k l. refl }

  pub putting_more : (i : ℕ) (b : List ℕ) (v : ℕ) → Putting a at f i b → at + i < length a → v ≡ f i → Putting a at f (i + 1) (set b (at + i) v)
  putting_more i b v w h e = record {
    long = length-set b (at + i) v ∙ w.long;
    done = λ k q.
        by_less k i (λ t. get_or (set b (at + i) v) (at + k) 0 ≡ f k)
        (λ j. get_or-set_other b (at + i) (at + k) v 0 (λ x. absurd (omega arith)) ∙ w.done k j)
        (λ j. let s : k ≡ i = omega arith in rw s (get_or-set_same b (at + i) v 0 (omega (arith, w.long)) ∙ e));
    ahead = λ k q. get_or-set_other b (at + i) k v 0 (λ x. absurd (omega arith)) ∙ w.ahead k q;
    behind = λ k q. get_or-set_other b (at + i) k v 0 (λ x. absurd (omega arith)) ∙ w.behind k (omega arith);
  }

  -- all of a text
  pub putting_all : (i : ℕ) (b p : List ℕ) → Putting a at f i b → length p ≡ i → ((k : ℕ) → k < i → f k ≡ get_or p k 0) → Put a at p b
  putting_all i b p w e h = record {
    long = w.long;
    put = λ k q. let l : k < i = omega (arith, e) in w.done k l ∙ h k l;
    ahead = w.ahead;
    behind = λ k q. w.behind k (omega (arith, e));
  }

-- one byte, which is a text of one
pub put_one : (a : List ℕ) (at v : ℕ) → at < length a → Put a at (v ∷ []) (set a at v)
put_one a at v l =
    let front : at + 0 ≡ at = omega arith in
    let one = rw front at (putting_more a at (λ k. v) 0 a v (putting_none a at (λ k. v)) (omega (arith, l)) refl) in
    putting_all a at (λ k. v) 1 (set a at v) (v ∷ []) one refl (λ k j. let e : k ≡ 0 = omega arith in rw e refl)

-- ---- how many digits

below_power : (k : ℕ) → k < 10 ^ k
below_power zero = omega arith
below_power (suc k) = let l = below_power k in rw pow-suc (omega arith)

pub power_some : (k : ℕ) → 1 ≤ 10 ^ k
power_some k = one-le-pow k 10 (omega arith)

-- n has `count` digits or more, and `unit` is what the highest of so many counts: what the count keeps
pub record Counting (n count unit : ℕ) : Type 0 where
  pub some : 1 ≤ count
  pub unit_is : unit ≡ 10 ^ (count - 1)
  pub past : (j : ℕ) → suc j < count → 10 ^ suc j ≤ n

module _ (n : ℕ) where
  module _ (count unit : ℕ) (w : Counting n count unit) where
    pub unit_some : 1 ≤ unit
    unit_some = rw w.unit_is (power_some (count - 1))

    unit_next : 10 * unit ≡ 10 ^ count
    unit_next = let e : count ≡ suc (count - 1) = omega (arith, w.some) in
        let p : 10 ^ count ≡ 10 ^ (count - 1) * 10 = ap (λ (k : ℕ). 10 ^ k) e ∙ pow-suc 10 (count - 1) in
        omega (arith, p, w.unit_is)

    pub counting_more : unit ≤ n / 10 → Counting n (count + 1) (unit * 10)
    counting_more h = record {
      some = omega arith;
      unit_is = let e : count ≡ count + 1 - 1 = omega arith in let t : unit * 10 ≡ 10 * unit = omega arith in t ∙ unit_next ∙ ap (λ (k : ℕ). 10 ^ k) e;
      past = λ j l.
          by_less (suc j) count (λ t. 10 ^ suc j ≤ n)
          (λ q. w.past j q)
          (λ q. let e : suc j ≡ count = omega arith in rw e (omega (arith, unit_next)));
    }

    -- 10^20 is above 2^64
    pub counting_few : n < 18_446_744_073_709_551_616 → count ≤ 20
    counting_few h = by_less 20 count (λ t. count ≤ 20) (λ q. let l = w.past 19 (omega arith) in absurd (omega arith)) (λ q. q)

    pub counting_done : n / 10 < unit → count ≡ digit_count n
    unfolding digit_count
    counting_done h = omega (arith, low, high, w.some)
      where
        can : ℕ → Bool
        can k = leb (10 ^ suc k) n

        turns : (m : ℕ) → m < count → m ≤ 0 + n
        turns zero l = omega arith
        turns (suc j) l = omega (arith, below_power (suc j), w.past j l)

        low : count - 1 ≤ climb can n 0
        low = climb_reaches can n 0 (count - 1) (turns (count - 1) (omega (arith, w.some))) (λ j l. le→leb _ _ (w.past j (omega arith)))

        no_more : count - 1 < climb can n 0 → climb can n 0 ≤ count - 1
        no_more q =
            let l = leb→le (10 ^ suc (count - 1)) n (climb_past can n 0 (count - 1) (omega arith) q) in
            absurd (omega (arith, l, pow-suc 10 (count - 1), w.unit_is, h))

        high : climb can n 0 ≤ count - 1
        high = by_less (count - 1) (climb can n 0) (λ t. climb can n 0 ≤ count - 1) no_more (λ q. q)

-- ---- the digits

-- the digit at k of `count` digits
abbrev pub digit_at : (n count k : ℕ) → ℕ
digit_at n count k = 48 + n / 10 ^ (count - suc k) % 10

-- what the next digit counts
pub unit_down : (count i unit : ℕ) → unit ≡ 10 ^ (count - suc i) → i + 1 < count → unit / 10 ≡ 10 ^ (count - suc (i + 1))
unit_down count i unit e l =
    let s : count - suc i ≡ suc (count - suc (i + 1)) = omega arith in
    ap (λ (u : ℕ). u / 10) (e ∙ ap (λ (k : ℕ). 10 ^ k) s ∙ pow-suc 10 (count - suc (i + 1)))
    ∙ mul-div_cancel (10 ^ (count - suc (i + 1))) (omega arith)

pub decimal_long : (n : ℕ) → length (decimal n) ≡ digit_count n
unfolding decimal
decimal_long n = length_tabulate (digit_count n) (digit_at n (digit_count n))

-- all digits are put
pub decimal_done : (n count i : ℕ) (d b : List ℕ) → count ≡ digit_count n → length d ≡ count → i ≡ count → Written 0 (digit_at n count) d i b → b ≡ decimal n
unfolding decimal
decimal_done n count i d b e l f w = rw (l, e) at (written_all 0 _ d i b w (omega arith))

-- ---- a sign in front

pub signed_minus : (z : ℤ) → lt_z z (pos 0) ≡ true → signed_decimal z ≡ 45 ∷ decimal (nat_abs z)
unfolding signed_decimal
signed_minus (pos n) e = absurd (let l = ltb-true n 0 e in omega arith)
signed_minus (negsuc n) e = refl

pub signed_plain : (z : ℤ) → lt_z z (pos 0) ≡ false → signed_decimal z ≡ decimal (nat_abs z)
unfolding signed_decimal
signed_plain (pos n) e = refl
signed_plain (negsuc n) e = absurd (subst T e tt)
