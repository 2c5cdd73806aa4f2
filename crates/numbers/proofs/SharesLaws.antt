-- Laws of running floors, once for any number of parts: every share keeps the bounds of the whole, and nothing is lost. Assumes nothing.
use mathlib.Core.Path.{◌≡◌, refl, sym, ap, ◌∙◌, subst}
use mathlib.Core.List.{List, [], ◌∷◌}
use Prim.Native.Nat.{ℕ, zero, suc, ◌+◌, ◌-◌, ◌*◌, ◌/◌, ◌≤◌, ◌<◌}
use native.Mathlib.Nat.{div-zero, div-mul-le_self, le-div_iff_mul-le, div-lt_iff_lt-mul, lt-div-mul-add, div-le_of_le-mul, mul-le-mul_left, zero-lt-suc, mul-div_cancel, add-zero, zero-add, add_assoc, mul-zero, zero-div, not-suc-le-zero, le_of_suc-le-suc}
use lib.ListN.{length, get_or}
use native.Mathlib.Omega.{arith}
use Rattle.numbers.specs.Index.{sum, sum_below, tabulate}
use Rattle.numbers.specs.Shares.{share, shares, rest}
use Rattle.numbers.proofs.IndexLaws.{sum_first}

module _ (m : ℕ) where
  pub floor_none : (b : ℕ) → m * 0 / b ≡ 0
  floor_none b = rw (mul-zero, zero-div) refl

  pub floor_mono : (b P p : ℕ) → m * P / b ≤ m * (P + p) / b
  floor_mono zero P p = rw (div-zero, div-zero) (omega arith)
  floor_mono (suc b) P p = (le-div_iff_mul-le (zero-lt-suc b)).1 (omega (arith, div-mul-le_self (m * P) (suc b)))

  pub floor_all : (b P : ℕ) → P ≤ b → m * P / b ≤ m
  floor_all b P h = div-le_of_le-mul b (omega (arith, mul-le-mul_left m h))

  -- a share is at least lo for each unit of its part, and at most hi
  pub share_lo : (lo b P p : ℕ) → P + p ≤ b → lo * b ≤ m → lo * p ≤ share m b P p
  unfolding share
  share_lo lo zero P p h l = let e : p ≡ 0 = omega arith in rw e (omega arith)
  share_lo lo (suc b) P p h l =
      let k : m * P / suc b + lo * p ≤ m * (P + p) / suc b = (le-div_iff_mul-le (zero-lt-suc b)).1 (omega (arith, div-mul-le_self (m * P) (suc b), mul-le-mul_left p l)) in
      omega arith

  pub share_hi : (hi b P p : ℕ) → m ≤ hi * b → share m b P p ≤ hi * p
  unfolding share
  share_hi hi zero P p l = rw (div-zero, div-zero) (omega arith)
  share_hi hi (suc b) P p l =
      let k : m * (P + p) / suc b < m * P / suc b + hi * p + 1 = (div-lt_iff_lt-mul (zero-lt-suc b)).1 (omega (arith, lt-div-mul-add {a = m * P} (zero-lt-suc b), mul-le-mul_left p l)) in
      omega arith

  -- the shares and the rest make m
  pub shares_sum : (b P : ℕ) (ps : List ℕ) → sum (shares m b P ps) + m * P / b ≡ m * (P + sum ps) / b
  unfolding shares share sum
  shares_sum b P [] = rw (add-zero P) (omega arith)
  shares_sum b P (p ∷ ps) = rw (← add_assoc P p (sum ps)) (omega (arith, shares_sum b (P + p) ps, floor_mono b P p))

  -- the shares of the first parts together are one floor
  pub shares_floor : (b : ℕ) (ps : List ℕ) → sum (shares m b 0 ps) ≡ m * sum ps / b
  shares_floor b ps =
      let s : sum (shares m b 0 ps) + m * 0 / b ≡ m * sum ps / b = rw zero-add at (shares_sum b 0 ps) in
      omega (arith, floor_none b)

  pub shares_rest : (b : ℕ) (ps : List ℕ) → sum ps ≤ b → sum (shares m b 0 ps) + rest m b (sum ps) ≡ m
  unfolding rest
  shares_rest b ps h = omega (arith, shares_floor b ps, floor_all b (sum ps) h)

  floor_whole : (b : ℕ) → 0 < b → m * b / b ≡ m
  floor_whole b h = mul-div_cancel m h

  -- the rest is bounded as a share of the part k of b that is left
  pub rest_lo : (lo b P k : ℕ) → P + k ≡ b → lo * b ≤ m → lo * k ≤ rest m b P
  unfolding rest share
  rest_lo lo zero P k e l = let z : k ≡ 0 = omega arith in rw z (omega arith)
  rest_lo lo (suc b) P k e l =
      subst (λ (x : ℕ). lo * k ≤ x - m * P / suc b) (ap (λ (x : ℕ). m * x / suc b) e ∙ floor_whole (suc b) (zero-lt-suc b))
      (share_lo lo (suc b) P k (omega arith) l)

  pub rest_hi : (hi b P k : ℕ) → P + k ≡ b → m ≤ hi * b → rest m b P ≤ hi * k
  unfolding rest share
  rest_hi hi zero P k e l = omega arith
  rest_hi hi (suc b) P k e l =
      subst (λ (x : ℕ). x - m * P / suc b ≤ hi * k) (ap (λ (x : ℕ). m * x / suc b) e ∙ floor_whole (suc b) (zero-lt-suc b))
      (share_hi hi (suc b) P k l)

  -- what gives all its water keeps nothing
  pub rest_of_all : (hi b : ℕ) → m ≤ hi * b → rest m b b ≡ 0
  rest_of_all hi b l = omega (arith, rest_hi hi b b 0 (omega arith) l)

  -- every share of a list of parts
  pub shares_lo : (lo b P : ℕ) (ps : List ℕ) → P + sum ps ≤ b → lo * b ≤ m → (k : ℕ) → k < length ps → lo * get_or ps k 0 ≤ get_or (shares m b P ps) k 0
  unfolding shares sum
  shares_lo lo b P [] h l k i = absurd (not-suc-le-zero i)
  shares_lo lo b P (p ∷ ps) h l zero i = share_lo lo b P p (omega arith) l
  shares_lo lo b P (p ∷ ps) h l (suc k) i = shares_lo lo b (P + p) ps (omega arith) l k (le_of_suc-le-suc i)

  pub shares_hi : (hi b P : ℕ) (ps : List ℕ) → m ≤ hi * b → (k : ℕ) → k < length ps → get_or (shares m b P ps) k 0 ≤ hi * get_or ps k 0
  unfolding shares sum
  shares_hi hi b P [] l k i = absurd (not-suc-le-zero i)
  shares_hi hi b P (p ∷ ps) l zero i = share_hi hi b P p l
  shares_hi hi b P (p ∷ ps) l (suc k) i = shares_hi hi b (P + p) ps l k (le_of_suc-le-suc i)

  -- a part of nothing has nothing
  pub share_nothing : (b P : ℕ) → share m b P 0 ≡ 0
  unfolding share
  share_nothing b P = rw (add-zero P) (omega arith)

  pub length_shares : (b P : ℕ) (ps : List ℕ) → length (shares m b P ps) ≡ length ps
  unfolding shares
  length_shares b P [] = refl
  length_shares b P (p ∷ ps) = ap suc (length_shares b (P + p) ps)

  -- the share of part k comes after the parts before it
  pub shares_at : (b P n : ℕ) (f : ℕ → ℕ) (k : ℕ) → k < n → get_or (shares m b P (tabulate n f)) k 0 ≡ share m b (P + sum_below k f) (f k)
  unfolding shares tabulate sum_below
  shares_at b P zero f k l = absurd (not-suc-le-zero l)
  shares_at b P (suc n) f zero l = rw (add-zero P) refl
  shares_at b P (suc n) f (suc k) l =
      shares_at b (P + f 0) n (λ i. f (suc i)) k (le_of_suc-le-suc l)
      ∙ ap (λ (x : ℕ). share m b x (f (suc k))) (add_assoc P (f 0) (sum_below k (λ i. f (suc i))) ∙ ap (λ (x : ℕ). P + x) (sym (sum_first k f)))
