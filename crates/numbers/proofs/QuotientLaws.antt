-- Laws of a quotient by a reciprocal, over any base P and any scale T + 1, since `omega` stops at 38 digits. Assumes nothing.
use mathlib.Core.Path.{◌≡◌, sym, ap, ap₂, ◌∙◌}
use Prim.Native.Nat.{ℕ, ◌+◌, ◌-◌, ◌*◌, ◌/◌, ◌%◌, ◌≤◌, ◌<◌}
use native.Mathlib.Nat.{le_antisymm, le-div_iff_mul-le, div-mul-le_self, mul-le-mul_left, mul-le-mul_right, le_of_mul-le-mul_left, lt_of_not-le, lt-div-mul-add, mod-lt, div-add-mod'}
use native.Mathlib.Omega.{arith}

-- ---- the upper half of a product

-- two numbers of two digits each, column by column with the carries c₀, c and c₁
columns : (P a₁ a₀ b₁ b₀ c₀ d₀ c d c₁ d₁ : ℕ) → a₀ * b₀ ≡ c₀ * P + d₀ → a₁ * b₀ + c₀ ≡ c * P + d → d + a₀ * b₁ ≡ c₁ * P + d₁
    → (a₁ * P + a₀) * (b₁ * P + b₀) ≡ (a₁ * b₁ + c + c₁) * (P * P) + (d₁ * P + d₀)
columns P a₁ a₀ b₁ b₀ c₀ d₀ c d c₁ d₁ e f g = omega (arith, e, ap (λ (n : ℕ). n * P) f, ap (λ (n : ℕ). n * P) g)

upper_digits : (P n r d₁ d₀ : ℕ) → n ≡ r * (P * P) + (d₁ * P + d₀) → d₁ < P → d₀ < P → (r * (P * P) ≤ n) × (n < (r + 1) * (P * P))
upper_digits P n r d₁ d₀ e l m = (omega (arith, e), omega (arith, e, m, mul-le-mul_right P l))

-- the sum of the middle column
abbrev middle : (P u v : ℕ) → ℕ
middle P u v = u / P * (v % P) + u % P * (v % P) / P

-- and of the next one
abbrev next : (P u v : ℕ) → ℕ
next P u v = middle P u v % P + u % P * (v / P)

pub upper_half_is : (P u v : ℕ) → 0 < P →
    let r = u / P * (v / P) + middle P u v / P + next P u v / P in
    (r * (P * P) ≤ u * v) × (u * v < (r + 1) * (P * P))
upper_half_is P u v p =
    upper_digits P (u * v) _ (next P u v % P) (u % P * (v % P) % P)
    (ap₂ ◌*◌ (sym (div-add-mod' u P)) (sym (div-add-mod' v P))
    ∙ columns P (u / P) (u % P) (v / P) (v % P) (u % P * (v % P) / P) _ (middle P u v / P) _ (next P u v / P) _ (sym (div-add-mod' (u % P * (v % P)) P)) (sym (div-add-mod' (middle P u v) P)) (sym (div-add-mod' (next P u v) P)))
    (mod-lt (next P u v) p)
    (mod-lt (u % P * (v % P)) p)

-- ---- the quotient

-- with m the reciprocal of d, floor(T/d), the product n·m on the scale T + 1 falls short of n/d by at most one
pub falls_short : (T d m n q : ℕ) → 0 < d → m ≡ T / d → n ≤ T → q * (T + 1) ≤ n * m → n * m < (q + 1) * (T + 1) → (q * d ≤ n) × (n < (q + 2) * d)
falls_short T d m n q p e s f g =
    let l : m * d ≤ T = rw e (div-mul-le_self T d) in
    let u : T < m * d + d = rw e (lt-div-mul-add p) in (
      le_of_mul-le-mul_left {k = T + 1} (omega (arith, mul-le-mul_right d f, mul-le-mul_left n l)) (omega arith),
      lt_of_not-le (λ k. omega (arith, p, mul-le-mul_left n u, mul-le-mul_right d g, mul-le-mul_right d s, mul-le-mul_left (T + 1) k)),
    )

-- the quotient by its two bounds
quotient_is : (n d q : ℕ) → 0 < d → q * d ≤ n → n < (q + 1) * d → q ≡ n / d
quotient_is n d q p l u =
    le_antisymm
    ((le-div_iff_mul-le p).1 l)
    (omega (arith, lt_of_not-le (λ (k : q + 1 ≤ n / d). omega (arith, u, mul-le-mul_right d k, div-mul-le_self n d))))

-- what falls short by at most one is put right by one comparison
module _ (n d q : ℕ) (p : 0 < d) (b : (q * d ≤ n) × (n < (q + 2) * d)) where
  pub one_more : d ≤ n - q * d → (q + 1 ≡ n / d) × (q + 1 ≤ n)
  one_more l = (quotient_is n d (q + 1) p (omega (arith, l, b.0)) (omega (arith, b.1)), omega (arith, l, b.0, mul-le-mul_left (q + 1) p))

  pub none_more : n - q * d < d → q ≡ n / d
  none_more l = quotient_is n d q p b.0 (omega (arith, l))
