-- Laws of the crossing amounts: what a dry cell sends, how large they are, and that no more leaves a cell than it holds.
-- Of the wave speed they use that it is monotone, positive and small, and nothing else. Assumes nothing.
use mathlib.Core.Path.{◌≡◌, refl, ap, ◌∙◌}
use mathlib.Core.Logic.{⊎_elim}
use Prim.Native.Nat.{ℕ, zero, suc, ◌+◌, ◌*◌, ◌-◌, ◌/◌, ◌≤◌, ◌<◌}
use native.Mathlib.Nat.{le-div_iff_mul-le, zero-lt-suc, mul-le-mul, mul-le-mul_left, mul-le-mul_right, mul-pos, le_trans, sub-le, le_of_mul-le-mul_left, zero-div, div-zero, div-mul-le_self, div-le_of_le-mul, mul-div-mul_left, eq-zero-or-pos}
use native.Mathlib.Omega.{arith}
use lib.IntN.{ℤ, pos, ◌+ℤ◌, ◌-ℤ◌, neg_ℤ, sub_ℕ, nat_abs, neg_ℤ-neg_ℤ}
use Rattle.numbers.proofs.SignedLaws.{R, L, abs_parts, abs_sub, add_cross, minus_cross, pos_cross, one_part}
use Rattle.flux.specs.Limits.{depth_most, velocity_most}
use Rattle.flux.specs.Wave.{wave_speed}
use Rattle.flux.specs.Crossing.{upper, lower, water_of, water_flux, second_moment, momentum_of, momentum_flux, still_thrust}
use Rattle.flux.specs.Ranges.{Mesh, Flow, Spectrum, moment_most}
use Rattle.flux.proofs.WaveLaws.{wave_speed_mono, wave_speed_pos, wave_speed_most}

-- ---- A and B by the parts of u

pub upper_parts : (a : ℕ) (u : ℤ) → upper a u ≡ R u + a - L u
unfolding upper
upper_parts a u =
    let e = add_cross u (pos a) in
    let p = pos_cross a in
    ⊎_elim (λ f. ⊎_elim (λ g. omega arith) (λ g. omega arith) (one_part u)) (λ f. ⊎_elim (λ g. omega arith) (λ g. omega arith) (one_part u)) (one_part (u +ℤ pos a))

pub lower_parts : (a : ℕ) (u : ℤ) → lower a u ≡ R u - (L u + a)
unfolding lower
lower_parts a u =
    let e = minus_cross u (pos a) in
    let p = pos_cross a in
    ⊎_elim (λ f. ⊎_elim (λ g. omega arith) (λ g. omega arith) (one_part u)) (λ f. ⊎_elim (λ g. omega arith) (λ g. omega arith) (one_part u)) (one_part (u -ℤ pos a))

pub lower_le_upper : (a : ℕ) (u : ℤ) → lower a u ≤ upper a u
lower_le_upper a u = omega (arith, upper_parts a u, lower_parts a u)

-- ---- a dry cell sends nothing

none_crosses : (t n d : ℕ) → 0 * t * n / d ≡ 0
none_crosses t n d = ap (λ (m : ℕ). m / d) (omega arith) ∙ zero-div d

pub water_flux_dry : (t X : ℕ) (u : ℤ) → water_flux t X 0 u ≡ 0
unfolding water_flux water_of
water_flux_dry t X u = none_crosses t _ _

pub momentum_flux_dry : (t X : ℕ) (u : ℤ) → momentum_flux t X 0 u ≡ 0
unfolding momentum_flux momentum_of
momentum_flux_dry t X u = none_crosses t _ _

pub still_thrust_dry : (t X : ℕ) → still_thrust t X 0 ≡ 0
unfolding still_thrust
still_thrust_dry t X = ap (λ (k : ℕ). 2 * k) (momentum_flux_dry t X (pos 0))

-- ---- no more water leaves a cell than it holds

squares : (a A B : ℕ) → A ≤ B + 2 * a → A * A - B * B ≤ 2 * a * (A + B)
squares a A B m = omega (arith, mul-le-mul_left A m, mul-le-mul_left B m)

-- 2,000·X·W ≤ h·t·(A+B), where A − B ≤ 2a
water_bound : (t X h a A B : ℕ) → A ≤ B + 2 * a → 2_000 * X * water_of t X h a A B ≤ h * t * (A + B)
unfolding water_of
water_bound t X h a A B m = ⊎_elim zero_a pos_a (eq-zero-or-pos a)
  where
    N : ℕ
    N = h * t * (A * A - B * B)

    d : ℕ
    d = 4_000 * a * X

    W : ℕ
    W = N / d

    cancel : (w : ℕ) → 0 < a → w * d ≤ N → 2_000 * X * w ≤ h * t * (A + B)
    cancel w p l = le_of_mul-le-mul_left {k = 2 * a} (omega (arith, mul-le-mul_left (h * t) (squares a A B m))) (omega arith)

    none : (w : ℕ) → w ≡ 0 → 2_000 * X * w ≤ h * t * (A + B)
    none w e = omega (arith, ap (λ (v : ℕ). 2_000 * X * v) e)

    zero_a : a ≡ 0 → 2_000 * X * W ≤ h * t * (A + B)
    zero_a e = none W (ap (λ (b : ℕ). N / (4_000 * b * X)) e ∙ ap (λ (b : ℕ). N / b) (omega arith) ∙ div-zero N)

    pos_a : 0 < a → 2_000 * X * W ≤ h * t * (A + B)
    pos_a p = cancel W p (div-mul-le_self N d)

water_flux_bound : (t X h : ℕ) (u : ℤ) → 2_000 * X * water_flux t X h u ≤ h * t * (R u + wave_speed h - L u + (R u - (L u + wave_speed h)))
unfolding water_flux
water_flux_bound t X h u =
    rw (upper_parts, lower_parts) (water_bound t X h (wave_speed h) _ _ (width (R u) (L u) (wave_speed h)))
  where
    width : (p n a : ℕ) → p + a - n ≤ p - (n + a) + 2 * a
    width p n a = omega arith

-- of the two sides, with reduced depths whose wave speeds c and d are at most the cell's, a
both_sides : (p n a c d : ℕ) → c ≤ a → d ≤ a → p + c - n + (p - (n + c)) + (n + d - p + (n - (p + d))) ≤ 2 * (p + n + a)
both_sides p n a c d h k = omega arith

-- any two amounts Y and W that obey the two bounds
sum_bound : (t X h r l s Sr Sl Y W : ℕ) → 0 < X → r ≤ h → l ≤ h → t * s ≤ 1_000 * X → Sr + Sl ≤ 2 * s
    → 2_000 * X * Y ≤ r * t * Sr → 2_000 * X * W ≤ l * t * Sl → Y + W ≤ h
sum_bound t X h r l s Sr Sl Y W x hr hl cfl both bv bw =
    le_of_mul-le-mul_left {k = 2_000 * X}
    (omega (
      arith,
      mul-le-mul_right (t * Sr) hr,
      mul-le-mul_right (t * Sl) hl,
      mul-le-mul_left (h * t) both,
      mul-le-mul_left (2 * h) cfl,
    ))
    (omega arith)

-- W(r,u) + W(l,−u) ≤ h for any two reduced depths r and l of a cell of depth h that meets CFL
pub outflow_le_depth : (t X h r l : ℕ) (u : ℤ) → 0 < X → r ≤ h → l ≤ h → t * (nat_abs u + wave_speed h) ≤ 1_000 * X
    → water_flux t X r u + water_flux t X l (neg_ℤ u) ≤ h
outflow_le_depth t X h r l u x hr hl cfl =
    sum_bound t X h r l (nat_abs u + wave_speed h) _ _ _ _ x hr hl cfl
    (rw abs_parts (both_sides (R u) (L u) (wave_speed h) (wave_speed r) (wave_speed l) (wave_speed_mono r h hr) (wave_speed_mono l h hl)))
    (water_flux_bound t X r u)
    (rw neg_ℤ-neg_ℤ at (water_flux_bound t X l (neg_ℤ u)))

-- ---- sizes: each product fits 64 bits

-- A³ − B³ ≤ 6a·A², where A − B ≤ 2a
cubes : (a A B : ℕ) → B ≤ A → A ≤ B + 2 * a → A * A * A - B * B * B ≤ 6 * a * (A * A)
cubes a A B l m =
    omega (
      arith,
      mul-le-mul_left (A * A) m,
      mul-le-mul_left (A * B) m,
      mul-le-mul_left (B * B) m,
      mul-le-mul_left (2 * a * A) l,
      mul-le-mul_left (2 * a) (mul-le-mul l l),
    )

module _ {a A B : ℕ} (s : Spectrum a A B) where
  pub square : A * A ≤ moment_most
  square = mul-le-mul s.upper s.upper

  pub square_low : B * B ≤ A * A
  square_low = mul-le-mul s.lower s.lower

  pub moment_most_lem : second_moment a A B ≤ moment_most
  unfolding second_moment
  moment_most_lem = le_trans (div-le_of_le-mul (6 * a) (cubes a A B s.lower s.width)) square

module _ {t X h : ℕ} (g : Mesh t X) (d : h ≤ depth_most) where
  pub volume : h * t ≤ 4_000_000_000
  volume = mul-le-mul d g.time

  pub momentum_dividend : (k : ℕ) → k ≤ moment_most → h * t * k ≤ 1_024_000_000_000_000_000
  momentum_dividend k l = mul-le-mul volume l

  pub momentum_of_most : (k : ℕ) → k ≤ moment_most → momentum_of t X h k ≤ 10_240_000_000_000
  unfolding momentum_of
  momentum_of_most k l = let x = g.least in div-le_of_le-mul (1_000 * X) (omega (arith, momentum_dividend k l))

  module _ {a A B : ℕ} (s : Spectrum a A B) where
    pub water_dividend : h * t * (A * A - B * B) ≤ 1_024_000_000_000_000_000
    water_dividend = mul-le-mul volume (le_trans (sub-le (A * A) (B * B)) (square s))

    pub water_divisor : 4_000 * a * X ≤ 3_200_000_000_000
    water_divisor = mul-le-mul (mul-le-mul_left 4_000 s.wave) g.most

    pub water_divisor_pos : 0 < 4_000 * a * X
    water_divisor_pos = let w = s.wet in let x = g.least in mul-pos (omega arith) (omega arith)

-- the spectrum of a wet cell
pub spectrum_of : (h : ℕ) (u : ℤ) → h ≤ depth_most → nat_abs u ≤ velocity_most → 0 < h
    → Spectrum (wave_speed h) (upper (wave_speed h) u) (lower (wave_speed h) u)
spectrum_of h u d v wet =
    let A = upper_parts (wave_speed h) u in
    let B = lower_parts (wave_speed h) u in
    let most = wave_speed_most h d in
    let least = wave_speed_pos h wet in
    let e = abs_parts u in
    record {
      wet = least;
      wave = most;
      upper = omega arith;
      lower = omega arith;
      width = omega arith;
    }

-- the same of a velocity right − left
pub spectrum : {h a right left : ℕ} → Flow h a right left → 0 < h → Spectrum a (upper a (sub_ℕ right left)) (lower a (sub_ℕ right left))
spectrum {h} {a} {right} {left} f wet =
    let r = f.right_most in
    let l = f.left_most in
    rw f.wave (spectrum_of h (sub_ℕ right left) f.depth (omega (arith, abs_sub right left)) wet)

-- and of A and B that were computed elsewhere
pub spectrum_with : {h a right left A B : ℕ} → Flow h a right left → 0 < h → A ≡ upper a (sub_ℕ right left) → B ≡ lower a (sub_ℕ right left)
    → Spectrum a A B
spectrum_with f wet eA eB = rw (eA, eB) (spectrum f wet)

pub water_flux_of : {h a right left A B : ℕ} (t X : ℕ) → Flow h a right left → A ≡ upper a (sub_ℕ right left) → B ≡ lower a (sub_ℕ right left)
    → water_of t X h a A B ≡ water_flux t X h (sub_ℕ right left)
unfolding water_flux
water_flux_of t X f eA eB = rw (eA, eB, f.wave)

pub momentum_flux_of : {h a right left A B : ℕ} (t X : ℕ) → Flow h a right left → A ≡ upper a (sub_ℕ right left) → B ≡ lower a (sub_ℕ right left)
    → momentum_of t X h (second_moment a A B) ≡ momentum_flux t X h (sub_ℕ right left)
unfolding momentum_flux
momentum_flux_of t X f eA eB = rw (eA, eB, f.wave)

-- ---- sizes of the amounts, so that sums of some of them cannot wrap

pub water_flux_most : (t X h : ℕ) (u : ℤ) → Mesh t X → h ≤ depth_most → nat_abs u ≤ velocity_most → water_flux t X h u ≤ 640_000_000
water_flux_most t X h u g d v =
    go (water_flux t X h u) (R u + wave_speed h - L u + (R u - (L u + wave_speed h)))
    (omega (arith, wave_speed_most h d, abs_parts u))
    (water_flux_bound t X h u)
  where
    go : (w s : ℕ) → s ≤ 32_000 → 2_000 * X * w ≤ h * t * s → w ≤ 640_000_000
    go w s l b = omega (arith, mul-le-mul (mul-le-mul d g.time) l, mul-le-mul_right (2_000 * w) g.least)

pub momentum_flux_most : (t X h : ℕ) (u : ℤ) → Mesh t X → h ≤ depth_most → nat_abs u ≤ velocity_most → momentum_flux t X h u ≤ 10_240_000_000_000
unfolding momentum_flux
momentum_flux_most t X h u g d v = ⊎_elim dry wet (eq-zero-or-pos h)
  where
    dry : h ≡ 0 → momentum_flux t X h u ≤ 10_240_000_000_000
    dry e = omega (arith, ap (λ (k : ℕ). momentum_flux t X k u) e ∙ momentum_flux_dry t X u)

    wet : 0 < h → momentum_flux t X h u ≤ 10_240_000_000_000
    wet w = momentum_of_most g d _ (moment_most_lem (spectrum_of h u d v w))

-- the same of a velocity right − left
pub momentum_flux_small : {t X h a right left : ℕ} → Mesh t X → Flow h a right left → momentum_flux t X h (sub_ℕ right left) ≤ 10_240_000_000_000
momentum_flux_small {t} {X} {h} {a} {right} {left} g f =
    let r = f.right_most in
    let l = f.left_most in
    momentum_flux_most t X h (sub_ℕ right left) g f.depth (omega (arith, abs_sub right left))

pub still_thrust_most : (t X h : ℕ) → Mesh t X → h ≤ depth_most → still_thrust t X h ≤ 20_480_000_000_000
unfolding still_thrust
still_thrust_most t X h g d = omega (arith, momentum_flux_most t X h (pos 0) g d (omega arith))

-- ---- S without A and B: at rest K is a²/6

moment_still : (a : ℕ) → second_moment a a 0 ≡ a * a / 6
unfolding second_moment
moment_still zero = refl
moment_still (suc a) =
    let e : suc a * suc a * suc a - 0 * 0 * 0 ≡ suc a * (suc a * suc a) = omega arith in
    let d : 6 * suc a ≡ suc a * 6 = omega arith in
    rw (e, d) (mul-div-mul_left _ 6 (omega arith))

pub still_thrust_is : (t X h : ℕ) → still_thrust t X h ≡ 2 * momentum_of t X h (wave_speed h * wave_speed h / 6)
unfolding still_thrust momentum_flux
still_thrust_is t X h = rw (rest_upper (wave_speed h), rest_lower (wave_speed h), moment_still (wave_speed h))
  where
    rest_upper : (a : ℕ) → upper a (pos 0) ≡ a
    rest_upper a = omega (arith, upper_parts a (pos 0))

    rest_lower : (a : ℕ) → lower a (pos 0) ≡ 0
    rest_lower a = omega (arith, lower_parts a (pos 0))

div_mono : (d : ℕ) {n m : ℕ} → n ≤ m → n / d ≤ m / d
div_mono zero {n} {m} l = omega (arith, div-zero n, div-zero m)
div_mono (suc d) {n} {m} l = (le-div_iff_mul-le (zero-lt-suc d)).1 (le_trans (div-mul-le_self n (suc d)) l)

-- S grows with the depth
pub still_thrust_mono : (t X h k : ℕ) → h ≤ k → still_thrust t X h ≤ still_thrust t X k
unfolding momentum_of
still_thrust_mono t X h k l =
    let a = wave_speed_mono h k l in
    let m : wave_speed h * wave_speed h / 6 ≤ wave_speed k * wave_speed k / 6 = omega (arith, mul-le-mul a a) in
    let v : h * t * (wave_speed h * wave_speed h / 6) ≤ k * t * (wave_speed k * wave_speed k / 6) = mul-le-mul (mul-le-mul_right t l) m in
    rw (still_thrust_is t X h, still_thrust_is t X k) (mul-le-mul_left 2 (div_mono (1_000 * X) v))
