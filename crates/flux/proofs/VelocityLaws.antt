-- The parts of a velocity, and its size. Assumes nothing.
use mathlib.Core.Path.{◌≡◌, refl, sym, ap, ◌∙◌}
use Prim.Native.Nat.{ℕ, zero, suc, ◌*◌, ◌/◌, ◌≤◌}
use mathlib.Core.Logic.{⊎_elim}
use native.Mathlib.Nat.{zero-div, div-zero, div-le_of_le-mul}
use native.Mathlib.Omega.{arith}
use lib.IntN.{ℤ, pos, negsuc, neg_ℤ, nat_abs, neg_ℤ-neg_ℤ}
use Rattle.numbers.specs.Signed.{positive}
use Rattle.numbers.proofs.SignedLaws.{R, L, pos_cross, one_part, abs_neg}
use Rattle.flux.specs.Velocity.{velocity}

pub velocity_right : (h : ℕ) (q : ℤ) → R (velocity h q) ≡ R q / h
unfolding velocity
velocity_right h (pos n) = refl
velocity_right h (negsuc n) = right_neg (suc n / h) ∙ sym (zero-div h)
  where
    right_neg : (k : ℕ) → R (neg_ℤ (pos k)) ≡ 0
    right_neg zero = refl
    right_neg (suc k) = refl

pub velocity_left : (h : ℕ) (q : ℤ) → L (velocity h q) ≡ L q / h
unfolding velocity
velocity_left h (pos n) = pos_cross (n / h) ∙ sym (zero-div h) ∙ ap (λ (m : ℕ). m / h) (sym (pos_cross n))
velocity_left h (negsuc n) = ap positive (neg_ℤ-neg_ℤ (pos (suc n / h)))

-- a dry cell stands still
pub velocity_dry : (q : ℤ) → velocity 0 q ≡ pos 0
unfolding velocity
velocity_dry (pos n) = ap pos (div-zero n)
velocity_dry (negsuc n) = ap (λ (k : ℕ). neg_ℤ (pos k)) (div-zero (suc n))

-- its size is the quotient of the sizes
pub velocity_size : (h : ℕ) (q : ℤ) → nat_abs (velocity h q) ≡ nat_abs q / h
unfolding velocity
velocity_size h (pos n) = refl
velocity_size h (negsuc n) = abs_neg (pos (suc n / h))

-- a discharge of at most v times the depth has a velocity of at most v
pub velocity_most_lem : (v h : ℕ) (q : ℤ) → nat_abs q ≤ v * h → nat_abs (velocity h q) ≤ v
velocity_most_lem v h q l = rw velocity_size (div-le_of_le-mul h (omega arith))

-- ---- the parts of u from the part of q that is not 0

pub dry_parts : (h : ℕ) (q : ℤ) → h ≡ 0 → (0 ≡ R (velocity h q)) × (0 ≡ L (velocity h q))
dry_parts h q e = rw (e, velocity_dry q) (refl, refl)

pub leftward_parts : (h : ℕ) (q : ℤ) (l : ℕ) → R q ≡ 0 → l ≡ L q → (0 ≡ R (velocity h q)) × (l / h ≡ L (velocity h q))
leftward_parts h q l e f =
    (sym (velocity_right h q ∙ ap (λ (n : ℕ). n / h) e ∙ zero-div h), ap (λ (n : ℕ). n / h) f ∙ sym (velocity_left h q))

pub rightward_parts : (h : ℕ) (q : ℤ) (r : ℕ) → (r ≡ 0 → ⊥) → r ≡ R q → (r / h ≡ R (velocity h q)) × (0 ≡ L (velocity h q))
rightward_parts h q r p f =
    let e : L q ≡ 0 = ⊎_elim (λ z. absurd (p (f ∙ z))) (λ z. z) (one_part q) in
    (ap (λ (n : ℕ). n / h) f ∙ sym (velocity_right h q), sym (velocity_left h q ∙ ap (λ (n : ℕ). n / h) e ∙ zero-div h))
