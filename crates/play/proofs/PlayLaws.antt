-- Laws of a play: steps one after the other, and what each refusal stops. Assumes nothing.
use mathlib.Core.Path.{◌≡◌, refl, ap, ◌∙◌}
use mathlib.Core.Bool.{true, false}
use mathlib.Core.List.{List}
use Prim.Native.Nat.{ℕ, suc, ◌+◌, ◌-◌, ◌≤◌, ◌<◌}
use native.Mathlib.Omega.{arith}
use borrow.Author.Tests.{eq-eqb, ne_eqb}
use lib.IntN.{ℤ}
use Rattle.reach.specs.Reach.{Reach, reach_of}
use Rattle.reach.specs.Outcome.{Outcome}
use Rattle.reach.specs.declared.held.Held.{Held}
use Rattle.update.specs.Step.{step}
use Rattle.transport.specs.Calls.{transport}
use Rattle.sheet.specs.Opening.{opening}
use Rattle.play.specs.Play.{steps, count_fits, steps_then_transports, played}
use Rattle.play.specs.Ranges.{PlayedTo}
use Rattle.play.specs.declared.Ran.{Ran}

-- one step of those that are left
pub steps_on : (count i t : ℕ) (s n : Reach) → i < count → (step s t 0).refusal ≡ 0 → n ≡ (step s t 0).reach → steps (count - i) t s ≡ steps (count - (i + 1)) t n
unfolding steps
steps_on count i t s n l e f =
    let k : count - i ≡ suc (count - (i + 1)) = omega arith in
    rw (k, eq-eqb _ _ e, f) refl

pub steps_stop : (count i t : ℕ) (s : Reach) → i < count → ((step s t 0).refusal ≡ 0 → ⊥) → steps (count - i) t s ≡ step s t 0
unfolding steps
steps_stop count i t s l e =
    let k : count - i ≡ suc (count - (i + 1)) = omega arith in
    rw (k, ne_eqb _ _ e) refl

pub steps_done : (count i t : ℕ) (s : Reach) → i ≤ count → count ≤ i → steps (count - i) t s ≡ record { refusal = 0; reach = s }
unfolding steps
steps_done count i t s l m = let k : count - i ≡ 0 = omega arith in rw k refl

-- what a play left, by the record in its columns
pub left : {o : Outcome} {r : Ran} (z : List ℤ) (h : List ℕ) (q : List ℤ) (m b : List ℕ) (c : List ℤ) (X : ℕ) {k : Held}
    → r.refusal ≡ o.refusal → r.held ≡ k → reach_of z h q m b c X k ≡ o.reach → PlayedTo o r z h q m b c
left z h q m b c X e f g = record {
  refusal_is = e;
  bed_is = ap (λ (x : Reach). x.bed) g;
  depth_is = ap (λ (x : Reach). x.depth) g;
  discharge_is = ap (λ (x : Reach). x.discharge) g;
  mass_is = ap (λ (x : Reach). x.mass) g;
  base_is = ap (λ (x : Reach). x.base) g;
  carried_is = ap (λ (x : Reach). x.carried) g;
  held_is = f ∙ ap (λ (x : Reach). x.held) g;
}

module _ (s : List ℕ) (l : Reach) (count t : ℕ) where
  pub not_opened : ((opening s l).refusal ≡ 0 → ⊥) → played s l count t ≡ opening s l
  unfolding played
  not_opened n = rw (ne_eqb _ _ n) refl

  module _ (e : (opening s l).refusal ≡ 0) where
    pub too_many : count_fits count ≡ false → played s l count t ≡ record { refusal = 10; reach = (opening s l).reach }
    unfolding played steps_then_transports
    too_many m = rw (eq-eqb _ _ e, m) refl

    module _ (f : count_fits count ≡ true) where
      pub not_stepped : ((steps count t (opening s l).reach).refusal ≡ 0 → ⊥) → played s l count t ≡ steps count t (opening s l).reach
      unfolding played steps_then_transports
      not_stepped n = rw (eq-eqb _ _ e, f, ne_eqb _ _ n) refl

      pub transported : (steps count t (opening s l).reach).refusal ≡ 0 → played s l count t ≡ transport (steps count t (opening s l).reach).reach
      unfolding played steps_then_transports
      transported g = rw (eq-eqb _ _ e, f, eq-eqb _ _ g) refl
