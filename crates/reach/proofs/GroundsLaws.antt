-- Laws of the list of grounds: what a passed and what a failed ground tells, and the first refusal, ground by ground. Assumes nothing.
use mathlib.Core.Path.{◌≡◌, refl}
use mathlib.Core.List.{List, [], ◌∷◌, ◌++◌}
use mathlib.Core.Bool.{Bool, true, false, cond}
use Prim.Native.Nat.{ℕ, zero, suc, ◌<◌}
use native.Mathlib.Omega.{arith}
use lib.ListN.{get_or}
use Rattle.numbers.specs.Index.{all_of}
use Rattle.std.specs.Prelude.{Ok, Err}
use Rattle.reach.specs.Refusals.{number}
use Rattle.reach.specs.Grounds.{Ground, Verdict, ground, first_refusal, number_of, pass_or}
use Rattle.reach.specs.declared.refusal.Refusal.{Refusal}
use Rattle.reach.specs.declared.refusal.Refusal.TheVariants as refusal

-- ---- one check

pub passes : (r : Refusal) {t : Bool} → t ≡ true → Ok tt ≡ pass_or r t
passes r e = rw e refl

pub refuses : (r : Refusal) {t : Bool} → t ≡ false → Err r ≡ pass_or r t
refuses r e = rw e refl

pub passed : (r : Refusal) (t : Bool) (k : Verdict) → k ≡ pass_or r t → k ≡ Ok tt → t ≡ true
passed r true k p q = refl
passed r false k p q = cc

pub refused_by : (r : Refusal) (t : Bool) (k : Verdict) (x : Refusal) → k ≡ pass_or r t → k ≡ Err x → t ≡ false
refused_by r true k x p q = cc
refused_by r false k x p q = refl

pub refusal_of : (r : Refusal) (t : Bool) (k : Verdict) (x : Refusal) → k ≡ pass_or r t → k ≡ Err x → x ≡ r
refusal_of r true k x p q = cc
refusal_of r false k x p q = cc

-- ---- grounds in order

went_on : (t : Bool) (x : Verdict) (r : Refusal) → cond t x (Err r) ≡ Ok tt → (t ≡ true) × (x ≡ Ok tt)
went_on true x r e = (refl, e)
went_on false x r e = (cc, cc)

pub stood : (gs : List Ground) → first_refusal gs ≡ Ok tt → (k : ℕ) → (get_or gs k (ground refusal.Edition true)).stands ≡ true
unfolding first_refusal
stood [] e k = refl
stood (g ∷ gs) e zero = (went_on g.stands (first_refusal gs) g.refusal e).0
stood (g ∷ gs) e (suc k) = stood gs (went_on g.stands (first_refusal gs) g.refusal e).1 k

pub go_on : (g : Ground) (gs : List Ground) {x : Verdict} → g.stands ≡ true → first_refusal gs ≡ x → first_refusal (g ∷ gs) ≡ x
unfolding first_refusal
go_on g gs {x} e f = rw e f

pub stop_at : (g : Ground) (gs : List Ground) → g.stands ≡ false → first_refusal (g ∷ gs) ≡ Err g.refusal
unfolding first_refusal
stop_at g gs e = rw e refl

-- one that stands says nothing
pub second_stands : (g k : Ground) (gs : List Ground) → k.stands ≡ true → first_refusal (g ∷ k ∷ gs) ≡ first_refusal (g ∷ gs)
unfolding first_refusal
second_stands g k gs e = rw e refl

pub last_one : (r : Refusal) (t : Bool) → first_refusal (ground r t ∷ []) ≡ pass_or r t
unfolding first_refusal
last_one r true = refl
last_one r false = refl

-- grounds after grounds that stand, and after one that fails
pub further : (gs hs : List Ground) → first_refusal gs ≡ Ok tt → first_refusal (gs ++ hs) ≡ first_refusal hs
unfolding first_refusal
further [] hs e = refl
further (g ∷ gs) hs e = let w = went_on g.stands (first_refusal gs) g.refusal e in rw w.0 (further gs hs w.1)

-- where all stand, those before stand
pub passed_first : (gs hs : List Ground) → first_refusal (gs ++ hs) ≡ Ok tt → first_refusal gs ≡ Ok tt
unfolding first_refusal
passed_first [] hs e = refl
passed_first (g ∷ gs) hs e = let w = went_on g.stands (first_refusal (gs ++ hs)) g.refusal e in rw w.0 (passed_first gs hs w.1)

failed : (t : Bool) (x y : Verdict) (m r : Refusal) → cond t x (Err m) ≡ Err r → (x ≡ Err r → y ≡ Err r) → cond t y (Err m) ≡ Err r
failed true x y m r e k = k e
failed false x y m r e k = e

pub no_further : (gs hs : List Ground) (r : Refusal) → first_refusal gs ≡ Err r → first_refusal (gs ++ hs) ≡ Err r
unfolding first_refusal
no_further [] hs r e = cc
no_further (g ∷ gs) hs r e = failed g.stands (first_refusal gs) (first_refusal (gs ++ hs)) g.refusal r e (λ p. no_further gs hs r p)

-- after one of two grounds that fails, where the second asks more and others follow
pub no_further_within : (m r : Refusal) (a b : Bool) (ts : List Bool) (gs : List Ground) (k : Verdict) (x : Refusal) →
    k ≡ first_refusal (ground m a ∷ ground r b ∷ []) → k ≡ Err x → k ≡ first_refusal (ground m a ∷ ground r (all_of (b ∷ ts)) ∷ gs)
unfolding first_refusal all_of
no_further_within m r true true ts gs k x p q = cc
no_further_within m r true false ts gs k x p q = p
no_further_within m r false b ts gs k x p q = p

-- ---- the number of a refusal is not 0

pub number_above : (r : Refusal) → 0 < number r
number_above refusal.Edition = omega arith
number_above refusal.Size = omega arith
number_above refusal.Layout = omega arith
number_above refusal.Lengths = omega arith
number_above refusal.CellLength = omega arith
number_above refusal.Boundaries = omega arith
number_above refusal.Values = omega arith
number_above refusal.Carried = omega arith
number_above refusal.Ledger = omega arith
number_above refusal.TimeStep = omega arith
number_above refusal.Cfl = omega arith
number_above refusal.Depth = omega arith
number_above refusal.Total = omega arith
number_above refusal.NotTransported = omega arith
number_above refusal.ShortOutput = omega arith
number_above refusal.Outlets = omega arith
number_above refusal.Strickler = omega arith

-- what has the number 0 is no refusal
pub accepts : (k : Verdict) → number_of k ≡ 0 → k ≡ Ok tt
accepts (Ok u) z = refl
accepts (Err r) z = absurd (omega (arith, z, number_above r))
