-- Laws of the search: where it stops, nothing can be raised; everything before can. Assumes nothing.
use mathlib.Core.Path.{◌≡◌, subst}
use mathlib.Core.Bool.{Bool, true, false, not}
use mathlib.Core.Logic.{⊎_elim}
use Prim.Native.Nat.{ℕ, zero, suc, ◌+◌, ◌≤◌, ◌<◌}
use native.Mathlib.Nat.{eq-or-lt_of_le, le_of_suc-le-suc, lt_of_not-le, zero-add}
use native.Mathlib.Omega.{arith}
use lib.Dec.{T, T_not, not_T, ltb, ltb→lt, nltb→le}
use Rattle.numbers.specs.Search.{climb, least_reaching}

-- by the two outcomes of a test
pub by_test : (c : Bool) (P : Bool → Type 0) → (T c → P true) → (T (not c) → P false) → P c
by_test true P f g = f tt
by_test false P f g = g tt

-- it cannot be raised, where some number within reach cannot
pub climb_stops : (canRaise : ℕ → Bool) (turns a : ℕ) → T (not (canRaise (a + turns))) → T (not (canRaise (climb canRaise turns a)))
unfolding climb
climb_stops canRaise zero a h = rw add_0 at h
  where
    add_0 : a + 0 ≡ a
    add_0 = omega arith
climb_stops canRaise (suc k) a h =
    by_test (canRaise a)
    (λ b. let r : ℕ = elim b [ true ↦ climb canRaise k (suc a) | false ↦ a ] in T (not (canRaise r)))
    (λ t. climb_stops canRaise k (suc a) (rw shift at h))
    (λ t. t)
  where
    shift : a + suc k ≡ suc a + k
    shift = omega arith

-- and every number that it passed can
pub climb_past : (canRaise : ℕ → Bool) (turns a b : ℕ) → a ≤ b → b < climb canRaise turns a → T (canRaise b)
unfolding climb
climb_past canRaise zero a b l h = absurd (omega arith)
climb_past canRaise (suc k) a b l h =
    by_test (canRaise a)
    (λ c. (b < (let r : ℕ = elim c [ true ↦ climb canRaise k (suc a) | false ↦ a ] in r)) → T (canRaise b))
    (λ t g. ⊎_elim (λ e. subst (λ (n : ℕ). T (canRaise n)) e t) (λ q. climb_past canRaise k (suc a) b q g) (eq-or-lt_of_le l))
    (λ t g. absurd (omega arith))
    h

-- what holds at the start, and of each number that it is raised to, holds where it stops
pub climb_holds : (P : ℕ → Bool) (turns a : ℕ) → T (P a) → T (P (climb (λ b. P (suc b)) turns a))
unfolding climb
climb_holds P zero a h = h
climb_holds P (suc k) a h =
    by_test (P (suc a))
    (λ b. let r : ℕ = elim b [ true ↦ climb (λ n. P (suc n)) k (suc a) | false ↦ a ] in T (P r))
    (λ t. climb_holds P k (suc a) t)
    (λ t. h)

-- it comes no further than its turns
pub climb_most : (canRaise : ℕ → Bool) (turns a : ℕ) → climb canRaise turns a ≤ a + turns
unfolding climb
climb_most canRaise zero a = omega arith
climb_most canRaise (suc k) a =
    by_test (canRaise a)
    (λ b. (let r : ℕ = elim b [ true ↦ climb canRaise k (suc a) | false ↦ a ] in r) ≤ a + suc k)
    (λ t. omega (arith, climb_most canRaise k (suc a)))
    (λ t. omega arith)

-- and as far as everything before can be raised
pub climb_reaches : (canRaise : ℕ → Bool) (turns a b : ℕ) → b ≤ a + turns → ((n : ℕ) → n < b → T (canRaise n)) → b ≤ climb canRaise turns a
unfolding climb
climb_reaches canRaise zero a b l f = omega arith
climb_reaches canRaise (suc k) a b l f =
    by_test (canRaise a)
    (λ c. b ≤ (let r : ℕ = elim c [ true ↦ climb canRaise k (suc a) | false ↦ a ] in r))
    (λ t. climb_reaches canRaise k (suc a) b (omega arith) f)
    (λ t. le_of_suc-le-suc (lt_of_not-le (λ l. T_not (canRaise a) t (f a l))))

-- by the two outcomes of a test of order
pub by_less : (a b : ℕ) (P : Bool → Type 0) → (a < b → P true) → (b ≤ a → P false) → P (ltb a b)
by_less a b P f g = by_test (ltb a b) P (λ t. f (ltb→lt a b t)) (λ t. g (nltb→le a b t))

-- ---- the least that reaches

-- what it finds reaches, where some number within its turns does
pub reaching_meets : (f : ℕ → ℕ) (x turns a : ℕ) → a ≡ least_reaching f x turns → x ≤ f turns → x ≤ f a
unfolding least_reaching
reaching_meets f x turns a e h = rw e (nltb→le _ _ (climb_stops (λ a. ltb (f a) x) turns 0 far))
  where
    far : T (not (ltb (f (0 + turns)) x))
    far = rw zero-add (not_T (ltb (f turns) x) (λ t. omega (arith, ltb→lt (f turns) x t, h)))

-- and whatever reaches is not below it
pub reaching_least : (f : ℕ → ℕ) (x turns a b : ℕ) → a ≡ least_reaching f x turns → x ≤ f b → a ≤ b
unfolding least_reaching
reaching_least f x turns a b e h =
    rw e (le_of_suc-le-suc (lt_of_not-le (λ l. omega (arith, ltb→lt (f b) x (climb_past (λ a. ltb (f a) x) turns 0 b (omega arith) l), h))))
