-- Document 01's 'greatest' whole numbers and document 02's 'least', by one search: the first, counted upwards, that cannot be raised.
use Rattle.std.specs.Prelude.{Bool, true, false, ℕ, zero, suc, ltb}

-- from a upwards, the first number that cannot be raised; at most `turns` numbers are tried
-- (a choice inside the clause, so that the search computes no further than it goes)
unfoldable pub climb : (ℕ → Bool) → (turns a : ℕ) → ℕ
climb canRaise zero a = a
climb canRaise (suc turns) a = elim (canRaise a) [ true ↦ climb canRaise turns (suc a) | false ↦ a ]

-- the least number whose f is at least x, if one up to `turns` has such an f: each is raised while its f is below x
unfoldable pub least_reaching : (f : ℕ → ℕ) (x turns : ℕ) → ℕ
least_reaching f x turns = climb (λ a. ltb (f a) x) turns 0
