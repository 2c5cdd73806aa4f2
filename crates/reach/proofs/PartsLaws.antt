-- The parts of a cell, one by one. Assumes nothing.
use mathlib.Core.Path.{◌≡◌}
use mathlib.Core.List.{List, [], ◌∷◌}
use Prim.Native.Nat.{ℕ, ◌+◌}
use native.Mathlib.Omega.{arith}
use lib.IntN.{ℤ, neg_ℤ}
use Rattle.numbers.specs.Index.{sum}
use Rattle.numbers.specs.Signed.{positive}
use Rattle.reach.specs.Parts.{parts, outflow}

pub outflow_is : (l r : ℤ) (drawn : List ℕ) → outflow l r drawn ≡ positive r + positive (neg_ℤ l) + sum drawn
unfolding outflow parts sum
outflow_is l r drawn = omega arith

pub sum_single : (d : ℕ) → d ≡ sum (d ∷ [])
unfolding sum
sum_single d = omega arith
