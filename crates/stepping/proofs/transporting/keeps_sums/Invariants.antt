use mathlib.Core.Path.{◌≡◌}
use mathlib.Core.Bool.{Bool, true}
use mathlib.Core.List.{List}
use Prim.Native.Nat.{ℕ, ◌+◌}
use lib.Dec.{leb}
use lib.IntN.{ℤ, pos, ◌+ℤ◌, neg_ℤ}
use lib.ListN.{get_or}
use Rattle.numbers.specs.Index.{all_below}
use Rattle.numbers.specs.Signed.{positive}
use Rattle.stepping.proofs.transporting.keeps_sums.Given as goal

-- the carried water with N added, at an interface
abbrev pub sum_at : List ℤ → List ℤ → ℕ → ℤ
sum_at c net i = get_or c i (pos 0) +ℤ get_or net i (pos 0)

abbrev pub covered_at : List ℤ → List ℤ → List ℕ → ℕ → Bool
covered_at c net h i = leb (positive (sum_at c net i) + positive (neg_ℤ (sum_at c net (i + 1)))) (get_or h i 0)

abbrev pub invariant-loop-i : goal.invariant-loop-i
invariant-loop-i l = all_below l.i (covered_at l.carried l.net l.new_depth) ≡ true
