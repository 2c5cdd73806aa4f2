use mathlib.Core.Path.{◌≡◌}
use mathlib.Core.Bool.{Bool, true}
use mathlib.Core.List.{List}
use Prim.Native.Nat.{ℕ}
use lib.Dec.{eqb}
use lib.IntN.{ℤ, pos, nat_abs}
use lib.ListN.{get_or}
use Rattle.numbers.specs.Index.{all_below}
use Rattle.writing.proofs.write.check_none_carried.Given as goal

abbrev none_at : List ℤ → ℕ → Bool
none_at c i = eqb (nat_abs (get_or c i (pos 0))) 0

abbrev pub invariant-loop-c : goal.invariant-loop-c
invariant-loop-c l = all_below l.c-index (none_at l.carried) ≡ true
