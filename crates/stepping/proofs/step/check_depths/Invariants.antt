use mathlib.Core.Path.{◌≡◌}
use mathlib.Core.Bool.{Bool, true}
use mathlib.Core.List.{List}
use Prim.Native.Nat.{ℕ}
use lib.Dec.{leb}
use lib.ListN.{get_or}
use Rattle.numbers.specs.Index.{all_below}
use Rattle.flux.specs.Limits.{depth_most}
use Rattle.stepping.proofs.step.check_depths.Given as goal

abbrev depth_fits : List ℕ → ℕ → Bool
depth_fits d i = leb (get_or d i 0) depth_most

abbrev pub invariant-loop-i : goal.invariant-loop-i
invariant-loop-i l = all_below l.i (depth_fits l.depth) ≡ true
