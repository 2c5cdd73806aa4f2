use mathlib.Core.Path.{◌≡◌}
use Prim.Native.Nat.{◌-◌}
use lib.ListN.{length}
use Rattle.reach.specs.Reach.{reach_of}
use Rattle.play.specs.Play.{steps}
use Rattle.play.proofs.run_steps.Given as goal

abbrev pub invariant-loop-i : goal.invariant-loop-i
invariant-loop-i l =
    (steps l.count l.t (reach_of l.bed l.initial.depth l.initial.discharge l.initial.mass l.initial.base l.initial.carried l.x l.initial.last) ≡ steps (l.count - l.i) l.t (reach_of l.bed l.depth l.discharge l.mass l.base l.carried l.x l.last))
    × (length l.depth ≡ length l.initial.depth)
    × (length l.discharge ≡ length l.initial.discharge)
    × (length l.mass ≡ length l.initial.mass)
    × (length l.base ≡ length l.initial.base)
    × (length l.carried ≡ length l.initial.carried)
