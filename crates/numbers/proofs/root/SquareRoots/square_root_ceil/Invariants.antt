use Prim.Native.Nat.{◌*◌, ◌-◌, ◌<◌}
use Rattle.numbers.proofs.root.SquareRoots.square_root_ceil.Given as goal

abbrev pub invariant-loop-next : goal.invariant-loop-next
invariant-loop-next l = l.a * l.a < l.x

abbrev pub decreases-loop-next : goal.decreases-loop-next
decreases-loop-next l = l.x - l.a
