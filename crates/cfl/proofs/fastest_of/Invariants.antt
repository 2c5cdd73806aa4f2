use Prim.Native.Nat.{◌+◌, ◌≤◌}
use Rattle.cfl.specs.Cfl.{speed_at}
use Rattle.cfl.proofs.CflLaws.{FastestFrom}
use Rattle.cfl.proofs.fastest_of.Given as goal

-- the fastest of the places i+1..n+1, and its speed
abbrev pub invariant-loop-i : goal.invariant-loop-i
invariant-loop-i l = (l.speed ≤ 16_000) × FastestFrom (speed_at l.depth l.discharge l.left l.right) (l.i + 1) (l.n + 1) l.place l.speed
