use mathlib.Core.Path.{◌≡◌}
use mathlib.Core.List.{map}
use Prim.Native.Nat.{ℕ}
use Rattle.encoding.proofs.ToBytesLaws.{Filling}
use Rattle.encoding.proofs.putting.fill_each.Given as goal

abbrev pub invariant-loop-i : goal.invariant-loop-i
invariant-loop-i g l =
    (f : g.row.T.Denot → ℕ) → ((z : g.row.T.Denot) (r : ℕ) → goal.F-pre g l.bits z → goal.F-post g l.bits z r → r ≡ f z)
    → Filling l.w (map f l.column) l.initial.out l.out l.i
