use mathlib.Core.Path.{◌≡◌}
use Prim.Native.Nat.{ℕ, ◌+◌, ◌*◌, ◌^◌, ◌<◌}
use Rattle.numbers.proofs.IndexLaws.{Written}
use Rattle.encoding.specs.FromBytes.{number_at}
use Rattle.encoding.proofs.reading.read_each.Given as goal

abbrev pub invariant-loop-i : goal.invariant-loop-i
invariant-loop-i g l =
    (f : ℕ → g.row.T.Denot) → ((v : ℕ) (r : g.row.T.Denot) → v < 256 ^ l.w → goal.F-post g l.entry v r → r ≡ f v)
    → Written (f 0) (λ k. f (number_at l.w l.s (l.at + l.w * k))) l.initial.to l.i l.to
