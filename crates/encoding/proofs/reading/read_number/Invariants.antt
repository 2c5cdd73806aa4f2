use mathlib.Core.Path.{◌≡◌}
use Prim.Native.Nat.{◌+◌, ◌-◌, ◌^◌, ◌<◌}
use Rattle.encoding.specs.FromBytes.{number_at}
use Rattle.encoding.proofs.reading.read_number.Given as goal

abbrev pub invariant-loop-i : goal.invariant-loop-i
invariant-loop-i l = (l.v ≡ number_at (l.w - l.i) l.s (l.at + l.i)) × (l.v < 256 ^ (l.w - l.i))
