use mathlib.Core.Path.{◌≡◌}
use Prim.Native.Nat.{suc, ◌-◌, ◌^◌, ◌<◌}
use Rattle.numbers.proofs.IndexLaws.{Written}
use Rattle.text.proofs.TextLaws.{digit_at}
use Rattle.text.proofs.Writer.decimal.Given as goal

abbrev pub invariant-loop-byte : goal.invariant-loop-byte
invariant-loop-byte l =
    (l.byte-index < l.count → l.unit ≡ 10 ^ (l.count - suc l.byte-index))
    × Written 0 (digit_at l.n l.count) l.initial.byte-items l.byte-index l.byte-items
