use Rattle.encoding.proofs.ToBytesLaws.{Putting}
use Rattle.encoding.proofs.putting.put_number.Given as goal

abbrev pub invariant-loop-byte : goal.invariant-loop-byte
invariant-loop-byte l = Putting l.w l.v l.byte-items l.rest l.byte-index
