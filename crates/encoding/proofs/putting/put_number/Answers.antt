-- `encoding::putting::put_number` meets its contract. The loop: what is written and what is left spell v. Assumes nothing.
use native.Mathlib.Omega.{arith}
use Rattle.encoding.proofs.ToBytesLaws.{putting_more, putting_done}
use Rattle.encoding.proofs.putting.put_number.Goals as goal

pub loop-byte-preserved : goal.loop-byte-preserved
loop-byte-preserved c = let l = c.loop-byte in putting_more _ _ _ l.rest l.byte-index (omega arith) l.invariant

pub returns : goal.returns
returns c = let l = c.loop-byte in putting_done _ _ _ l.rest l.byte-index (omega arith) l.invariant _
