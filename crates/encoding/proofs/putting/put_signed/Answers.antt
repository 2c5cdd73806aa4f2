-- `encoding::putting::put_signed` meets its contract. Assumes nothing.
use Rattle.std.proofs.Common.{of_calls}
use Rattle.encoding.specs.ToBytes.{bits}
use Rattle.encoding.proofs.ToBytesLaws.{pasted_part}
use Rattle.encoding.proofs.putting.put_signed.Goals as goal

pub returns : goal.returns
unfolding bits
returns c = pasted_part _ c.args.out.now _ c.args.at (c.fill_each.ensures (bits c.args.w) (λ z r p q. rw (← c.requires.half_bound.1) (search of_calls)))
