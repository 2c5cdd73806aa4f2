-- `encoding::reading::read_signed_column` meets its contract. Assumes nothing.
use Rattle.std.proofs.Common.{of_calls}
use Rattle.encoding.specs.FromBytes.{twos}
use Rattle.encoding.proofs.reading.read_signed_column.Goals as goal

pub returns : goal.returns
unfolding twos
returns c = c.read_each.ensures (twos c.args.w) (λ v r p q. rw (← c.requires.half_bound.1) (search of_calls))
