-- `encoding::putting::fill` meets its contract. Assumes nothing.
use Rattle.std.proofs.Common.{of_calls}
use Rattle.std.proofs.lemmas.List.{map-id}
use Rattle.encoding.proofs.putting.fill.Goals as goal

pub returns : goal.returns
returns c = rw map-id at (c.fill_each.ensures (λ v. v) (λ z r p q. search of_calls))
