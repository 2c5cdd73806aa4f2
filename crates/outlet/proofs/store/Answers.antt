-- `outlet::store` meets its contract. Assumes nothing.
use Rattle.std.proofs.Common.{arith}
use Rattle.outlet.proofs.LentLaws.{copied_over}
use Rattle.outlet.proofs.store.Goals as goal

pub returns : goal.returns
returns c = copied_over c.args.room c.args.list.now c.copy_from_slice.new.self c.min-n.result (omega arith) c.copy_from_slice.ensures.after
