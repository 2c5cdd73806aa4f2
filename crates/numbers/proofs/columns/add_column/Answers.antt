-- `numbers::columns::add_column` meets its contract: an entry that is not written yet is read as it came. Assumes nothing.
use native.Mathlib.Omega.{arith}
use lib.IntN.{pos, ◌+ℤ◌}
use lib.ListN.{get_or}
use Rattle.numbers.proofs.IndexLaws.{written_all}
use Rattle.numbers.proofs.columns.add_column.Goals as goal

pub returns : goal.returns
returns c =
    let l = c.loop-i in
    let a = c.args in
    written_all (pos 0) (λ k. get_or a.to.now k (pos 0) +ℤ get_or a.by.now k (pos 0)) a.to.now l.i l.to l.invariant (omega arith)
