use lib.IntN.{pos, ◌+ℤ◌}
use lib.ListN.{get_or}
use Rattle.numbers.proofs.IndexLaws.{Written}
use Rattle.numbers.proofs.columns.add_column.Given as goal

abbrev pub invariant-loop-i : goal.invariant-loop-i
invariant-loop-i l = Written (pos 0) (λ k. get_or l.initial.to k (pos 0) +ℤ get_or l.by k (pos 0)) l.initial.to l.i l.to
