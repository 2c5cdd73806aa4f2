use Rattle.text.proofs.TextLaws.{Counting}
use Rattle.text.proofs.digits_of.Given as goal

abbrev pub invariant-loop-count : goal.invariant-loop-count
invariant-loop-count l = Counting l.n l.count l.unit
