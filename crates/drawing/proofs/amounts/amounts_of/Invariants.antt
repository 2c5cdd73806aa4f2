use Rattle.std.proofs.Common.{◌≡◌, ℕ, ◌<◌, length, get_or}
use Rattle.outlet.specs.Outlets.{outlet_at}
use Rattle.drawing.proofs.amounts.amounts_of.Given as goal

abbrev pub invariant-loop-k : goal.invariant-loop-k
invariant-loop-k g l = (length l.amounts ≡ 32) × ((j : ℕ) → j < l.k → goal.F-post g l.amount (outlet_at l.outlets j) (get_or l.amounts j 0))
