-- `drawing::amounts::amounts_of` meets its contract: one amount more is the closure's. Assumes nothing.
use Rattle.std.proofs.Common.{◌≢◌, ◌<◌, ◌∙◌, length, arith, get_or-set_other, get_or-set_same, length-set, below_more}
use Rattle.drawing.proofs.amounts.amounts_of.Goals as goal

pub loop-k-preserved : goal.loop-k-preserved
loop-k-preserved g c = (
  length-set c.loop-k.amounts c.loop-k.k c.amount.result ∙ c.loop-k.invariant.0,
  below_more _ _
      (λ j h. let ne : j ≢ c.loop-k.k = omega arith in rw get_or-set_other (c.loop-k.invariant.1 j h))
      (let lt : c.loop-k.k < length c.loop-k.amounts = omega (arith, c.loop-k-test.true) in rw get_or-set_same c.amount.ensures),
)
