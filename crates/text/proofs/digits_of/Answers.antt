-- `text::digits_of` meets its contract: `Counting` says how many digits are counted. Assumes nothing.
use mathlib.Core.Path.{◌≡◌}
use native.Mathlib.Omega.{arith}
use Rattle.text.proofs.TextLaws.{Counting, counting_more, counting_few, counting_done}
use Rattle.text.proofs.digits_of.Goals as goal

pub returns-then-n-unit : goal.returns-then-n-unit
returns-then-n-unit c =
    let l = c.loop-count in (
      counting_done _ l.count l.unit l.invariant (omega arith),
      (l.invariant.unit_is, counting_few _ l.count l.unit l.invariant (omega arith)),
    )

pub loop-count-preserved : goal.loop-count-preserved
loop-count-preserved c = let l = c.loop-count in counting_more _ l.count l.unit l.invariant (omega arith)

pub returns : goal.returns
returns c =
    let l = c.loop-count in
    let e : l.count ≡ 20 = omega arith in
    let w : Counting c.args.n 20 l.unit = rw e at l.invariant in
    (counting_done _ 20 l.unit w (omega (arith, w.unit_is)), (w.unit_is, omega arith))
