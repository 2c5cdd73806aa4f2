-- `encoding::reading::read_each` meets its contract: `Written` says how many entries are made. Assumes nothing.
use mathlib.Core.Path.{ap, ◌∙◌}
use native.Mathlib.Omega.{arith}
use Rattle.numbers.proofs.IndexLaws.{written_more, written_all}
use Rattle.encoding.specs.FromBytes.{column_at}
use Rattle.encoding.proofs.reading.read_each.Goals as goal

pub loop-i-preserved : goal.loop-i-preserved
loop-i-preserved g c =
    λ f h.
    let l = c.loop-i in
    let n = c.read_number.ensures in written_more _ _ _ l.i l.to _ (l.invariant f h) (omega arith) (h _ _ n.1 c.entry.ensures ∙ ap f n.0)

pub returns : goal.returns
unfolding column_at
returns g c = λ f h. let l = c.loop-i in written_all _ _ _ l.i l.to (l.invariant f h) (omega arith)
