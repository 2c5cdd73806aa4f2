-- `outlet::clearing::clear` meets its contract. The loop: the outlets passed are cleared, the rest stand as they came. Assumes nothing.
use Rattle.std.proofs.Common.{◌≡◌, ◌∙◌, ◌<◌, ap, length, take, arith, rules}
use Rattle.numbers.proofs.IndexLaws.{written_more}
use Rattle.outlet.specs.Outlets.{no_outlet, cleared, cleared_outlet}
use Rattle.outlet.proofs.OutletLaws.{counted, at_hand, each_written}
use Rattle.outlet.proofs.clearing.clear.Goals as goal
use Rattle.outlet.proofs.clearing.clear.Goals.{Start}

-- the list is an array of 32
full : (s : Start) → length s.args.outlets.list ≡ 32
full s = search rules

pub loop-o-preserved : goal.loop-o-preserved
loop-o-preserved c =
    let os = c.args.outlets in
    let i = c.loop-o.o-index in
    let w = c.loop-o.invariant in
    let l : i < length (take os.count os.list) = omega (arith, c.loop-o-test.true, w.long) in
    let passes : i < os.count = omega (arith, l, counted os (full (goal.at.loop-o-preserved c).Start) c.requires) in
    written_more no_outlet _ _ i c.loop-o.o-items _ w l (ap cleared_outlet (w.same i (omega arith) ∙ at_hand os i passes))

pub returns : goal.returns
unfolding cleared
returns c = each_written _ c.args.outlets _ _ (full (goal.at.returns c).Start) c.requires c.loop-o-test.false c.loop-o.invariant
