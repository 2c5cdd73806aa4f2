-- `stepping::outlets::draw` meets its contract: the outlets passed have what they got. Assumes nothing.
use mathlib.Core.Path.{◌≡◌, ◌∙◌}
use Prim.Native.Nat.{◌<◌}
use native.Mathlib.Omega.{arith}
use lib.ListN.{length, get_or, take}
use borrow.Author.Rules.{rules}
use Rattle.numbers.proofs.IndexLaws.{written_more}
use Rattle.outlet.specs.Outlets.{no_outlet, outlet_at}
use Rattle.outlet.proofs.OutletLaws.{counted, at_hand, each_written}
use Rattle.stepping.specs.Ranges.{outlet_with, with_draws}
use Rattle.stepping.proofs.outlets.draw.Goals as goal
use Rattle.stepping.proofs.outlets.draw.Goals.{Start, In-loop-k}

counts : (s : Start) → length (take s.args.outlets.count s.args.outlets.list) ≡ s.args.outlets.count
counts s = counted s.args.outlets (search rules) s.requires.few

module _ (c : In-loop-k) where
  passes : c.loop-k.k < c.args.outlets.count
  passes = omega (arith, c.loop-k-test.true, counts (goal.at.In-loop-k c).Start)

  -- the outlet at hand has not been written yet
  here : get_or c.loop-k.o-items c.loop-k.k no_outlet ≡ outlet_at c.args.outlets c.loop-k.k
  here = c.loop-k.invariant.same c.loop-k.k (omega arith) ∙ at_hand c.args.outlets c.loop-k.k passes

pub outlet_with-requires : goal.outlet_with-requires
outlet_with-requires c =
    let i = (goal.at.outlet_with-requires c).In-loop-k in
    let r = c.requires in
    let k = c.loop-k.k in
    rw (here i) (r.got_most k (passes i), (omega (arith, r.drawn_most k (passes i)), omega (arith, r.water_most k (passes i))))

pub loop-k-preserved : goal.loop-k-preserved
unfolding outlet_with
loop-k-preserved c =
    let i = (goal.at.loop-k-preserved c).In-loop-k in
    written_more no_outlet (outlet_with c.args.outlets c.args.got) _ c.loop-k.k _ _ c.loop-k.invariant c.loop-k-test.true (rw (here i) at c.outlet_with.ensures)

pub returns : goal.returns
unfolding with_draws
returns c = each_written _ c.args.outlets _ _ (search rules) c.requires.few c.loop-k-test.false c.loop-k.invariant
