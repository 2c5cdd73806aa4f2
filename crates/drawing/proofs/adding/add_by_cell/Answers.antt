-- `drawing::adding::add_by_cell` meets its contract: the column has the amounts of the outlets passed. Assumes nothing.
use mathlib.Core.Path.{◌≡◌, ap, ◌∙◌}
use Prim.Native.Nat.{ℕ, ◌<◌}
use native.Mathlib.Omega.{arith}
use borrow.Author.Rules.{rules}
use lib.ListN.{length, get_or, take}
use Rattle.numbers.specs.Index.{tabulate}
use Rattle.outlet.specs.Outlets.{no_outlet, outlet_at}
use Rattle.outlet.proofs.OutletLaws.{counted, at_hand}
use Rattle.drawing.specs.Ranges.{by_cell}
use Rattle.drawing.proofs.DrawingLaws.{there, added, added_none, added_more, added_small}
use Rattle.drawing.proofs.adding.add_by_cell.Goals as goal
use Rattle.drawing.proofs.adding.add_by_cell.Goals.{Start, In-loop-k}

counts : (s : Start) → length (take s.args.outlets.count s.args.outlets.list) ≡ s.args.outlets.count
counts s = counted s.args.outlets (search rules) s.requires.count_le_outlets_most

module _ (c : In-loop-k) where
  below : c.loop-k.k < c.args.outlets.count
  below = omega (arith, c.loop-k-test.true, counts (goal.at.In-loop-k c).Start)

  here : get_or (take c.args.outlets.count c.args.outlets.list) c.loop-k.k no_outlet ≡ outlet_at c.args.outlets c.loop-k.k
  here = at_hand c.args.outlets c.loop-k.k below

  -- the column has the outlet's cell
  in_range : (outlet_at c.args.outlets c.loop-k.k).cell < length c.args.column.now
  in_range = (c.requires.by_index c.loop-k.k below).0

pub loop-k-init : goal.loop-k-init
loop-k-init c = added_none _ _ _

pub overflow_add-column : goal.overflow_add-column
overflow_add-column c =
    let a = c.args in
    let i = (goal.at.overflow_add-column c).In-loop-k in
    let l = below i in
    rw (here i)
    (omega (
      arith,
      (c.requires.by_index c.loop-k.k l).1,
      added_small a.outlets.list a.amounts a.column.now a.outlets.count c.loop-k.k c.loop-k.column c.loop-k.invariant (omega (arith, l)) c.requires.count_le_outlets_most
          (λ j q. (c.requires.by_index j q).1) _ (in_range i) (c.requires.by_index_2 _ (in_range i)),
    ))

pub loop-k-preserved : goal.loop-k-preserved
loop-k-preserved c =
    let a = c.args in
    let i = (goal.at.loop-k-preserved c).In-loop-k in
    rw (here i) (added_more a.outlets.list a.amounts a.column.now c.loop-k.k c.loop-k.column _ c.loop-k.invariant (in_range i) (omega arith))

pub returns : goal.returns
unfolding by_cell added there
returns c =
    let all : c.loop-k.k ≡ c.args.outlets.count = omega (arith, c.loop-k-test.false, c.loop-k.auto.k-end, counts (goal.at.returns c).Start) in
    c.loop-k.invariant ∙ ap (λ (k : ℕ). tabulate (length c.args.column.now) (added c.args.outlets.list c.args.amounts c.args.column.now k)) all
