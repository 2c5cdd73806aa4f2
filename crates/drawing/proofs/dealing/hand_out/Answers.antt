-- `drawing::dealing::hand_out` meets its contract: each column holds what the outlets passed leave. Assumes nothing.
use mathlib.Core.Path.{◌≡◌, ap, ◌∙◌}
use mathlib.Core.Bool.{cond}
use Prim.Native.Nat.{ℕ, ◌+◌, ◌<◌}
use native.Mathlib.Omega.{arith}
use borrow.Author.Rules.{rules}
use lib.Dec.{ltb}
use lib.ListN.{length, get_or, take}
use Rattle.numbers.specs.Index.{tabulate}
use Rattle.numbers.specs.Deal.{has_unit}
use Rattle.numbers.proofs.IndexLaws.{written_none, written_more, written_below}
use Rattle.outlet.specs.Outlets.{no_outlet, outlet_at}
use Rattle.outlet.proofs.OutletLaws.{counted, at_hand}
use Rattle.drawing.specs.Ranges.{unit_at}
use Rattle.drawing.proofs.DrawingLaws.{as_long}
use Rattle.drawing.proofs.DealingLaws.{unit_few, units_none, units_more, unit_is}
use Rattle.drawing.proofs.dealing.hand_out.Goals as goal
use Rattle.drawing.proofs.dealing.hand_out.Goals.{Start, After-unit_of-unit, At-loop-k, In-loop-k}

counts : (s : Start) → length (take s.args.outlets.count s.args.outlets.list) ≡ s.args.outlets.count
counts s = counted s.args.outlets (search rules) s.requires.count_le_outlets_most

-- the column is as long as it came, and has the outlet's cell
long : (c : At-loop-k) → length c.loop-k.left ≡ length c.args.left.now
long c = as_long _ _ _ c.loop-k.invariant.0

full : (c : At-loop-k) → length c.args.floors ≡ 32
full c = search rules

module _ (c : In-loop-k) where
  passes : c.loop-k.k < c.args.outlets.count
  passes = omega (arith, c.loop-k-test.true, counts (goal.at.In-loop-k c).Start)

  here : get_or (take c.args.outlets.count c.args.outlets.list) c.loop-k.k no_outlet ≡ outlet_at c.args.outlets c.loop-k.k
  here = at_hand c.args.outlets c.loop-k.k passes

  in_left : (outlet_at c.args.outlets c.loop-k.k).cell < length c.args.left.now
  in_left = (c.requires.by_index c.loop-k.k passes).0

  in_now : (outlet_at c.args.outlets c.loop-k.k).cell < length c.loop-k.left
  in_now = rw (long (goal.at.In-loop-k c).At-loop-k) in_left

  below : c.loop-k.k < 32
  below = omega (arith, passes, c.requires.count_le_outlets_most)

-- the outlet's unit is one of those left, and one at most
unit-is : (c : After-unit_of-unit) →
    let o = outlet_at c.args.outlets c.loop-k.k in
    c.unit_of-unit.result ≡ cond (has_unit (get_or c.loop-k.left o.cell 0) o.want) 1 0
unit-is c = rw (here (goal.at.After-unit_of-unit c).In-loop-k) at c.unit_of-unit.ensures

pub loop-k-init : goal.loop-k-init
loop-k-init c = let a = c.args in (units_none a.outlets a.left.now, written_none _ _ _)

pub overflow_sub-left : goal.overflow_sub-left
overflow_sub-left c =
    let o = outlet_at c.args.outlets c.loop-k.k in
    rw (here (goal.at.overflow_sub-left c).In-loop-k)
    (omega (arith, unit-is (goal.at.overflow_sub-left c).After-unit_of-unit, (unit_few (get_or c.loop-k.left o.cell 0) o.want).0))

pub loop-k-preserved : goal.loop-k-preserved
loop-k-preserved c =
    let a = c.args in
    let i = (goal.at.loop-k-preserved c).In-loop-k in
    let u = unit-is (goal.at.loop-k-preserved c).After-unit_of-unit in
    let left = c.loop-k.invariant.0 in
    let w = c.loop-k.invariant.1 in
    rw (here i) (
      units_more a.outlets a.left.now c.loop-k.k c.loop-k.left _ left (in_left i) (omega (arith, u)),
      written_more 0 _ _ c.loop-k.k c.loop-k.floors _ w (omega (arith, below i, full (goal.at.loop-k-preserved c).At-loop-k))
          (omega (arith, u, w.same c.loop-k.k (omega arith), unit_is a.outlets a.left.now c.loop-k.k c.loop-k.left left (in_left i) (passes i))),
    )

pub returns : goal.returns
returns c =
    let a = c.args in
    let all : c.loop-k.k ≡ a.outlets.count = omega (arith, c.loop-k-test.false, c.loop-k.auto.k-end, counts (goal.at.returns c).Start) in
    written_below 0 (λ j. get_or a.floors j 0 + unit_at a.outlets a.left.now j) a.floors c.loop-k.k c.loop-k.floors c.loop-k.invariant.1
    ∙ ap (λ (n : ℕ). tabulate n (λ k. cond (ltb k c.loop-k.k) (get_or a.floors k 0 + unit_at a.outlets a.left.now k) (get_or a.floors k 0))) (full (goal.at.returns c).At-loop-k)
    ∙ ap (λ (n : ℕ). tabulate 32 (λ k. cond (ltb k n) (get_or a.floors k 0 + unit_at a.outlets a.left.now k) (get_or a.floors k 0))) all
