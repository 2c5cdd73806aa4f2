-- `drawing::dealing::floors_of` meets its contract: each column holds what the outlets passed leave. Assumes nothing.
use mathlib.Core.Path.{◌≡◌, ap, ◌∙◌}
use mathlib.Core.Bool.{cond}
use Prim.Native.Nat.{ℕ, ◌<◌}
use native.Mathlib.Omega.{arith}
use borrow.Author.Rules.{rules}
use lib.Dec.{ltb}
use lib.ListN.{length, get_or, take}
use Rattle.numbers.specs.Index.{tabulate}
use Rattle.numbers.proofs.IndexLaws.{written_none, written_more}
use Rattle.outlet.specs.Outlets.{no_outlet, outlet_at}
use Rattle.outlet.proofs.OutletLaws.{counted, at_hand}
use Rattle.drawing.specs.Ranges.{floor_at}
use Rattle.drawing.proofs.DrawingLaws.{as_long}
use Rattle.drawing.proofs.DealingLaws.{written_in_zeros, left_after, left_none, left_more, left_enough, left_done, grant_small}
use Rattle.drawing.proofs.dealing.floors_of.Goals as goal
use Rattle.drawing.proofs.dealing.floors_of.Goals.{Start, After-floor_of-floor, After-loop-k, At-loop-k, In-loop-k}

counts : (s : Start) → length (take s.args.outlets.count s.args.outlets.list) ≡ s.args.outlets.count
counts s = counted s.args.outlets (search rules) s.requires.granted.few

-- what is known at the entry, and the outlet's cell in each column
module _ (c : At-loop-k) where
  as_wanted : length c.args.left.now ≡ length c.args.wanted.now
  as_wanted = ap length c.requires.left_value ∙ c.requires.granted.long

  long : length c.loop-k.left ≡ length c.args.left.now
  long = as_long _ _ _ c.loop-k.invariant.0

module _ (c : In-loop-k) where
  passes : c.loop-k.k < c.args.outlets.count
  passes = omega (arith, c.loop-k-test.true, counts (goal.at.In-loop-k c).Start)

  here : get_or (take c.args.outlets.count c.args.outlets.list) c.loop-k.k no_outlet ≡ outlet_at c.args.outlets c.loop-k.k
  here = at_hand c.args.outlets c.loop-k.k passes

  in_wanted : (outlet_at c.args.outlets c.loop-k.k).cell < length c.args.wanted.now
  in_wanted = c.requires.granted.within c.loop-k.k passes

  in_left : (outlet_at c.args.outlets c.loop-k.k).cell < length c.args.left.now
  in_left = rw (as_wanted (goal.at.In-loop-k c).At-loop-k) in_wanted

floor-is : (c : After-floor_of-floor) →
    let a = c.args in
    c.floor_of-floor.result ≡ floor_at a.outlets a.wanted.now a.granted.now c.loop-k.k
unfolding floor_at
floor-is c = rw (here (goal.at.After-floor_of-floor c).In-loop-k) at c.floor_of-floor.ensures

pub loop-k-init : goal.loop-k-init
loop-k-init c = (left_none c.args.outlets c.args.wanted.now c.args.granted.now c.args.left.now c.requires.left_value, written_none _ _ _)

pub floor_of-floor-requires : goal.floor_of-floor-requires
floor_of-floor-requires c =
    let a = c.args in
    let i = (goal.at.floor_of-floor-requires c).In-loop-k in
    let g = c.requires.granted in
    rw (here i) (grant_small a.outlets a.wanted.now a.granted.now g _ (in_wanted i), g.small c.loop-k.k (passes i))

pub overflow_sub-left : goal.overflow_sub-left
overflow_sub-left c =
    let a = c.args in
    let i = (goal.at.overflow_sub-left c).In-loop-k in
    rw (here i)
    (omega (
      arith,
      floor-is (goal.at.overflow_sub-left c).After-floor_of-floor,
      left_enough a.outlets a.wanted.now a.granted.now c.requires.granted _ c.loop-k.k c.loop-k.left c.loop-k.invariant.0 (as_wanted (goal.at.overflow_sub-left c).At-loop-k) (passes i),
    ))

pub loop-k-preserved : goal.loop-k-preserved
loop-k-preserved c =
    let a = c.args in
    let i = (goal.at.loop-k-preserved c).In-loop-k in
    let f = floor-is (goal.at.loop-k-preserved c).After-floor_of-floor in
    let below : c.loop-k.k < 32 = omega (arith, passes i, c.requires.granted.few) in
    rw (here i) (
      left_more a.outlets a.wanted.now a.granted.now _ c.loop-k.k c.loop-k.left _ c.loop-k.invariant.0 (in_left i) (omega (arith, f)),
      written_more 0 _ _ c.loop-k.k c.loop-k.floors _ c.loop-k.invariant.1 below f,
    )

all-passed : (c : After-loop-k) → c.loop-k.k ≡ c.args.outlets.count
all-passed c = omega (arith, c.loop-k-test.false, c.loop-k.auto.k-end, counts (goal.at.After-loop-k c).Start)

pub returns-clause-value : goal.returns-clause-value
returns-clause-value c =
    let a = c.args in
    written_in_zeros 32 (floor_at a.outlets a.wanted.now a.granted.now) c.loop-k.k c.loop-k.floors c.loop-k.invariant.1
    ∙ ap (λ (n : ℕ). tabulate 32 (λ k. cond (ltb k n) (floor_at a.outlets a.wanted.now a.granted.now k) 0)) (all-passed (goal.at.returns-clause-value c).After-loop-k)

pub returns-clause-left_after : goal.returns-clause-left_after
returns-clause-left_after c =
    let a = c.args in
    c.loop-k.invariant.0
    ∙ ap (λ (k : ℕ). tabulate (length a.left.now) (left_after a.outlets a.wanted.now a.granted.now k)) (all-passed (goal.at.returns-clause-left_after c).After-loop-k)
    ∙ left_done a.outlets a.wanted.now a.granted.now c.requires.granted _ (as_wanted (goal.at.returns-clause-left_after c).At-loop-k)
