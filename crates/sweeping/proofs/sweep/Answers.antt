-- `sweeping::sweep` meets its contract. The loop carries the cell at hand with what crosses at its left; what it has passed is written as
-- the definitions say. Assumes nothing.
use mathlib.Core.Path.{◌≡◌, sym, ap, ap₂, ◌∙◌}
use mathlib.Core.Bool.{Bool, true, ◌&&◌, and-true, false≢true}
use Prim.Native.Nat.{ℕ, ◌+◌, ◌<◌, min}
use native.Mathlib.Numerals.{add-one}
use native.Mathlib.Omega.{arith}
use lib.Dec.{eqb}
use lib.IntN.{ℤ, pos, nat_abs}
use lib.ListN.{length, get_or, length-set}
use mir.Facts.{to_z-of_z}
use mir.Syntax.{w64}
use mir.Val.{to_z, of_z}
use borrow.Author.Rules.{sfits_of}
use borrow.Author.Tests.{eqb-true}
use Rattle.numbers.specs.Index.{all_below}
use Rattle.numbers.specs.Signed.{positive}
use Rattle.numbers.proofs.IndexLaws.{and_left, and_right, written_none, written_first, written_more}
use Rattle.flux.specs.Interface.{Side}
use Rattle.reach.specs.Reach.{Reach, cells}
use Rattle.reach.specs.declared.boundary.BoundaryPlace.TheVariants.{Left}
use Rattle.reach.specs.Grounds.{pass_or}
use Rattle.water.specs.Sides.{cell_side, boundary_side, left_side, right_side}
use Rattle.water.specs.Water.{net_at}
use Rattle.water.specs.Ranges.{side_of, ExchangeOf, flow_of, side_meets, sides_meet, granted, granted_depth, granted_discharge}
use Rattle.water.proofs.WaterLaws.{boundary_bed, right_side_cell, exchange_at, left_side_next, right_side_next, dry_same, dry_meets, dry_net, dry_granted, dry_depth, dry_discharge, net_by_crossing, grant_by_crossings, depth_by_crossings, discharge_by_crossings, meets_more}
use Rattle.reach.specs.declared.refusal.Refusal.TheVariants as refusal
use Rattle.sweeping.proofs.sweep.Goals as goal
use Rattle.sweeping.proofs.sweep.Goals.{After-boundary_state-beyond, After-cell_state-cell, After-exchange_between-right, After-net_of, After-right_side-next, After-stays_dry, In-loop-i, Start}

abbrev flow : Start → Reach
flow s = flow_of s.args.bed.now s.args.depth.now s.args.discharge.now s.args.x s.args.boundaries

-- the first cell and the left boundary beside it
first : (c : After-cell_state-cell) → side_of c.cell_state-cell.result ≡ cell_side (flow (goal.at.After-cell_state-cell c).Start) 0
unfolding cell_side
first c = rw (to_z-of_z (sfits_of c.cell_state-arg-1.given), to_z-of_z (sfits_of c.cell_state-arg-2-1.given)) at c.cell_state-cell.ensures

beyond : (c : After-boundary_state-beyond) → side_of c.boundary_state-beyond.result ≡ left_side (flow (goal.at.After-boundary_state-beyond c).Start) 0
unfolding left_side
beyond c = c.boundary_state-beyond.ensures ∙ ap (boundary_side _ _) (first (goal.at.After-boundary_state-beyond c).After-cell_state-cell)

-- the cell at hand and what stands at its right
index : (c : In-loop-i) → (c.loop-i.i < cells (flow (goal.at.In-loop-i c).Start)) × (c.loop-i.i < 1_000_000)
index c = let f = c.requires.mesh.1.few in let l = c.loop-i-test.true in (l, omega (arith, l, f))

-- N of the first interface as it is stored
abbrev stored : After-net_of → ℤ
stored c = to_z w64 (of_z w64 c.net_of.result)

-- the interface written before the loop changed no length
net-length : (c : In-loop-i) → length c.loop-i.net ≡ length c.args.net.now
net-length c = c.loop-i.invariant.1.long ∙ length-set c.args.net.now 0 (stored (goal.at.In-loop-i c).After-net_of)

here : (c : In-loop-i) → side_of c.loop-i.cell ≡ cell_side (flow (goal.at.In-loop-i c).Start) c.loop-i.i
here c = c.loop-i.invariant.4 ∙ right_side_cell (flow (goal.at.In-loop-i c).Start) c.loop-i.i (index c).0

next : (c : After-right_side-next) →
    let s = flow (goal.at.After-right_side-next c).Start in
    side_of c.right_side-next.result ≡ right_side s (c.loop-i.i + 1)
unfolding cell_side
next c =
    c.right_side-next.ensures ∙ right_side_next (flow (goal.at.After-right_side-next c).Start) c.loop-i.i (side_of c.loop-i.cell) (index (goal.at.After-right_side-next c).In-loop-i).0 (here (goal.at.After-right_side-next c).In-loop-i)

crossing : (c : After-exchange_between-right) →
    let s = flow (goal.at.After-exchange_between-right c).Start in
    let i = c.loop-i.i in
    let r = c.exchange_between-right.result in
    ExchangeOf c.args.t c.args.x (left_side s (i + 1)) (right_side s (i + 1)) r.rightward r.leftward r.momentum r.lost_left r.lost_right
crossing c =
    exchange_at (here (goal.at.After-exchange_between-right c).In-loop-i ∙ sym (left_side_next (flow (goal.at.After-exchange_between-right c).Start) c.loop-i.i)) (next (goal.at.After-exchange_between-right c).After-right_side-next) c.exchange_between-right.ensures

-- it, the side at its left and the side at its right are dry
stays : (c : After-stays_dry) → c.stays_dry.result ≡ true →
    let s = flow (goal.at.After-stays_dry c).Start in
    let i = c.loop-i.i in
    (((left_side s i).depth ≡ 0) × ((right_side s i).depth ≡ 0)) × ((right_side s (i + 1)).depth ≡ 0)
stays c e =
    let w = c.loop-i in
    let h = c.right_side-next.result.depth in
    let b = sym c.stays_dry.ensures ∙ e in
    (w.invariant.8 (and_left w.dry (eqb h 0) b), sym (ap (λ (d : Side). d.depth) (next (goal.at.After-stays_dry c).After-right_side-next)) ∙ eqb-true h 0 (and_right w.dry (eqb h 0) b))

pub loop-i-init : goal.loop-i-init
unfolding all_below
loop-i-init c =
    let p = c.requires.mesh.1 in
    let a = first (goal.at.loop-i-init c).After-cell_state-cell in
    let b = beyond (goal.at.loop-i-init c).After-boundary_state-beyond in
    let r = a ∙ sym (right_side_cell (flow (goal.at.loop-i-init c).Start) 0 p.some) in
    let k = exchange_at b r c.exchange_level-left.ensures in
    let meets = side_meets c.args.t c.args.x in (
      omega arith,
      written_first (pos 0) (net_at (flow (goal.at.loop-i-init c).Start) c.args.t) c.args.net.now (stored (goal.at.loop-i-init c).After-net_of) (omega (arith, c.requires.bed_in_bounds.0)) (to_z-of_z {w = w64} (sfits_of c.net_of.type_inv) ∙ c.net_of.ensures ∙ sym (net_by_crossing (flow (goal.at.loop-i-init c).Start) c.args.t 0 k)),
      written_none _ _ _,
      written_none _ _ _,
      r,
      k,
      c.still_meets-met.ensures ∙ ap₂ ◌&&◌ (c.still_meets.ensures ∙ ap meets b) (ap meets r),
      written_none _ _ _,
      λ e. absurd (false≢true e),
    )

-- nothing is wanted, moved or left of it
pub loop-i-preserved-then-stays_dry : goal.loop-i-preserved-then-stays_dry
loop-i-preserved-then-stays_dry c =
    let i = c.loop-i.i in
    let w = c.loop-i.invariant in
    let s = flow (goal.at.loop-i-preserved-then-stays_dry c).Start in
    let a = c.args in
    let l = (index (goal.at.loop-i-preserved-then-stays_dry c).In-loop-i).0 in
    let n = next (goal.at.loop-i-preserved-then-stays_dry c).After-right_side-next in
    let z = stays (goal.at.loop-i-preserved-then-stays_dry c).After-stays_dry c.if-stays_dry.true in
    let still : ((left_side s (i + 1)).depth ≡ 0) × ((right_side s (i + 1)).depth ≡ 0) = (ap (λ (d : Side). d.depth) (left_side_next s i ∙ sym (right_side_cell s i l)) ∙ z.0.1, z.1) in
    let want : ℕ → ℕ = λ j. get_or a.given.now j 0 in (
      omega (arith, l),
      written_more (pos 0) (net_at s a.t) _ (i + 1) _ _ w.1 (omega (arith, l, c.requires.bed_in_bounds.0, net-length (goal.at.loop-i-preserved-then-stays_dry c).In-loop-i, w.1.long))
          (sym (dry_net s a.t i l z.0.0 z.0.1 z.1)),
      written_more 0 (λ j. positive (granted_depth s a.t (want j) j)) _ i _ _ w.2 (omega (arith, l, c.requires.bed_in_bounds.1.1.0))
          (sym (dry_depth s a.t i l z.0.0 z.0.1 z.1 (want i))),
      written_more (pos 0) (λ j. granted_discharge s a.t a.f (want j) j) _ i _ _ w.3 (omega (arith, l, c.requires.bed_in_bounds.1.1.1))
          (sym (dry_discharge s a.t i l z.0.0 z.0.1 z.1 a.f (want i))),
      n,
      dry_same (left_side s i) (right_side s i) (left_side s (i + 1)) (right_side s (i + 1)) w.5 z.0 still,
      w.6 ∙ sym (and-true _) ∙ ap (λ (b : Bool). (side_meets a.t a.x (left_side s 0) && all_below (i + 1) (λ j. side_meets a.t a.x (right_side s j))) && b) (sym (dry_meets s a.t a.x (i + 1) z.1)) ∙ meets_more (side_meets a.t a.x (left_side s 0)) (λ j. side_meets a.t a.x (right_side s j)) i,
      written_more 0 (λ j. granted s a.t (want j) j) _ i _ _ w.7 (omega (arith, l, c.requires.bed_in_bounds.1.0))
          (sym (dry_granted s a.t i l z.0.0 z.0.1 z.1 (want i))),
      λ e. still,
    )

pub depth_after-deep-requires : goal.depth_after-deep-requires
depth_after-deep-requires c =
    ((c.requires.mesh.1.cell c.loop-i.i (index (goal.at.depth_after-deep-requires c).In-loop-i).0).1.0, omega (arith, c.granted_of-taken.ensures))

pub loop-i-preserved : goal.loop-i-preserved
loop-i-preserved c =
    let i = c.loop-i.i in
    let w = c.loop-i.invariant in
    let s = flow (goal.at.loop-i-preserved c).Start in
    let a = c.args in
    let l = (index (goal.at.loop-i-preserved c).In-loop-i).0 in
    let n = next (goal.at.loop-i-preserved c).After-right_side-next in
    let r = crossing (goal.at.loop-i-preserved c).After-exchange_between-right in
    let want : ℕ → ℕ = λ j. get_or a.given.now j 0 in
    let taken = c.granted_of-taken.ensures ∙ ap (min _) (w.7.same i (omega arith)) in
    let depth = rw taken at c.depth_after-deep.ensures in (
      omega (arith, l),
      written_more (pos 0) (net_at s a.t) _ (i + 1) _ _ w.1 (omega (arith, l, c.requires.bed_in_bounds.0, net-length (goal.at.loop-i-preserved c).In-loop-i, w.1.long))
          (to_z-of_z {w = w64} (sfits_of c.net_of-in-loop-i.type_inv) ∙ c.net_of-in-loop-i.ensures ∙ sym (net_by_crossing s a.t (i + 1) r)),
      written_more 0 (λ j. positive (granted_depth s a.t (want j) j)) _ i _ _ w.2 (omega (arith, l, c.requires.bed_in_bounds.1.1.0))
          (depth ∙ sym (depth_by_crossings s a.t i l w.5 r (want i))),
      written_more (pos 0) (λ j. granted_discharge s a.t a.f (want j) j) _ i _ _ w.3 (omega (arith, l, c.requires.bed_in_bounds.1.1.1))
          (to_z-of_z {w = w64} (sfits_of c.momentum_after.type_inv) ∙ rw (to_z-of_z (sfits_of c.momentum_after-arg-1.given), depth, ap (λ (d : Side). nat_abs d.velocity) (here (goal.at.loop-i-preserved c).In-loop-i)) at c.momentum_after.ensures ∙ sym (discharge_by_crossings s a.t i l w.5 r a.f (want i) _ (rw depth at c.conveyance_squared-d.ensures.0))),
      n,
      r,
      c.still_meets-met-in-loop-i.ensures ∙ ap₂ ◌&&◌ w.6 (ap (side_meets a.t a.x) n) ∙ meets_more (side_meets a.t a.x (left_side s 0)) (λ j. side_meets a.t a.x (right_side s j)) i,
      written_more 0 (λ j. granted s a.t (want j) j) _ i _ _ w.7 (omega (arith, l, c.requires.bed_in_bounds.1.0))
          (taken ∙ sym (grant_by_crossings s a.t i l w.5 r (want i))),
      λ e.
          let z = eqb-true (c.loop-i.cell.depth + c.right_side-next.result.depth) 0 (sym c.both_dry-dry.ensures ∙ e) in (
            ap (λ (d : Side). d.depth) (left_side_next s i ∙ sym (here (goal.at.loop-i-preserved c).In-loop-i)) ∙ omega (arith, z),
            ap (λ (d : Side). d.depth) (sym n) ∙ omega (arith, z),
          ),
    )

pub momentum_after-requires-clause-q_bound : goal.momentum_after-requires-clause-q_bound
momentum_after-requires-clause-q_bound c =
    let f = (c.requires.mesh.1.cell c.loop-i.i (index (goal.at.momentum_after-requires-clause-q_bound c).In-loop-i).0).1 in
    let l = c.loop-i.left.fits in
    let r = c.exchange_between-right.result.fits in
    rw (to_z-of_z (sfits_of c.momentum_after-arg-1.given))
    (omega (arith, f.0, f.1), omega (arith, f.0, l.rightward_most, r.leftward_most, c.depth_after-deep.ensures))

pub exchange_level-left-requires-clause-span_of : goal.exchange_level-left-requires-clause-span_of
exchange_level-left-requires-clause-span_of c =
    (c.span_of-span.ensures, ap (λ (d : Side). d.bed) c.boundary_state-beyond.ensures ∙ boundary_bed Left _ (side_of c.cell_state-cell.result))

pub right_side-next-requires-clause-in_range : goal.right_side-next-requires-clause-in_range
right_side-next-requires-clause-in_range c =
    let p = c.requires.mesh.1 in
    (λ l. p.cell _ l)

pub returns-clause-value : goal.returns-clause-value
unfolding sides_meet
returns-clause-value c =
    let w = c.loop-i.invariant in
    let s = flow (goal.at.returns-clause-value c).Start in
    let e : c.loop-i.i ≡ cells s = omega (arith, c.loop-i-test.false, w.0) in c.unless.ensures ∙ ap (pass_or refusal.Cfl) (rw (e, add-one (cells s)) at w.6)

pub returns-clause-swept : goal.returns-clause-swept
unfolding sides_meet
returns-clause-swept c =
    let w = c.loop-i.invariant in
    let s = flow (goal.at.returns-clause-swept c).Start in
    let e : c.loop-i.i ≡ cells s = omega (arith, c.loop-i-test.false, w.0) in record {
      nets = λ i l. w.1.done i (omega arith);
      grants = λ i l. w.7.done i (omega arith);
      depths = λ i l. w.2.done i (omega arith);
      discharges = λ i l. w.3.done i (omega arith);
    }

pub returns-clause-by_index : goal.returns-clause-by_index
unfolding sides_meet
returns-clause-by_index c =
    let w = c.loop-i.invariant in
    let s = flow (goal.at.returns-clause-by_index c).Start in
    let e : c.loop-i.i ≡ cells s = omega (arith, c.loop-i-test.false, w.0) in λ i l. w.7.same i (omega arith)
