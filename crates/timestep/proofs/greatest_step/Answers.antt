-- `timestep::greatest_step` meets its contract. Assumes refused_with.
use mathlib.Core.Path.{◌≡◌, sym, ap, ◌∙◌}
use Prim.Native.Nat.{ℕ, ◌+◌, ◌-◌, ◌<◌}
use native.Mathlib.Omega.{arith}
use lib.ListN.{length}
use mir.Facts.{to_z-of_z}
use Rattle.reach.specs.Reach.{Reach, reach_of, cells, bed_at, depth_at, discharge_at}
use Rattle.reach.specs.Grounds.{first_refusal, record_grounds}
use Rattle.std.specs.Prelude.{Ok}
use Rattle.reach.proofs.Sound.{Sound, sound}
use Rattle.timestep.specs.GreatestStep.{boundary_speed, left_speed, right_speed}
use Rattle.timestep.proofs.GreatestLaws.{columns_flow, stopped, place_left, place_right, speed_most, found}
use Rattle.water.specs.Ranges.{InRange, side_of}
use Rattle.water.specs.Sides.{cell_side}
use borrow.Author.Rules.{sfits_of}
use Rattle.timestep.proofs.greatest_step.Goals as goal
use Rattle.timestep.proofs.greatest_step.Goals.{After-boundary_speed-left, After-boundary_speed-right, After-cell_state-first, After-cell_state-last, In_default, Start}

abbrev reach : Start → Reach
reach s =
    reach_of s.args.bed.now s.args.depth.now s.args.discharge.now s.args.mass.now s.args.base.now s.args.carried.now s.args.x s.args.held

passed : (c : In_default) → first_refusal (record_grounds (reach (goal.at.In_default c).Start) c.args.held.boundaries) ≡ Ok tt
passed c = sym c.check_record.ensures ∙ c.in_default.is

checked : (c : In_default) → Sound (reach (goal.at.In_default c).Start)
checked c = sound (reach (goal.at.In_default c).Start) c.args.held.boundaries (passed c)

some : (c : In_default) → let s = reach (goal.at.In_default c).Start in (0 < cells s) × (length s.depth ≡ cells s) × (length s.discharge ≡ cells s)
some c = let k = checked c in (k.some, k.depths, k.discharges)

-- a cell of a sound record is in range
cell_in_range : (s : Reach) → Sound s → (i : ℕ) → i < cells s → InRange (bed_at s i) (depth_at s i) (discharge_at s i)
cell_in_range s k i l = let c = k.cell i l in (c.bed, (c.depth, c.discharge))

-- the first and the last cell
first : (c : After-cell_state-first) → let s = reach (goal.at.After-cell_state-first c).Start in side_of c.cell_state-first.result ≡ cell_side s 0
unfolding cell_side
first c = rw (to_z-of_z (sfits_of c.cell_state-arg-1.given), to_z-of_z (sfits_of c.cell_state-arg-2-1.given)) at c.cell_state-first.ensures

last : (c : After-cell_state-last) → let s = reach (goal.at.After-cell_state-last c).Start in side_of c.cell_state-last.result ≡ cell_side s (cells s - 1)
unfolding cell_side
last c = rw (to_z-of_z (sfits_of c.cell_state-arg-3-1.given), to_z-of_z (sfits_of c.cell_state-arg-4-1.given)) at c.cell_state-last.ensures

-- what the boundaries give
left_is : (c : After-boundary_speed-left) → c.boundary_speed-left.result ≡ left_speed (reach (goal.at.After-boundary_speed-left c).Start)
unfolding left_speed
left_is c = c.boundary_speed-left.ensures ∙ ap (boundary_speed _ _) (first (goal.at.After-boundary_speed-left c).After-cell_state-first)

right_is : (c : After-boundary_speed-right) → c.boundary_speed-right.result ≡ right_speed (reach (goal.at.After-boundary_speed-right c).Start)
unfolding right_speed
right_is c = c.boundary_speed-right.ensures ∙ ap (boundary_speed _ _) (last (goal.at.After-boundary_speed-right c).After-cell_state-last)

pub returns-in-Err : goal.returns-in-Err
returns-in-Err c =
    let s = reach (goal.at.returns-in-Err c).Start in
    c.refused.ensures ∙ sym (stopped s c.in-Err.r (sym c.check_record.ensures ∙ c.in-Err.is))

pub cell_state-first-requires : goal.cell_state-first-requires
cell_state-first-requires c =
    let e = (goal.at.cell_state-first-requires c).In_default in
    rw (to_z-of_z (sfits_of c.cell_state-arg-1.given), to_z-of_z (sfits_of c.cell_state-arg-2-1.given))
    (cell_in_range (reach (goal.at.cell_state-first-requires c).Start) (checked e) 0 (some e).0)

pub cell_state-last-requires : goal.cell_state-last-requires
cell_state-last-requires c =
    let e = (goal.at.cell_state-last-requires c).In_default in
    let s = reach (goal.at.cell_state-last-requires c).Start in
    let n = (some e).0 in
    rw (to_z-of_z (sfits_of c.cell_state-arg-3-1.given), to_z-of_z (sfits_of c.cell_state-arg-4-1.given))
    (cell_in_range s (checked e) (cells s - 1) (omega arith))

pub bounds-bed-0 : goal.bounds-bed-0
bounds-bed-0 c = omega (arith, some (goal.at.bounds-bed-0 c).In_default)

pub bounds-depth-0 : goal.bounds-depth-0
bounds-depth-0 c = omega (arith, some (goal.at.bounds-depth-0 c).In_default)

pub bounds-discharge-0 : goal.bounds-discharge-0
bounds-discharge-0 c = omega (arith, some (goal.at.bounds-discharge-0 c).In_default)

pub overflow_sub-n : goal.overflow_sub-n
overflow_sub-n c = omega (arith, some (goal.at.overflow_sub-n c).In_default)

pub bounds-bed-n : goal.bounds-bed-n
bounds-bed-n c = omega (arith, some (goal.at.bounds-bed-n c).In_default)

pub overflow_sub-n-2 : goal.overflow_sub-n-2
overflow_sub-n-2 c = omega (arith, some (goal.at.overflow_sub-n-2 c).In_default)

pub bounds-depth-n : goal.bounds-depth-n
bounds-depth-n c = omega (arith, some (goal.at.bounds-depth-n c).In_default)

pub overflow_sub-n-3 : goal.overflow_sub-n-3
overflow_sub-n-3 c = omega (arith, some (goal.at.overflow_sub-n-3 c).In_default)

pub bounds-discharge-n : goal.bounds-discharge-n
bounds-discharge-n c = omega (arith, some (goal.at.bounds-discharge-n c).In_default)

pub fastest_of-f-requires : goal.fastest_of-f-requires
fastest_of-f-requires c =
    let s = reach (goal.at.fastest_of-f-requires c).Start in
    let k = checked (goal.at.fastest_of-f-requires c).In_default in
    let left = left_is (goal.at.fastest_of-f-requires c).After-boundary_speed-left in
    let right = right_is (goal.at.fastest_of-f-requires c).After-boundary_speed-right in
    (columns_flow s k, (omega (arith, place_left s, speed_most s k 0), omega (arith, place_right s k.depths, speed_most s k (cells s + 1))))

pub longest_step-requires : goal.longest_step-requires
longest_step-requires c = let k = checked (goal.at.longest_step-requires c).In_default in (k.length_least, k.length_most)

pub returns : goal.returns
returns c =
    let f = c.fastest_of-f.ensures in
    found (reach (goal.at.returns c).Start) _ _ _ _ _ (passed (goal.at.returns c).In_default) (left_is (goal.at.returns c).After-boundary_speed-left) (right_is (goal.at.returns c).After-boundary_speed-right) (checked (goal.at.returns c).In_default).depths f.0 f.1 c.longest_step.ensures

pub boundary_speed-left-requires : goal.boundary_speed-left-requires
boundary_speed-left-requires c =
    let k = (checked (goal.at.boundary_speed-left-requires c).In_default).left in
    (k.depth, k.discharge)

pub boundary_speed-right-requires : goal.boundary_speed-right-requires
boundary_speed-right-requires c =
    let k = (checked (goal.at.boundary_speed-right-requires c).In_default).right in
    (k.depth, k.discharge)
