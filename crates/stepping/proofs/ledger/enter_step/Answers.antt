-- `stepping::ledger::enter_step` meets its contract. Assumes nothing.
use mathlib.Core.Path.{◌≡◌, ap, ap₂}
use Prim.Native.Nat.{◌≤◌}
use native.Mathlib.Omega.{arith}
use lib.IntN.{neg_ℤ}
use mir.Facts.{to_z-of_z}
use Rattle.numbers.specs.Signed.{positive}
use Rattle.numbers.proofs.SignedLaws.{abs_parts}
use Rattle.reach.specs.Limits.{total_most}
use Rattle.reach.specs.declared.ledger.Totals.{Totals}
use Rattle.reach.proofs.Sound.{totals_sound, ledger_left, ledger_right}
use Rattle.transport.specs.Calls.{ledger_with, with_mass}
use Rattle.update.specs.Step.{with_water, with_boundary_water}
use Rattle.stepping.proofs.ledger.enter_step.Goals as goal
use Rattle.stepping.proofs.ledger.enter_step.Goals.{After-left_part, After-left_part-2, After-right_part, After-right_part-2, After-with_mass-moved_left, After-with_mass-moved_right, After-with_water, After-with_water-2}

-- ---- the parts of N at both boundaries
first-right : (c : After-right_part) → c.right_part.result ≡ positive c.args.first
first-right c = rw (to_z-of_z c.ranges.first) at c.right_part.ensures

first-left : (c : After-left_part) → c.left_part.result ≡ positive (neg_ℤ c.args.first)
first-left c = rw (to_z-of_z c.ranges.first) at c.left_part.ensures

last-left : (c : After-left_part-2) → c.left_part-2.result ≡ positive (neg_ℤ c.args.last)
last-left c = rw (to_z-of_z c.ranges.last) at c.left_part-2.ensures

last-right : (c : After-right_part-2) → c.right_part-2.result ≡ positive c.args.last
last-right c = rw (to_z-of_z c.ranges.last) at c.right_part-2.ensures

-- ---- the water totals after the mass
water-left : (c : After-with_mass-moved_left) → (c.with_mass-moved_left.result.water_in ≤ total_most) × (c.with_mass-moved_left.result.water_out ≤ total_most)
unfolding with_mass
water-left c =
    let t = totals_sound c.args.k.left (ledger_left _ c.requires.k_value.0) in
    (rw (ap (λ (r : Totals). r.water_in) c.with_mass-moved_left.ensures) t.total_water_in, rw (ap (λ (r : Totals). r.water_out) c.with_mass-moved_left.ensures) t.total_water_out)

water-right : (c : After-with_mass-moved_right) → (c.with_mass-moved_right.result.water_in ≤ total_most) × (c.with_mass-moved_right.result.water_out ≤ total_most)
unfolding with_mass
water-right c =
    let t = totals_sound c.args.k.right (ledger_right _ c.requires.k_value.0) in
    (rw (ap (λ (r : Totals). r.water_in) c.with_mass-moved_right.ensures) t.total_water_in, rw (ap (λ (r : Totals). r.water_out) c.with_mass-moved_right.ensures) t.total_water_out)

-- ---- the totals of both boundaries, and the ledger
left_is : (c : After-with_water) →
    let s = c.args in
    c.with_water.result ≡ with_water (with_mass s.k.left s.x.left_in s.x.left_out) (positive s.first) (positive (neg_ℤ s.first))
left_is c =
    rw (← c.with_mass-moved_left.ensures, ← first-right (goal.at.After-with_water c).After-right_part, ← first-left (goal.at.After-with_water c).After-left_part) c.with_water.ensures

right_is : (c : After-with_water-2) →
    let s = c.args in
    c.with_water-2.result ≡ with_water (with_mass s.k.right s.x.right_in s.x.right_out) (positive (neg_ℤ s.last)) (positive s.last)
right_is c =
    rw (← c.with_mass-moved_right.ensures, ← last-left (goal.at.After-with_water-2 c).After-left_part-2, ← last-right (goal.at.After-with_water-2 c).After-right_part-2) c.with_water-2.ensures

next_is : (c : After-with_water-2) →
    let s = c.args in
    record { left = c.with_water.result; right = c.with_water-2.result }
    ≡ with_boundary_water (ledger_with s.k s.x.left_in s.x.left_out s.x.right_in s.x.right_out) s.first s.last
unfolding with_boundary_water ledger_with
next_is c = ap₂ (λ (l r : Totals). record { left = l; right = r }) (left_is (goal.at.After-with_water-2 c).After-with_water) (right_is c)

-- ---- the calls
pub with_mass-moved_left-requires : goal.with_mass-moved_left-requires
with_mass-moved_left-requires c =
    let p = c.requires.k_value in
    let t = totals_sound _ (ledger_left _ p.0) in
    (t.total_mass_in, (t.total_mass_out, (p.1.left_in, p.1.left_out)))

pub with_mass-moved_right-requires : goal.with_mass-moved_right-requires
with_mass-moved_right-requires c =
    let p = c.requires.k_value in
    let t = totals_sound _ (ledger_right _ p.0) in
    (t.total_mass_in, (t.total_mass_out, (p.1.right_in, p.1.right_out)))

pub with_water-requires : goal.with_water-requires
with_water-requires c =
    let w = water-left (goal.at.with_water-requires c).After-with_mass-moved_left in
    let n = abs_parts c.args.first in
    (w.0, (w.1, (omega (arith, first-right (goal.at.with_water-requires c).After-right_part, n, c.requires.first_bound.0), omega (arith, first-left (goal.at.with_water-requires c).After-left_part, n, c.requires.first_bound.0))))

pub with_water-requires-2 : goal.with_water-requires-2
with_water-requires-2 c =
    let w = water-right (goal.at.with_water-requires-2 c).After-with_mass-moved_right in
    let n = abs_parts c.args.last in
    (w.0, (w.1, (omega (arith, last-left (goal.at.with_water-requires-2 c).After-left_part-2, n, c.requires.first_bound.1), omega (arith, last-right (goal.at.with_water-requires-2 c).After-right_part-2, n, c.requires.first_bound.1))))

pub returns : goal.returns
returns c = next_is (goal.at.returns c).After-with_water-2
