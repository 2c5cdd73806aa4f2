-- Laws of the greatest_step_lem call: what a sound record owes its functions, and what its answer is. Assumes nothing.
use mathlib.Core.Path.{◌≡◌, refl, sym, ap, subst, ◌∙◌}
use mathlib.Core.Bool.{Bool, true, false, cond}
use Prim.Native.Nat.{ℕ, zero, suc, ◌+◌, ◌-◌, ◌≤◌, ◌<◌}
use native.Mathlib.Omega.{arith}
use borrow.Author.Tests.{eq-eqb, ne_eqb}
use lib.Dec.{eqb, ltb}
use lib.IntN.{ℤ}
use lib.ListN.{length}
use Rattle.cfl.specs.Cfl.{signal_speed, speed_at, fastest_place}
use Rattle.cfl.specs.Ranges.{FlowColumns, step_for}
use Rattle.cfl.proofs.CflLaws.{signal_speed_most, speed_of_cell, speed_of_right, greatest_step_is, greatest_step_most, greatest_step_some, all_dry}
use Rattle.numbers.proofs.SearchLaws.{by_less}
use Rattle.flux.specs.Interface.{Side}
use Rattle.flux.specs.Limits.{time_step_most, velocity_most}
use Rattle.flux.proofs.WaveLaws.{wave_speed_dry, wave_speed_most}
use Rattle.flux.proofs.VelocityLaws.{velocity_dry, velocity_most_lem}
use Rattle.reach.specs.Limits.{fed}
use Rattle.reach.specs.Reach.{Reach, cells, depth_at, discharge_at, left_boundary, right_boundary}
use Rattle.reach.specs.Grounds.{first_refusal, record_grounds}
use Rattle.reach.specs.declared.boundary.Boundary.{Boundary}
use Rattle.reach.specs.declared.boundary.BoundaryPlace.{BoundaryPlace}
use Rattle.reach.specs.declared.boundary.BoundaryPlace.TheVariants.{Left, Right}
use Rattle.reach.specs.Grounds.{Verdict}
use Rattle.reach.proofs.Sound.{Sound, BoundarySound}
use Rattle.water.specs.Sides.{cell_side, boundary_side, side_speed}
use Rattle.water.proofs.WaterLaws.{SideFits, boundary_side_fits}
use Rattle.timestep.specs.GreatestStep.{boundary_speed, left_speed, right_speed, place_speed, greatest_time, greatest_place, greatest_by, greatest}
use Rattle.std.specs.Prelude.{Ok, Err}
use Rattle.reach.specs.declared.refusal.Refusal.{Refusal}

pub speed_fed : (p : BoundaryPlace) (e : Boundary) (c : Side) → e.kind ≡ fed → boundary_speed p e c ≡ side_speed (boundary_side p e c)
unfolding boundary_speed
speed_fed p e c k = rw (eq-eqb _ _ k) refl

-- it is that of its own water
pub boundary_fed : (p : BoundaryPlace) (e : Boundary) (c : Side) → e.kind ≡ fed → boundary_speed p e c ≡ signal_speed e.depth e.discharge
unfolding boundary_speed boundary_side side_speed signal_speed
boundary_fed p e c k = rw k refl

pub speed_other : (p : BoundaryPlace) (e : Boundary) (c : Side) → (e.kind ≡ fed → ⊥) → boundary_speed p e c ≡ 0
unfolding boundary_speed
speed_other p e c k = rw (ne_eqb _ _ k) refl

pub columns_flow : (s : Reach) → Sound s → FlowColumns s.depth s.discharge
columns_flow s k = record {
  long = k.discharges ∙ sym k.depths;
  few = omega (arith, k.few, k.depths);
  each = λ i l.
      let j : i < cells s = omega (arith, k.depths) in
      record { depth = (k.cell i j).depth; discharge = (k.cell i j).discharge };
}

pub stopped : (s : Reach) (r : Refusal) → first_refusal (record_grounds s s.held.boundaries) ≡ Err r → greatest s ≡ greatest_by (Err r) s
unfolding greatest
stopped s r e = ap (λ (k : Verdict). greatest_by k s) e

-- ---- |u|+a at each place

pub place_left : (s : Reach) → place_speed s 0 ≡ left_speed s
unfolding place_speed speed_at
place_left s = refl

pub place_cell : (s : Reach) → length s.depth ≡ cells s → (i : ℕ) → i < cells s → place_speed s (i + 1) ≡ signal_speed (depth_at s i) (discharge_at s i)
unfolding place_speed
place_cell s n i l = speed_of_cell s.depth s.discharge (left_speed s) (right_speed s) i (omega (arith, n))

pub place_right : (s : Reach) → length s.depth ≡ cells s → place_speed s (cells s + 1) ≡ right_speed s
unfolding place_speed
place_right s n =
    subst (λ m. speed_at s.depth s.discharge (left_speed s) (right_speed s) (m + 1) ≡ right_speed s) n
    (speed_of_right s.depth s.discharge (left_speed s) (right_speed s))

-- ---- the answer

-- from what the functions find
pub found : (s : Reach) (left right place speed time : ℕ) → first_refusal (record_grounds s s.held.boundaries) ≡ Ok tt
    → left ≡ left_speed s → right ≡ right_speed s → length s.depth ≡ cells s
    → place ≡ fastest_place (speed_at s.depth s.discharge left right) (length s.depth + 1)
    → speed ≡ speed_at s.depth s.discharge left right place
    → time ≡ step_for s.cell_length speed
    → record { refusal = 0; held = s.held; time = time; place = place } ≡ greatest s
unfolding greatest greatest_time greatest_place place_speed
found s left right place speed time e l r n p v t =
    rw (e, t, v, greatest_step_is, p, l, r, n) refl

-- ---- the answer is in range

side_most : (c : Side) → SideFits c → side_speed c ≤ 16_000
unfolding side_speed
side_most c f = omega (arith, f.velocity, wave_speed_most c.depth f.depth)

boundary_most : (p : BoundaryPlace) (e : Boundary) (c : Side) → BoundarySound e → SideFits c → boundary_speed p e c ≤ 16_000
unfolding boundary_speed
boundary_most p e c b f = go (eqb e.kind fed)
  where
    go : (t : Bool) → cond t (side_speed (boundary_side p e c)) 0 ≤ 16_000
    go true = side_most _ (boundary_side_fits p e c (b.depth, b.discharge) f)
    go false = omega arith

cell_fits_lem : (s : Reach) → Sound s → (i : ℕ) → i < cells s → SideFits (cell_side s i)
unfolding cell_side
cell_fits_lem s k i l =
    let c = k.cell i l in record { depth = c.depth; velocity = velocity_most_lem velocity_most (depth_at s i) (discharge_at s i) c.discharge }

pub speed_most : (s : Reach) → Sound s → (i : ℕ) → place_speed s i ≤ 16_000
unfolding place_speed speed_at left_speed right_speed
speed_most s k zero = boundary_most Left (left_boundary s.held.boundaries) (cell_side s 0) k.left (cell_fits_lem s k 0 k.some)
speed_most s k (suc i) =
    by_less i (length s.depth) (λ t. cond t (signal_speed (depth_at s i) (discharge_at s i)) (right_speed s) ≤ 16_000)
    (λ l.
    let c = k.cell i (omega (arith, k.depths)) in
    signal_speed_most (depth_at s i) (discharge_at s i) c.depth c.discharge)
    (λ l. boundary_most Right (right_boundary s.held.boundaries) (cell_side s (cells s - 1)) k.right (cell_fits_lem s k (cells s - 1) (let n = k.some in omega arith)))

-- the greatest t lies in 1..1,000
pub time_in_range : (s : Reach) → Sound s → (1 ≤ greatest_time s) × (greatest_time s ≤ time_step_most)
unfolding greatest_time
time_in_range s k =
    (greatest_step_some (place_speed s) (cells s + 1) s.cell_length (λ i l. speed_most s k i) k.length_least, greatest_step_most (place_speed s) (cells s + 1) s.cell_length)

signal_dry : (q : ℤ) → signal_speed 0 q ≡ 0
unfolding signal_speed
signal_dry q = rw (velocity_dry q, wave_speed_dry) refl

dry_speed : (s : Reach) → ((i : ℕ) → depth_at s i ≡ 0) → ((left_boundary s.held.boundaries).kind ≡ fed → ⊥) → ((right_boundary s.held.boundaries).kind ≡ fed → ⊥)
    → (i : ℕ) → place_speed s i ≡ 0
unfolding place_speed speed_at left_speed right_speed
dry_speed s dry left right zero = speed_other Left (left_boundary s.held.boundaries) (cell_side s 0) left
dry_speed s dry left right (suc i) = go (ltb i (length s.depth))
  where
    go : (t : Bool) → cond t (signal_speed (depth_at s i) (discharge_at s i)) (right_speed s) ≡ 0
    go true = rw (dry i) (signal_dry (discharge_at s i))
    go false = speed_other Right (right_boundary s.held.boundaries) (cell_side s (cells s - 1)) right

-- a reach that is all dry, with no fed boundary, answers 1,000 at place n+1
pub dry_reach : (s : Reach) → ((i : ℕ) → depth_at s i ≡ 0) → ((left_boundary s.held.boundaries).kind ≡ fed → ⊥) → ((right_boundary s.held.boundaries).kind ≡ fed → ⊥)
    → (greatest_place s ≡ cells s + 1) × (greatest_time s ≡ time_step_most)
unfolding greatest_place greatest_time
dry_reach s dry left right =
    all_dry (place_speed s) (cells s + 1) s.cell_length (λ i l. dry_speed s dry left right i)

-- all that is held comes back as it came, of a refused call too
pub greatest_held : (s : Reach) → (greatest s).held ≡ s.held
unfolding greatest
greatest_held s = go (first_refusal (record_grounds s s.held.boundaries))
  where
    go : (v : Verdict) → (greatest_by v s).held ≡ s.held
    go (Ok u) = refl
    go (Err _) = refl
