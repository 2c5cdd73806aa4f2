-- `stepping::step::advance` meets its contract: what the functions find is what the definitions say (`StepCallLaws`), ground by ground.
-- Assumes nothing.
use mathlib.Core.Path.{◌≡◌, sym, ◌∙◌, subst}
use mathlib.Core.Bool.{Bool, true}
use mathlib.Core.List.{List}
use Prim.Native.Nat.{ℕ, ◌+◌, ◌<◌}
use native.Mathlib.Omega.{arith}
use lib.Dec.{leb}
use lib.IntN.{ℤ}
use lib.ListN.{length, get_or}
use Rattle.numbers.specs.Index.{all_below, sum, tabulate}
use Rattle.numbers.specs.Signed.{positive}
use Rattle.numbers.proofs.IndexLaws.{zeros}
use Rattle.flux.specs.Limits.{depth_most}
use Rattle.flux.specs.Ranges.{Mesh}
use Rattle.friction.proofs.FrictionLaws.{strickler_most_lem}
use Rattle.cfl.specs.Cfl.{meets_cfl}
use Rattle.drawing.specs.Ranges.{Granted}
use Rattle.reach.specs.Limits.{cells_most}
use Rattle.reach.specs.Reach.{Reach, reach_of, cells}
use Rattle.reach.proofs.GroundsLaws.{passed, refused_by, refusal_of}
use Rattle.reach.proofs.Sound.{Sound, sound, outlets_few, outlet_sound}
use Rattle.water.specs.Ranges.{flow_of, Swept, sides_meet}
use Rattle.water.specs.Water.{wants_from, new_depth}
use Rattle.water.proofs.WaterLaws.{sides_same, swept_same}
use Rattle.timestep.specs.GreatestStep.{place_speed}
use Rattle.update.specs.Step.{depths_fit}
use Rattle.stepping.proofs.StepCallLaws.{stays_by, mesh, water_fits, met_is, depths_are, wanted_long, depth_of, discharge_of, grants, got_of, stopped_11, stopped_12}
use Rattle.reach.specs.declared.refusal.Refusal.TheVariants as refusal
use Rattle.stepping.proofs.step.advance.Goals as goal
use Rattle.stepping.proofs.step.advance.Goals.{After-sweep, In_default, In_default-check_depths, Start}

-- the record as it came, and that it is sound
abbrev reach : Start → Reach
reach s =
    reach_of s.args.bed.now s.args.depth.now s.args.discharge.now s.args.mass.now s.args.base.now s.args.carried.now s.args.x s.args.held

whole : (s : Start) → Sound (reach s)
whole s = sound (reach s) s.args.held.boundaries s.requires.boundaries_value

fine : (s : Start) → Mesh s.args.t s.args.x
fine s = mesh (reach s) (whole s) s.args.t s.requires.t_value.0

-- what is wanted of each cell
abbrev wants : After-sweep → List ℕ
wants c = c.wants_by_cell.new.column

wanted : (c : After-sweep) → wants c ≡ tabulate cells_most (λ i. sum (wants_from c.args.held.outlets i))
wanted c = c.wants_by_cell.ensures

abbrev net : After-sweep → List ℤ
net c = c.sweep.new.net

abbrev given : After-sweep → List ℕ
given c = c.sweep.new.given

abbrev depth : After-sweep → List ℕ
depth c = c.sweep.new.new_depth

abbrev discharge : After-sweep → List ℤ
discharge c = c.sweep.new.new_discharge

swept : (c : After-sweep) → Swept (reach (goal.at.After-sweep c).Start) c.args.t c.args.f (wants c) (net c) (given c) (depth c) (discharge c)
swept c = swept_same (reach (goal.at.After-sweep c).Start) c.args.t c.args.f (wants c) (net c) (given c) (depth c) (discharge c) c.sweep.ensures.swept

net-length : (c : After-sweep) → length (net c) ≡ 513
net-length c = c.sweep.auto.net

given-length : (c : After-sweep) → length (given c) ≡ 512
given-length c = c.sweep.auto.given ∙ c.wants_by_cell.auto.column

depth-length : (c : After-sweep) → length (depth c) ≡ 512
depth-length c = c.sweep.auto.new_depth

discharge-length : (c : After-sweep) → length (discharge c) ≡ 512
discharge-length c = c.sweep.auto.new_discharge

depths-found : (c : After-sweep) → (i : ℕ) → i < cells (reach (goal.at.After-sweep c).Start) → get_or (depth c) i 0 ≡ positive (new_depth (reach (goal.at.After-sweep c).Start) c.args.t i)
depths-found c = depth_of (reach (goal.at.After-sweep c).Start) (whole (goal.at.After-sweep c).Start) c.args.t (wants c) (wanted c) (net c) (given c) (depth c) (discharge c) (swept c)

-- ground 11
abbrev met : Start → Bool
met s = meets_cfl (place_speed (reach s)) (cells (reach s) + 1) s.args.x s.args.t

met-same : (s : Start) {v : Bool} → sides_meet (flow_of s.args.bed.now s.args.depth.now s.args.discharge.now s.args.x s.args.held.boundaries) s.args.t ≡ v → met s ≡ v
met-same s e = sym (met_is (reach s) (whole s) s.args.t) ∙ sym (sides_same (reach s) s.args.t) ∙ e

cfl : (c : In_default) → met (goal.at.In_default c).Start ≡ true
cfl c = met-same (goal.at.In_default c).Start (passed refusal.Cfl _ _ c.sweep.ensures.value c.in_default.is)

-- ground 12
tested : (w : After-sweep) → all_below (cells (reach (goal.at.After-sweep w).Start)) (λ i. leb (get_or (depth w) i 0) depth_most) ≡ depths_fit (reach (goal.at.After-sweep w).Start) w.args.t
tested w = depths_are (reach (goal.at.After-sweep w).Start) (whole (goal.at.After-sweep w).Start) w.args.t (depth w) (depths-found w)

deep : (c : In_default-check_depths) → depths_fit (reach (goal.at.In_default-check_depths c).Start) c.args.t ≡ true
deep c = sym (tested (goal.at.In_default-check_depths c).After-sweep) ∙ passed refusal.Depth _ _ c.check_depths.ensures c.in_default-check_depths.is

pub returns-in-Err : goal.returns-in-Err
returns-in-Err c =
    let a = c.args in
    let s = (goal.at.returns-in-Err c).Start in
    stays_by (reach s) a.t a.f refusal.Cfl _ _ (refusal_of refusal.Cfl _ _ _ c.sweep.ensures.value c.in-Err.is) c.refused.ensures
    (stopped_11 (reach s) a.t a.f c.requires.boundaries_value c.requires.t_value.0 c.requires.t_value.1 (met-same s (refused_by refusal.Cfl _ _ _ c.sweep.ensures.value c.in-Err.is)))

pub check_depths-requires : goal.check_depths-requires
check_depths-requires c = omega (arith, depth-length (goal.at.check_depths-requires c).After-sweep, (whole (goal.at.check_depths-requires c).Start).few)

pub returns-in-Err-check_depths : goal.returns-in-Err-check_depths
returns-in-Err-check_depths c =
    let a = c.args in
    let s = reach (goal.at.returns-in-Err-check_depths c).Start in
    let f = sym (tested (goal.at.returns-in-Err-check_depths c).After-sweep) ∙ refused_by refusal.Depth _ _ _ c.check_depths.ensures c.in-Err-check_depths.is in
    stays_by s a.t a.f refusal.Depth _ _ (refusal_of refusal.Depth _ _ _ c.check_depths.ensures c.in-Err-check_depths.is) c.refused-in-Err-check_depths.ensures
    (stopped_12 s a.t a.f c.requires.boundaries_value c.requires.t_value.0 c.requires.t_value.1 (cfl (goal.at.returns-in-Err-check_depths c).In_default) f)

pub deal_out-got-requires : goal.deal_out-got-requires
deal_out-got-requires c =
    subst (λ (ws : List ℕ). Granted c.args.held.outlets ws (given (goal.at.deal_out-got-requires c).After-sweep)) (wanted (goal.at.deal_out-got-requires c).After-sweep)
    (grants (reach (goal.at.deal_out-got-requires c).Start) (whole (goal.at.deal_out-got-requires c).Start) c.args.t (wants (goal.at.deal_out-got-requires c).After-sweep) (wanted (goal.at.deal_out-got-requires c).After-sweep) (net (goal.at.deal_out-got-requires c).After-sweep) (given (goal.at.deal_out-got-requires c).After-sweep) (depth (goal.at.deal_out-got-requires c).After-sweep) (discharge (goal.at.deal_out-got-requires c).After-sweep) (swept (goal.at.deal_out-got-requires c).After-sweep) (given-length (goal.at.deal_out-got-requires c).After-sweep) c.sweep.ensures.by_index)

pub wants_by_cell-requires-clause-count_le_outlets_most : goal.wants_by_cell-requires-clause-count_le_outlets_most
wants_by_cell-requires-clause-count_le_outlets_most c =
    let k = whole (goal.at.wants_by_cell-requires-clause-count_le_outlets_most c).Start in
    outlets_few _ _ k.outlets

pub wants_by_cell-requires-clause-by_index : goal.wants_by_cell-requires-clause-by_index
wants_by_cell-requires-clause-by_index c =
    let k = whole (goal.at.wants_by_cell-requires-clause-by_index c).Start in
    (λ j l. let o = outlet_sound _ _ k.outlets j l in (omega (arith, o.cell, k.few), o.want))

pub wants_by_cell-requires-clause-by_index_2 : goal.wants_by_cell-requires-clause-by_index_2
wants_by_cell-requires-clause-by_index_2 c =
    let k = whole (goal.at.wants_by_cell-requires-clause-by_index_2 c).Start in
    zeros 512

pub sweep-requires-clause-mesh : goal.sweep-requires-clause-mesh
sweep-requires-clause-mesh c =
    let k = whole (goal.at.sweep-requires-clause-mesh c).Start in
    let n = k.few in
    (fine (goal.at.sweep-requires-clause-mesh c).Start, water_fits (reach (goal.at.sweep-requires-clause-mesh c).Start) k)

pub sweep-requires-clause-bed_in_bounds : goal.sweep-requires-clause-bed_in_bounds
sweep-requires-clause-bed_in_bounds c =
    let k = whole (goal.at.sweep-requires-clause-bed_in_bounds c).Start in
    let n = k.few in
    (omega (arith, n), (omega (arith, n, wanted_long (reach (goal.at.sweep-requires-clause-bed_in_bounds c).Start) k c.args.t _ c.wants_by_cell.ensures), (omega (arith, n), omega (arith, n))))

pub sweep-requires-clause-f_le_strickler_most : goal.sweep-requires-clause-f_le_strickler_most
sweep-requires-clause-f_le_strickler_most c =
    let k = whole (goal.at.sweep-requires-clause-f_le_strickler_most c).Start in
    let n = k.few in
    strickler_most_lem c.args.f c.requires.t_value.1

pub complete-requires-clause-step_passes : goal.complete-requires-clause-step_passes
complete-requires-clause-step_passes c =
    let k = whole (goal.at.complete-requires-clause-step_passes c).Start in
    let r = reach (goal.at.complete-requires-clause-step_passes c).Start in
    let t = c.args.t in
    let found : (i : ℕ) → i < cells r → i < 512 = λ i l. omega (arith, l, k.few) in record { time = c.requires.t_value.0; strickler = c.requires.t_value.1; cfl = cfl (goal.at.complete-requires-clause-step_passes c).In_default; deep = deep (goal.at.complete-requires-clause-step_passes c).In_default-check_depths }

pub complete-requires-clause-step_found : goal.complete-requires-clause-step_found
complete-requires-clause-step_found c =
    let k = whole (goal.at.complete-requires-clause-step_found c).Start in
    let r = reach (goal.at.complete-requires-clause-step_found c).Start in
    let t = c.args.t in
    let found : (i : ℕ) → i < cells r → i < 512 = λ i l. omega (arith, l, k.few) in record {
      net_long = omega (arith, net-length (goal.at.complete-requires-clause-step_found c).After-sweep, k.few);
      depth_long = omega (arith, depth-length (goal.at.complete-requires-clause-step_found c).After-sweep, k.few);
      discharge_long = omega (arith, discharge-length (goal.at.complete-requires-clause-step_found c).After-sweep, k.few);
      nets = (swept (goal.at.complete-requires-clause-step_found c).After-sweep).nets;
      depths = depths-found (goal.at.complete-requires-clause-step_found c).After-sweep;
      discharges = discharge_of r k t (wants (goal.at.complete-requires-clause-step_found c).After-sweep) (wanted (goal.at.complete-requires-clause-step_found c).After-sweep) (net (goal.at.complete-requires-clause-step_found c).After-sweep) (given (goal.at.complete-requires-clause-step_found c).After-sweep) (depth (goal.at.complete-requires-clause-step_found c).After-sweep) (discharge (goal.at.complete-requires-clause-step_found c).After-sweep) (swept (goal.at.complete-requires-clause-step_found c).After-sweep) (deep (goal.at.complete-requires-clause-step_found c).In_default-check_depths);
      gots = got_of r k t (wants (goal.at.complete-requires-clause-step_found c).After-sweep) (wanted (goal.at.complete-requires-clause-step_found c).After-sweep) (net (goal.at.complete-requires-clause-step_found c).After-sweep) (given (goal.at.complete-requires-clause-step_found c).After-sweep) (depth (goal.at.complete-requires-clause-step_found c).After-sweep) (discharge (goal.at.complete-requires-clause-step_found c).After-sweep) (swept (goal.at.complete-requires-clause-step_found c).After-sweep) _ c.deal_out-got.ensures;
    }
