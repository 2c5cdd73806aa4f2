-- `water::exchange_between` meets its contract. Assumes nothing.
use mathlib.Core.Path.{◌≡◌, sym, ap, ap₂, ◌∙◌}
use Prim.Native.Nat.{ℕ, ◌+◌, ◌-◌, ◌≤◌}
use native.Mathlib.Omega.{arith}
use native.Mathlib.Nat.{le_trans}
use lib.IntN.{ℤ, sub_ℕ}
use mir.Facts.{to_z-of_z}
use Rattle.numbers.proofs.SignedLaws.{sub_neg}
use Rattle.flux.specs.Crossing.{water_flux, momentum_flux, still_thrust}
use Rattle.flux.specs.Interface.{reduced_depth, left_depth, right_depth, momentum_sum}
use Rattle.flux.specs.Ranges.{Flow}
use Rattle.flux.proofs.CrossingLaws.{momentum_flux_small}
use Rattle.flux.proofs.InterfaceLaws.{reduced_depth_le}
use Rattle.water.specs.Ranges.{side_of, ExchangeOf}
use Rattle.water.proofs.WaterLaws.{crossing_fits, dry_exchange}
use Rattle.water.proofs.exchange_between.Goals as goal
use Rattle.water.proofs.exchange_between.Goals.{After-reduced_depth-hl, After-reduced_depth-hr, After-reduced_wave-ar, After-thrust_lost-2}

left_is : (c : After-reduced_depth-hl) →
    let s = c.args in c.reduced_depth-hl.result ≡ reduced_depth s.l.depth s.l.bed s.r.bed
left_is c =
    rw (to_z-of_z (record { sfits = c.type_inv.l.0.1 }), to_z-of_z (record { sfits = c.type_inv.r.0.1 })) at
    c.reduced_depth-hl.ensures

right_is : (c : After-reduced_depth-hr) →
    let s = c.args in c.reduced_depth-hr.result ≡ reduced_depth s.r.depth s.r.bed s.l.bed
right_is c =
    rw (to_z-of_z (record { sfits = c.type_inv.r.0.1 }), to_z-of_z (record { sfits = c.type_inv.l.0.1 })) at
    c.reduced_depth-hr.ensures

left_le : (c : After-reduced_depth-hl) → c.reduced_depth-hl.result ≤ c.args.l.depth
left_le c = let s = c.args in omega (arith, left_is c, reduced_depth_le s.l.depth s.l.bed s.r.bed)

right_le : (c : After-reduced_depth-hr) → c.reduced_depth-hr.result ≤ c.args.r.depth
right_le c = let s = c.args in omega (arith, right_is c, reduced_depth_le s.r.depth s.r.bed s.l.bed)

left-deep : (c : After-reduced_depth-hl) → c.reduced_depth-hl.result ≤ 4_000_000
left-deep c = le_trans (left_le c) c.args.l.fits.depth

right-deep : (c : After-reduced_depth-hr) → c.reduced_depth-hr.result ≤ 4_000_000
right-deep c = le_trans (right_le c) c.args.r.fits.depth

-- either side at its reduced depth
left-flow : (c : After-reduced_wave-ar) → let s = c.args in Flow c.reduced_depth-hl.result c.reduced_wave-al.result s.l.right s.l.left
left-flow c =
    let p = c.args.l.fits in
    record { depth = left-deep (goal.at.After-reduced_wave-ar c).After-reduced_depth-hl; wave = c.reduced_wave-al.ensures; right_most = p.right_most; left_most = p.left_most }

right-flow : (c : After-reduced_wave-ar) → let s = c.args in Flow c.reduced_depth-hr.result c.reduced_wave-ar.result s.r.left s.r.right
right-flow c =
    let p = c.args.r.fits in
    record { depth = right-deep (goal.at.After-reduced_wave-ar c).After-reduced_depth-hr; wave = c.reduced_wave-ar.ensures; right_most = p.left_most; left_most = p.right_most }

-- both sides are dry
pub returns-then-l-r-eq0 : goal.returns-then-l-r-eq0
returns-then-l-r-eq0 c =
    let e = c.if-l-r-eq0.true in
    dry_exchange c.args.t c.args.x (side_of c.args.l) (side_of c.args.r) (omega (arith, e)) (omega (arith, e))

pub fluxes_of-a-requires : goal.fluxes_of-a-requires
fluxes_of-a-requires c = let p = c.requires in (p.mesh, (p.span_of, left-flow (goal.at.fluxes_of-a-requires c).After-reduced_wave-ar))

pub fluxes_of-b-requires : goal.fluxes_of-b-requires
fluxes_of-b-requires c =
    let p = c.requires in (p.mesh, (p.span_of, right-flow (goal.at.fluxes_of-b-requires c).After-reduced_wave-ar))

pub overflow_add-result : goal.overflow_add-result
overflow_add-result c =
    let g = c.requires.mesh in
    omega (arith, c.fluxes_of-a.ensures.1, c.fluxes_of-b.ensures.1, momentum_flux_small g (left-flow (goal.at.overflow_add-result c).After-reduced_wave-ar), momentum_flux_small g (right-flow (goal.at.overflow_add-result c).After-reduced_wave-ar))

-- what crosses
crosses : (c : After-thrust_lost-2) →
    let s = c.args in
    ExchangeOf s.t s.x (side_of s.l) (side_of s.r) c.fluxes_of-a.result.water c.fluxes_of-b.result.water (c.fluxes_of-a.result.momentum + c.fluxes_of-b.result.momentum) c.thrust_lost.result c.thrust_lost-2.result
unfolding momentum_sum left_depth right_depth
crosses c =
    let s = c.args in
    let a = c.fluxes_of-a.ensures in
    let b = c.fluxes_of-b.ensures in
    let hl = left_is (goal.at.After-thrust_lost-2 c).After-reduced_depth-hl in
    let hr = right_is (goal.at.After-thrust_lost-2 c).After-reduced_depth-hr in
    let turned = sym (sub_neg s.r.right s.r.left) in
    let water : ℕ → ℤ → ℕ = λ h u. water_flux s.t s.x h u in
    let push : ℕ → ℤ → ℕ = λ h u. momentum_flux s.t s.x h u in
    let ul = sub_ℕ s.l.right s.l.left in
    record {
      rightward_is = a.0 ∙ ap (λ (h : ℕ). water h ul) hl;
      leftward_is = b.0 ∙ ap₂ water hr turned;
      momentum_is = ap₂ ◌+◌ (a.1 ∙ ap (λ (h : ℕ). push h ul) hl) (b.1 ∙ ap₂ push hr turned);
      lost_left_is = c.thrust_lost.ensures ∙ ap (λ (h : ℕ). still_thrust s.t s.x s.l.depth - still_thrust s.t s.x h) hl;
      lost_right_is = c.thrust_lost-2.ensures ∙ ap (λ (h : ℕ). still_thrust s.t s.x s.r.depth - still_thrust s.t s.x h) hr;
    }

pub invariant_of-result-2 : goal.invariant_of-result-2
invariant_of-result-2 c =
    record { fits = crossing_fits c.args.l c.args.r c.requires.mesh (crosses (goal.at.invariant_of-result-2 c).After-thrust_lost-2) }

pub returns : goal.returns
returns c = crosses (goal.at.returns c).After-thrust_lost-2

pub reduced_wave-al-requires : goal.reduced_wave-al-requires
reduced_wave-al-requires c =
    (left-deep (goal.at.reduced_wave-al-requires c).After-reduced_depth-hl, c.args.l.fits.wave)

pub reduced_wave-ar-requires : goal.reduced_wave-ar-requires
reduced_wave-ar-requires c =
    (right-deep (goal.at.reduced_wave-ar-requires c).After-reduced_depth-hr, c.args.r.fits.wave)

pub thrust_lost-requires-clause-flow : goal.thrust_lost-requires-clause-flow
thrust_lost-requires-clause-flow c =
    let p = c.args.l.fits in (
      record { depth = p.depth; wave = p.wave; right_most = omega arith; left_most = omega arith },
      (record { depth = (left-flow (goal.at.thrust_lost-requires-clause-flow c).After-reduced_wave-ar).depth; wave = (left-flow (goal.at.thrust_lost-requires-clause-flow c).After-reduced_wave-ar).wave; right_most = omega arith; left_most = omega arith }, left_le (goal.at.thrust_lost-requires-clause-flow c).After-reduced_depth-hl),
    )

pub thrust_lost-requires-2-clause-flow : goal.thrust_lost-requires-2-clause-flow
thrust_lost-requires-2-clause-flow c =
    let p = c.args.r.fits in (
      record { depth = p.depth; wave = p.wave; right_most = omega arith; left_most = omega arith },
      (record { depth = (right-flow (goal.at.thrust_lost-requires-2-clause-flow c).After-reduced_wave-ar).depth; wave = (right-flow (goal.at.thrust_lost-requires-2-clause-flow c).After-reduced_wave-ar).wave; right_most = omega arith; left_most = omega arith }, right_le (goal.at.thrust_lost-requires-2-clause-flow c).After-reduced_depth-hr),
    )
