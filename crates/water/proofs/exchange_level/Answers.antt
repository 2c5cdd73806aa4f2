-- `water::exchange_level` meets its contract: at one bed level the reduced depths are the depths. Assumes nothing.
use mathlib.Core.Path.{◌≡◌, sym, ap, ap₂, ◌∙◌}
use mathlib.Core.Logic.{⊎_elim}
use Prim.Native.Nat.{ℕ, ◌+◌, ◌-◌}
use native.Mathlib.Omega.{arith}
use lib.IntN.{ℤ, ◌-ℤ◌, sub_ℕ}
use Rattle.numbers.proofs.SignedLaws.{R, minus_cross, one_part, sub_neg}
use Rattle.flux.specs.Crossing.{water_flux, momentum_flux, still_thrust}
use Rattle.flux.specs.Interface.{reduced_depth, left_depth, right_depth, momentum_sum}
use Rattle.flux.specs.Ranges.{Flow}
use Rattle.flux.proofs.CrossingLaws.{momentum_flux_small}
use Rattle.flux.proofs.InterfaceLaws.{reduced_depth_is}
use Rattle.water.specs.Ranges.{side_of, ExchangeOf}
use Rattle.water.proofs.WaterLaws.{crossing_fits}
use Rattle.water.proofs.exchange_level.Goals as goal
use Rattle.water.proofs.exchange_level.Goals.{After-fluxes_of-b, Start}

level : (h : ℕ) (z : ℤ) → h - R (z -ℤ z) ≡ h
level h z = ⊎_elim (λ e. omega (arith, e)) (λ e. omega (arith, e, minus_cross z z)) (one_part (z -ℤ z))

not_reduced : (h : ℕ) (z w : ℤ) → z ≡ w → reduced_depth h z w ≡ h
not_reduced h z w e = rw e (reduced_depth_is h w w ∙ level h w)

left-flow : (s : Start) → Flow s.args.l.depth s.args.l.wave s.args.l.right s.args.l.left
left-flow s = let p = s.args.l.fits in record { depth = p.depth; wave = p.wave; right_most = p.right_most; left_most = p.left_most }

right-flow : (s : Start) → Flow s.args.r.depth s.args.r.wave s.args.r.left s.args.r.right
right-flow s = let p = s.args.r.fits in record { depth = p.depth; wave = p.wave; right_most = p.left_most; left_most = p.right_most }

pub overflow_add-result : goal.overflow_add-result
overflow_add-result c =
    let g = c.requires.mesh in
    omega (arith, c.fluxes_of-a.ensures.1, c.fluxes_of-b.ensures.1, momentum_flux_small g (left-flow (goal.at.overflow_add-result c).Start), momentum_flux_small g (right-flow (goal.at.overflow_add-result c).Start))

-- what crosses
crosses : (c : After-fluxes_of-b) →
    let s = c.args in
    ExchangeOf s.t s.x (side_of s.l) (side_of s.r) c.fluxes_of-a.result.water c.fluxes_of-b.result.water (c.fluxes_of-a.result.momentum + c.fluxes_of-b.result.momentum) 0 0
unfolding momentum_sum left_depth right_depth
crosses c =
    let s = c.args in
    let a = c.fluxes_of-a.ensures in
    let b = c.fluxes_of-b.ensures in
    let hl = not_reduced s.l.depth s.l.bed s.r.bed c.requires.span_of.1 in
    let hr = not_reduced s.r.depth s.r.bed s.l.bed (sym c.requires.span_of.1) in
    let turned = sym (sub_neg s.r.right s.r.left) in
    let water : ℕ → ℤ → ℕ = λ h u. water_flux s.t s.x h u in
    let push : ℕ → ℤ → ℕ = λ h u. momentum_flux s.t s.x h u in
    let thrust : ℕ → ℕ = λ h. still_thrust s.t s.x h in
    let ul = sub_ℕ s.l.right s.l.left in
    record {
      rightward_is = a.0 ∙ ap (λ (h : ℕ). water h ul) (sym hl);
      leftward_is = b.0 ∙ ap₂ water (sym hr) turned;
      momentum_is = ap₂ ◌+◌ (a.1 ∙ ap (λ (h : ℕ). push h ul) (sym hl)) (b.1 ∙ ap₂ push (sym hr) turned);
      lost_left_is = omega (arith, ap thrust hl);
      lost_right_is = omega (arith, ap thrust hr);
    }

pub invariant_of-result : goal.invariant_of-result
invariant_of-result c = record { fits = crossing_fits c.args.l c.args.r c.requires.mesh (crosses (goal.at.invariant_of-result c).After-fluxes_of-b) }

pub returns : goal.returns
returns c = crosses (goal.at.returns c).After-fluxes_of-b
