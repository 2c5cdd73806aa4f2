-- `flux::crossing::fluxes_of` meets its contract. Assumes nothing.
use mathlib.Core.Path.{sym, ap, ◌∙◌}
use Prim.Native.Nat.{ℕ}
use native.Mathlib.Nat.{pos_of_ne-zero}
use native.Mathlib.Omega.{arith}
use lib.IntN.{sub_ℕ}
use Rattle.flux.specs.Crossing.{water_flux, momentum_flux, momentum_of}
use Rattle.flux.specs.Ranges.{Spectrum}
use Rattle.flux.proofs.WaveLaws.{wave_speed_most}
use Rattle.flux.proofs.CrossingLaws.{water_flux_dry, momentum_flux_dry, water_flux_of, momentum_flux_of, spectrum_with, moment_most_lem}
use Rattle.flux.proofs.crossing.fluxes_of.Goals as goal
use Rattle.flux.proofs.crossing.fluxes_of.Goals.{After-rightgoing_of-s}

spectrum : (c : After-rightgoing_of-s) →
    Spectrum c.args.a c.rightgoing_of-s.result.upper c.rightgoing_of-s.result.lower
spectrum c =
    spectrum_with c.requires.1.1 (pos_of_ne-zero c.if-h-eq0.false) c.rightgoing_of-s.ensures.0 c.rightgoing_of-s.ensures.1

pub returns-then-h-eq0 : goal.returns-then-h-eq0
returns-then-h-eq0 c =
    let s = c.args in
    let none = c.default.ensures in
    let u = sub_ℕ s.right s.left in (
      none.0 ∙ sym (ap (λ (h : ℕ). water_flux s.t s.x h u) c.if-h-eq0.true ∙ water_flux_dry s.t s.x u),
      none.1 ∙ sym (ap (λ (h : ℕ). momentum_flux s.t s.x h u) c.if-h-eq0.true ∙ momentum_flux_dry s.t s.x u),
    )

pub rightgoing_of-s-requires : goal.rightgoing_of-s-requires
rightgoing_of-s-requires c = let f = c.requires.1.1 in omega (arith, f.wave, wave_speed_most _ f.depth)

pub water_of-requires : goal.water_of-requires
water_of-requires c = (c.requires.0, (c.requires.1.1.depth, spectrum (goal.at.water_of-requires c).After-rightgoing_of-s))

pub second_moment-requires : goal.second_moment-requires
second_moment-requires c = spectrum (goal.at.second_moment-requires c).After-rightgoing_of-s

pub momentum_of-requires : goal.momentum_of-requires
momentum_of-requires c =
    let s = c.requires in
    let e = c.second_moment.ensures in
    let k = moment_most_lem (spectrum (goal.at.momentum_of-requires c).After-rightgoing_of-s) in
    (s.0, (s.1.0, (s.1.1.depth, omega arith)))

pub returns : goal.returns
returns c =
    let e = c.rightgoing_of-s.ensures in
    let k = ap (λ (k : ℕ). momentum_of c.args.t c.args.x c.args.h k) c.second_moment.ensures in (
      c.water_of.ensures ∙ water_flux_of _ _ c.requires.1.1 e.0 e.1,
      c.momentum_of.ensures ∙ k ∙ momentum_flux_of _ _ c.requires.1.1 e.0 e.1,
    )
