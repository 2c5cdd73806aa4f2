-- `timestep::boundary_speed` meets its contract. Assumes nothing.
use mathlib.Core.Path.{◌≡◌, sym, ap, ◌∙◌}
use Prim.Native.Nat.{◌+◌, ◌≤◌}
use native.Mathlib.Omega.{arith}
use Rattle.flux.proofs.WaveLaws.{wave_speed_most}
use Rattle.water.specs.Ranges.{side_of}
use Rattle.water.specs.Sides.{side_speed}
use Rattle.water.specs.declared.sides.SideState.{SideState}
use Rattle.timestep.proofs.GreatestLaws.{speed_fed, speed_other}
use Rattle.timestep.proofs.boundary_speed.Goals as goal
use Rattle.timestep.proofs.boundary_speed.Goals.{After-struct_known-3-1}

-- |u| + a of a side, by its parts, of which one is 0
speed : (c : SideState) → (c.right + c.left + c.wave ≡ side_speed (side_of c)) × (c.right + c.left + c.wave ≤ 24_000)
unfolding side_speed
speed c = let f = c.fits in (omega (arith, f.speed, f.wave), omega (arith, f.right_most, f.left_most, f.wave, wave_speed_most c.depth f.depth))

found : (c : After-struct_known-3-1) →
    let b = c.boundary_state-side.result in
    (b.right + b.left + b.wave ≡ side_speed (side_of b)) × (b.right + b.left + b.wave ≤ 24_000)
found c = speed c.boundary_state-side.result

pub returns-then-e-ne-FED : goal.returns-then-e-ne-FED
returns-then-e-ne-FED c = sym (speed_other c.args.p c.args.e _ c.if-e-ne-FED.true)

pub overflow_add-result-2 : goal.overflow_add-result-2
overflow_add-result-2 c = omega (arith, (found (goal.at.overflow_add-result-2 c).After-struct_known-3-1).1)

pub returns : goal.returns
returns c =
    let a = c.args in
    (found (goal.at.returns c).After-struct_known-3-1).0 ∙ ap side_speed c.boundary_state-side.ensures ∙ sym (speed_fed a.p a.e _ c.if-e-ne-FED.false)
