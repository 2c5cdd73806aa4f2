-- `cfl::fastest_of` meets its contract. The loop keeps the fastest place among those passed, and its speed. Assumes nothing.
use mathlib.Core.Path.{◌≡◌, refl, sym, ◌∙◌}
use Prim.Native.Nat.{ℕ, ◌+◌, ◌-◌, ◌≤◌}
use native.Mathlib.Omega.{arith}
use mir.Facts.{to_z-of_z}
use borrow.Author.Rules.{sfits_of}
use borrow.Author.Tests.{ltb-true, ltb-false}
use lib.IntN.{ℤ, pos}
use lib.ListN.{get_or}
use Rattle.flux.specs.Wave.{wave_speed}
use Rattle.cfl.specs.Cfl.{signal_speed, speed_at}
use Rattle.cfl.specs.Ranges.{Flowing}
use Rattle.cfl.proofs.CflLaws.{from_last, from_taken, from_passed, from_first, speed_of_cell, speed_of_right, signal_speed_most}
use Rattle.cfl.proofs.fastest_of.Goals as goal
use Rattle.cfl.proofs.fastest_of.Goals.{After-flow_speed-v}

-- |u|+a by place
abbrev speeds : After-flow_speed-v → ℕ → ℕ
speeds c = let a = c.args in speed_at a.depth.now a.discharge.now a.left a.right

-- the cell at hand
abbrev index : After-flow_speed-v → ℕ
index c = c.loop-i.i - 1

abbrev depth : After-flow_speed-v → ℕ
depth c = get_or c.args.depth.now (index c) 0

abbrev discharge : After-flow_speed-v → ℤ
discharge c = get_or c.args.discharge.now (index c) (pos 0)

flowing : (c : After-flow_speed-v) → Flowing (depth c) (discharge c)
flowing c = c.requires.0.each _ (omega arith)

-- its |u| and a make the speed of its place
cell : (c : After-flow_speed-v) →
    let v = c.flow_speed-v.result + wave_speed (depth c) in (v ≡ speeds c (index c + 1)) × (v ≤ 16_000)
unfolding signal_speed
cell c =
    let a = c.args in
    let u = rw (to_z-of_z (sfits_of c.flow_speed-arg-1.given)) at c.flow_speed-v.ensures in
    let here = speed_of_cell a.depth.now a.discharge.now a.left a.right (index c) (omega arith) in
    (omega arith, omega (arith, signal_speed_most (depth c) (discharge c) (flowing c).depth (flowing c).discharge))

pub loop-i-init : goal.loop-i-init
loop-i-init c =
    let a = c.args in
    (omega arith, from_last _ _ _ _ (omega arith) (omega (arith, speed_of_right a.depth.now a.discharge.now a.left a.right)))

pub overflow_add-speed : goal.overflow_add-speed
overflow_add-speed c = omega (arith, c.wave_speed.ensures, (cell (goal.at.overflow_add-speed c).After-flow_speed-v).1)

pub loop-i-preserved-then-is_above : goal.loop-i-preserved-then-is_above
loop-i-preserved-then-is_above c =
    let l = c.loop-i in
    let a = c.wave_speed.ensures in
    let w = cell (goal.at.loop-i-preserved-then-is_above c).After-flow_speed-v in
    let above = sym c.is_above.ensures ∙ c.if-is_above.true in
    (omega arith, from_taken _ _ _ _ _ _ _ _ l.invariant.1 (omega arith) (omega arith) (omega arith) (omega arith) (omega (arith, ltb-true)))

pub loop-i-preserved : goal.loop-i-preserved
loop-i-preserved c =
    let l = c.loop-i in
    let notAbove = sym c.is_above.ensures ∙ c.if-is_above.false in
    (omega arith, from_passed _ _ _ _ _ _ _ l.invariant.1 (omega arith) (cell (goal.at.loop-i-preserved c).After-flow_speed-v).0 (omega (arith, ltb-false)))

pub returns-then-speed-left : goal.returns-then-speed-left
unfolding speed_at
returns-then-speed-left c = from_first _ _ _ _ (from_taken _ _ _ _ _ _ _ _ c.loop-i.invariant.1 (omega arith) (omega arith) (omega arith) refl (omega arith))

pub returns : goal.returns
unfolding speed_at
returns c = from_first _ _ _ _ (from_passed _ _ _ _ _ _ _ c.loop-i.invariant.1 (omega arith) refl (omega arith))
