-- `friction::slow` meets its contract: nothing is lost without friction, all where D is 0, and otherwise D/(D+E) is left of the part that there is.
-- Assumes nothing.
use mathlib.Core.Path.{sym, ◌∙◌}
use mir.Facts.{to_z-of_z}
use mir.Syntax.{w64}
use borrow.Author.Rules.{sfits_of}
use Rattle.friction.specs.Friction.{drag}
use Rattle.friction.proofs.FrictionLaws.{slowed_none, slowed_all, leftward_kept, rightward_kept}
use Rattle.friction.proofs.slow.Goals as goal

pub returns-then-f-eq0 : goal.returns-then-f-eq0
returns-then-f-eq0 c = rw c.if-f-eq0.true (to_z-of_z c.ranges.p ∙ sym (slowed_none c.args.d (drag c.args.t c.args.v) c.args.p))

pub returns-then-d-eq0 : goal.returns-then-d-eq0
returns-then-d-eq0 c = rw c.if-d-eq0.true (sym (slowed_all c.args.f (drag c.args.t c.args.v) c.args.p c.if-f-eq0.false))

pub returns-then-right-eq0 : goal.returns-then-right-eq0
returns-then-right-eq0 c =
    let e = to_z-of_z c.ranges.p in
    let none = sym (rw e at c.right_part-right.ensures) ∙ c.if-right-eq0.true in
    let kept = rw (rw e at c.left_part.ensures, c.drag_of-e.ensures.0) at c.kept.ensures in
    to_z-of_z {w = w64} {z = c.joined.result} (sfits_of c.joined.type_inv) ∙ c.joined.ensures
    ∙ leftward_kept c.args.f c.args.d (drag c.args.t c.args.v) c.kept.result c.args.p c.if-f-eq0.false c.if-d-eq0.false none kept

pub returns : goal.returns
returns c =
    let e = to_z-of_z c.ranges.p in
    let is = rw e at c.right_part-right.ensures in
    let kept = rw (is, c.drag_of-e.ensures.0) at c.kept-2.ensures in
    to_z-of_z {w = w64} {z = c.joined-2.result} (sfits_of c.joined-2.type_inv) ∙ c.joined-2.ensures
    ∙ rightward_kept c.args.f c.args.d (drag c.args.t c.args.v) c.kept-2.result c.args.p c.if-f-eq0.false c.if-d-eq0.false (λ z. c.if-right-eq0.false (is ∙ z)) kept
