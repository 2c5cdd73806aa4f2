-- `flux::velocity::velocity_parts` meets its contract. Assumes nothing.
use mathlib.Core.Path.{sym, ◌∙◌}
use mir.Facts.{to_z-of_z}
use Rattle.flux.proofs.VelocityLaws.{dry_parts, leftward_parts, rightward_parts}
use Rattle.flux.proofs.velocity.velocity_parts.Goals as goal

pub returns-then-h-eq0 : goal.returns-then-h-eq0
returns-then-h-eq0 c =
    let none = c.default.ensures in
    let dry = dry_parts c.args.h c.args.q c.if-h-eq0.true in (none.0 ∙ dry.0, none.1 ∙ dry.1)

pub returns-then-right-eq0 : goal.returns-then-right-eq0
returns-then-right-eq0 c =
    let right = rw (to_z-of_z c.ranges.q) at c.right_part-right.ensures in
    leftward_parts c.args.h c.args.q c.left_part.result (sym right ∙ c.if-right-eq0.true) (rw (to_z-of_z c.ranges.q) at c.left_part.ensures)

pub returns : goal.returns
returns c =
    rightward_parts c.args.h c.args.q c.right_part-right.result c.if-right-eq0.false (rw (to_z-of_z c.ranges.q) at c.right_part-right.ensures)
