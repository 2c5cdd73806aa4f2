-- `drawing::dealing::unit_of` meets its contract. Assumes nothing.
use mathlib.Core.Path.{◌≡◌, refl}
use mathlib.Core.Bool.{Bool, true, false, cond, and-true, and-false}
use mir.Val.{bool_byte}
use lib.Dec.{ltb}
use borrow.Author.Tests.{lt-ltb, le-ltb}
use Rattle.numbers.specs.Deal.{has_unit}
use Rattle.drawing.proofs.dealing.unit_of.Goals as goal
use Rattle.drawing.proofs.dealing.unit_of.Goals.{then-left-gt0, else-left-gt0}

as_unit : (b : Bool) → bool_byte b ≡ cond b 1 0
as_unit true = refl
as_unit false = refl

pub returns : goal.returns
unfolding has_unit
returns c =
    elim c.if-left-gt0.branch [
      | then-left-gt0 w ↦ rw (c.from.ensures, w.from-is, lt-ltb 0 c.args.left w.if-left-gt0.true, and-true) (as_unit (ltb 0 c.args.want))
      | else-left-gt0 w ↦ rw (c.from.ensures, w.from-is, le-ltb 0 c.args.left w.if-left-gt0.false, and-false) refl
    ]
