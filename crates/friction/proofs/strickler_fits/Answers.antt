-- `friction::strickler_fits` meets its contract. Assumes nothing.
use mathlib.Core.Path.{sym, ◌∙◌, refl}
use borrow.Author.Tests.{le-leb, lt-leb}
use Rattle.numbers.proofs.IndexLaws.{on, off, only}
use Rattle.friction.proofs.FrictionLaws.{strickler_none, strickler_some}
use Rattle.friction.proofs.strickler_fits.Goals as goal

pub returns-then-f-eq0 : goal.returns-then-f-eq0
returns-then-f-eq0 c = rw c.if-f-eq0.true (sym (strickler_none _ refl))

pub returns-then-f-ge10 : goal.returns-then-f-ge10
returns-then-f-ge10 c = sym (strickler_some _ c.if-f-eq0.false ∙ on _ _ (le-leb _ _ c.if-f-ge10.true) (only _))

pub returns-else-f-ge10 : goal.returns-else-f-ge10
returns-else-f-ge10 c =
    let less = lt-leb _ _ c.if-f-ge10.false in less ∙ sym (strickler_some _ c.if-f-eq0.false ∙ off _ _ less)
