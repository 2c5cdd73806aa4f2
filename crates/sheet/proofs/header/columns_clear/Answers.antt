-- `sheet::header::columns_clear` meets its contract. Assumes nothing.
use mathlib.Core.Path.{sym}
use Rattle.sheet.proofs.HeaderLaws.{four_clear}
use Rattle.sheet.proofs.header.columns_clear.Goals as goal

pub returns : goal.returns
returns c =
    rw (c.inside.ensures, c.apart.ensures, c.apart-2.ensures, c.apart-3.ensures, c.inside-2.ensures, c.apart-4.ensures, c.apart-5.ensures, c.inside-3.ensures, c.apart-6.ensures, c.inside-4.ensures)
    (sym (four_clear _ _ _ _ _))
