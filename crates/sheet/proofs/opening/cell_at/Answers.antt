-- `sheet::opening::cell_at` meets its contract. Assumes nothing.
use mir.Syntax.{w64}
use mathlib.Core.Path.{◌∙◌}
use mir.Facts.{to_z-of_z}
use borrow.Author.Rules.{sfits_of}
use Rattle.sheet.proofs.OpeningLaws.{cell_at_is}
use Rattle.sheet.proofs.opening.cell_at.Goals as goal

pub returns : goal.returns
returns c =
    let s = c.args in
    rw (to_z-of_z {w = w64} (sfits_of c.read_signed.type_inv), to_z-of_z {w = w64} (sfits_of c.read_signed-2.type_inv)) at c.cell_fits.ensures
    ∙ cell_at_is s.s.now s.l s.i c.read_signed.ensures c.read_number-h.ensures.0 c.read_signed-2.ensures c.read_number.ensures.0
