-- `sheet::header::read_boundary` meets its contract. Assumes nothing.
use mir.Syntax.{w64}
use mathlib.Core.Path.{refl}
use mir.Facts.{to_z-of_z}
use Rattle.sheet.specs.Header.{boundary_at}
use borrow.Author.Rules.{sfits_of}
use Rattle.sheet.proofs.header.read_boundary.Goals as goal

pub returns : goal.returns
unfolding boundary_at
returns c =
    rw (to_z-of_z {w = w64} (sfits_of c.read_signed.type_inv), c.read_signed.ensures, c.read_number-4.ensures.0, c.read_number-3.ensures.0, c.read_number-2.ensures.0, c.read_number.ensures.0) refl
