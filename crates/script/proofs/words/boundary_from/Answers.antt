-- `script::words::boundary_from` meets its contract. Assumes nothing.
use mathlib.Core.Path.{refl}
use mir.Facts.{to_z-of_z}
use mir.Syntax.{w64}
use borrow.Author.Rules.{sfits_of}
use Rattle.encoding.specs.FromBytes.{twos}
use Rattle.script.specs.Script.{boundary_from}
use Rattle.script.proofs.words.boundary_from.Goals as goal

pub returns : goal.returns
unfolding boundary_from twos
returns c = rw (to_z-of_z {w = w64} (sfits_of c.twos_in.type_inv), c.twos_in.ensures) refl
