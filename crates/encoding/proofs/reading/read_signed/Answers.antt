-- `encoding::reading::read_signed` meets its contract. Assumes nothing.
use mathlib.Core.Path.{ap₂, ◌∙◌}
use mir.Facts.{to_z-of_z}
use mir.Syntax.{w64}
use borrow.Author.Rules.{sfits_of}
use Rattle.encoding.specs.FromBytes.{twos_in, twos}
use Rattle.encoding.proofs.reading.read_signed.Goals as goal

pub returns : goal.returns
unfolding twos
returns c = to_z-of_z {w = w64} (sfits_of c.twos_in.type_inv) ∙ c.twos_in.ensures ∙ ap₂ twos_in c.requires.half_bound.1 c.read_number.ensures.0
