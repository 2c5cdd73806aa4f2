-- `sheet::header::inside` meets its contract. Assumes nothing.
use mathlib.Core.Path.{refl}
use Rattle.sheet.specs.Header.{inside}
use Rattle.sheet.proofs.header.inside.Goals as goal

pub returns : goal.returns
unfolding inside
returns c = refl
