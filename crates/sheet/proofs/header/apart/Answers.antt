-- `sheet::header::apart` meets its contract. Assumes nothing.
use mathlib.Core.Path.{refl}
use Rattle.sheet.specs.Header.{apart}
use Rattle.sheet.proofs.header.apart.Goals as goal

pub returns : goal.returns
unfolding apart
returns c = refl
