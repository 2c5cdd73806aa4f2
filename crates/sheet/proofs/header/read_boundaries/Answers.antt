-- `sheet::header::read_boundaries` meets its contract. Assumes nothing.
use mathlib.Core.Path.{refl}
use Rattle.sheet.specs.Header.{boundaries_of}
use Rattle.sheet.proofs.header.read_boundaries.Goals as goal

pub returns : goal.returns
unfolding boundaries_of
returns c = rw (c.read_boundary.ensures, c.read_boundary-2.ensures) refl
