-- `sheet::header::check_size` meets its contract: what it tests is what the sheet says. Assumes nothing.
use mathlib.Core.Path.{◌≡◌, refl}
use mathlib.Core.List.{[], ◌∷◌}
use lib.Dec.{leb, eqb}
use lib.ListN.{length}
use borrow.Author.Rules.{rules}
use Rattle.numbers.specs.Index.{all_of}
use Rattle.reach.specs.Limits.{cells_most}
use Rattle.sheet.specs.Header.{size_fits, sheet_size}
use Rattle.sheet.proofs.header.check_size.Goals as goal
use Rattle.sheet.proofs.header.check_size.Goals.{After-read_number-size}

as_read : (c : After-read_number-size) →
    let s = c.args.s.now in
    let n = c.count_of-n.result in
    let size = c.read_number-size.result in
    size_fits s ≡ all_of (leb 1 n ∷ leb n cells_most ∷ eqb size (length s) ∷ eqb size (sheet_size n) ∷ [])
unfolding size_fits
as_read c = rw (c.count_of-n.ensures.0, c.read_number-size.ensures.0) refl

pub returns : goal.returns
unfolding all_of sheet_size
returns c = rw (as_read (goal.at.returns c).After-read_number-size) (search rules)
