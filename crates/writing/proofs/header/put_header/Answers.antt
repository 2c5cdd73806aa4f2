-- `writing::header::put_header` meets its contract. Assumes nothing.
use Rattle.sheet.specs.Header.{sheet_size}
use Rattle.writing.proofs.WritingLaws.{header_written}
use Rattle.writing.proofs.header.put_header.Goals as goal

pub returns : goal.returns
unfolding sheet_size
returns c =
    let a = c.args in
    header_written a.n a.x a.boundaries a.out.now _ _ _ c.fill.ensures c.put_boundary.ensures c.put_boundary-2.ensures
