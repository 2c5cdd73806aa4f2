-- `text::Writer::signed` meets its contract: a sign, and the digits behind it. Assumes nothing.
use mir.Facts.{to_z-of_z}
use Rattle.text.proofs.TextLaws.{adds_more, signed_minus, signed_plain}
use Rattle.text.proofs.Writer.signed.Goals as goal
use Rattle.text.proofs.Writer.signed.Goals.{then-z-lt0, else-z-lt0}

pub returns-clause-adds : goal.returns-clause-adds
returns-clause-adds c =
    let e = to_z-of_z c.ranges.z in
    let d = rw (rw e at c.unsigned_abs.ensures.value) at c.decimal.ensures.adds in
    elim c.if-z-lt0.branch [
      | then-z-lt0 w ↦ rw (signed_minus c.args.z (rw e at w.if-z-lt0.true)) (adds_more w.byte.ensures (rw w.self-is at d))
      | else-z-lt0 w ↦ rw (signed_plain c.args.z (rw e at w.if-z-lt0.false)) (rw w.self-is at d)
    ]
