-- `writing::header::put_boundary` meets its contract. Assumes nothing.
use mathlib.Core.Path.{sym, ◌∙◌, ap}
use mathlib.Core.List.{[], ◌∷◌, ◌++◌}
use Prim.Native.Nat.{ℕ}
use native.Mathlib.Omega.{arith}
use mir.Syntax.{w64}
use mir.Val.{SFits}
use mir.Facts.{to_z-of_z}
use Rattle.numbers.proofs.SignedLaws.{mag_abs}
use Rattle.encoding.specs.ToBytes.{bits, column_bytes, written}
use Rattle.writing.specs.Writing.{boundary_bytes}
use Rattle.encoding.proofs.ToBytesLaws.{length_column, written_part}
use Rattle.writing.proofs.header.put_boundary.Goals as goal

pub returns : goal.returns
unfolding boundary_bytes bits
returns c =
    let e = c.args.e in
    let b = c.bits_in in
    let p = column_bytes 4 (e.kind ∷ e.depth ∷ e.concentration ∷ 0 ∷ []) in
    let f : SFits w64 e.discharge = record { sfits = omega (arith, mag_abs e.discharge, c.requires.1) } in
    written_part p (column_bytes 8 (b.result ∷ [])) c.args.out.now _ _ 16 (sym (length_column 4 _)) (rw c.from.ensures at c.fill.ensures) c.fill-2.ensures
    ∙ ap (λ (x : ℕ). written (p ++ column_bytes 8 (x ∷ [])) c.args.out.now) (b.ensures ∙ ap (bits 8) (to_z-of_z f))
