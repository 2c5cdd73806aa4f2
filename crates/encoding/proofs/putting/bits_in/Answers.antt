-- `encoding::putting::bits_in` meets its contract. Assumes nothing.
use mathlib.Core.Path.{ap, ◌∙◌}
use Prim.Native.Nat.{ℕ, ◌+◌, ◌-◌}
use mir.Facts.{to_z-of_z}
use Rattle.encoding.proofs.ToBytesLaws.{bits_above, bits_below}
use Rattle.encoding.proofs.putting.bits_in.Goals as goal

pub returns-then-z-lt0 : goal.returns-then-z-lt0
returns-then-z-lt0 c =
    let a = c.args in
    let e = to_z-of_z c.ranges.z in
    ap (λ (n : ℕ). a.half - n + a.half) (rw e at c.unsigned_abs.ensures.value) ∙ bits_below a.half a.z (rw e at c.if-z-lt0.true) c.requires.1

pub returns-else-z-lt0 : goal.returns-else-z-lt0
returns-else-z-lt0 c = let e = to_z-of_z c.ranges.z in rw e (bits_above _ c.args.z (rw e at c.if-z-lt0.false))
