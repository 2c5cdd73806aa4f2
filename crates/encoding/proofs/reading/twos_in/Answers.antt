-- `encoding::reading::twos_in` meets its contract. Assumes nothing.
use mathlib.Core.Path.{sym, ◌∙◌}
use Prim.Native.Nat.{◌-◌, ◌<◌}
use native.Mathlib.Omega.{arith}
use mir.Syntax.{w64}
use mir.Facts.{to_z_pos, to_z-of_z}
use Rattle.encoding.proofs.FromBytesLaws.{twos_low, twos_high, down, down_fits}
use Rattle.encoding.proofs.reading.twos_in.Goals as goal
use Rattle.encoding.proofs.reading.twos_in.Goals.{Else-v-half}

-- what is taken off −1
small : (c : Else-v-half) → let a = c.args in a.half - 1 - (a.v - a.half) < 9_223_372_036_854_775_808
small c = let l = c.if-v-half.false in omega (arith, l, c.requires.0, c.requires.1)

pub returns-then-v-half : goal.returns-then-v-half
returns-then-v-half c =
    let a = c.args in
    let l = c.if-v-half.true in
    let p : a.v < 9_223_372_036_854_775_808 = omega (arith, l, c.requires.0) in
    to_z_pos w64 p ∙ sym (twos_low a.half a.v l)

pub returns : goal.returns
returns c =
    let a = c.args in
    to_z-of_z (down_fits _ (small (goal.at.returns c).Else-v-half)) ∙ down _ (small (goal.at.returns c).Else-v-half) ∙ sym (twos_high a.half a.v c.if-v-half.false c.requires.1)
