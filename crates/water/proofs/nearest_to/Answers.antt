-- `water::nearest_to` meets its contract. Assumes nothing.
use mathlib.Core.Path.{◌≡◌, sym, ap, ◌∙◌}
use Prim.Native.Nat.{ℕ}
use native.Mathlib.Omega.{arith}
use lib.IntN.{pos, ◌-ℤ◌, neg_ℤ}
use mir.Syntax.{w64}
use mir.Val.{to_z, SFits}
use mir.Facts.{to_z-of_z, to_z_pos}
use borrow.Author.Rules.{sfits_of}
use Rattle.numbers.proofs.SignedLaws.{abs_neg, mag_abs, pos_minus, pos_sub, sub_neg}
use Rattle.water.proofs.WaterLaws.{nearest_clamped}
use Rattle.water.proofs.nearest_to.Goals as goal
use Rattle.water.proofs.nearest_to.Goals.{Start}

-- 0 − n
from_zero : (n : ℕ) → pos 0 -ℤ pos n ≡ neg_ℤ (pos n)
from_zero n = pos_minus 0 n ∙ sym (ap neg_ℤ (pos_sub n) ∙ sub_neg n 0)

-- the ends of the range as they are read
module _ (c : Start) where
  end_read : to_z w64 c.args.most ≡ pos c.args.most
  end_read = to_z_pos w64 c.requires

  start_fits : SFits w64 (neg_ℤ (pos c.args.most))
  start_fits = let n = pos c.args.most in record { sfits = omega (arith, mag_abs (neg_ℤ n), abs_neg n, c.requires) }

pub returns : goal.returns
returns c =
    let s = (goal.at.returns c).Start in
    to_z-of_z {w = w64} (sfits_of c.clamp.type_inv)
    ∙ (rw (end_read s, from_zero c.args.most, to_z-of_z (start_fits s), to_z-of_z c.ranges.z) at c.clamp.ensures.value)
    ∙ nearest_clamped c.args.most c.args.z
