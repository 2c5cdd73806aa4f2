-- `flux::interface::reduced_depth` meets its contract: `reduced_depth_is`. Assumes nothing.
use mathlib.Core.Path.{◌≡◌}
use native.Mathlib.Omega.{arith}
use lib.IntN.{◌-ℤ◌, neg_ℤ}
use mir.Syntax.{w64}
use mir.Val.{to_z, of_z, SFits}
use mir.Facts.{to_z-of_z}
use Rattle.numbers.proofs.SignedLaws.{abs_add, abs_neg, mag_abs}
use Rattle.flux.proofs.InterfaceLaws.{reduced_depth_is}
use Rattle.flux.proofs.interface.reduced_depth.Goals as goal
use Rattle.flux.proofs.interface.reduced_depth.Goals.{Start}

diff_is : (c : Start) → to_z w64 (of_z w64 c.args.beside) -ℤ to_z w64 (of_z w64 c.args.z) ≡ c.args.beside -ℤ c.args.z
diff_is c = rw (to_z-of_z c.ranges.beside, to_z-of_z c.ranges.z)

diff-fits : (c : Start) → SFits w64 (c.args.beside -ℤ c.args.z)
diff-fits c =
    let a = abs_add c.args.beside (neg_ℤ c.args.z) in
    let b = abs_neg c.args.z in
    let m = mag_abs (c.args.beside -ℤ c.args.z) in
    record { sfits = omega arith }

pub returns : goal.returns
returns c =
    omega (
      arith,
      c.saturating_sub.ensures,
      rw (diff_is (goal.at.returns c).Start, to_z-of_z (diff-fits (goal.at.returns c).Start)) at c.right_part.ensures,
      reduced_depth_is c.args.h c.args.z c.args.beside,
    )
