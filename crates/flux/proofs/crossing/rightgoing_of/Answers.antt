-- `flux::crossing::rightgoing_of` meets its contract. Assumes nothing.
use mathlib.Core.Path.{◌≡◌, ◌∙◌}
use Prim.Native.Nat.{◌+◌, ◌≤◌}
use native.Mathlib.Omega.{arith}
use borrow.Author.Rules.{sfits_of}
use lib.IntN.{ℤ, pos, ◌+ℤ◌, ◌-ℤ◌, neg_ℤ, sub_ℕ, nat_abs}
use mir.Syntax.{w64}
use mir.Val.{SFits, to_z, of_z}
use mir.Facts.{to_z-of_z, to_z_pos}
use Rattle.numbers.proofs.SignedLaws.{abs_add, abs_neg, abs_sub, mag_abs}
use Rattle.flux.specs.Crossing.{upper, lower}
use Rattle.flux.specs.Ranges.{wave_most}
use Rattle.flux.specs.Limits.{velocity_most}
use Rattle.flux.proofs.crossing.rightgoing_of.Goals as goal
use Rattle.flux.proofs.crossing.rightgoing_of.Goals.{After-joined-velocity}

fits : (z : ℤ) → nat_abs z ≤ velocity_most + wave_most → SFits w64 z
fits z l = record { sfits = omega (arith, mag_abs z, l) }

-- u and a, as they were joined and as they are read
module _ (c : After-joined-velocity) where
  abbrev u : ℤ
  u = sub_ℕ c.args.right c.args.left

  abbrev a : ℤ
  a = pos c.args.a

  u_read : to_z w64 (of_z w64 c.joined-velocity.result) ≡ u
  u_read = to_z-of_z {w = w64} (sfits_of c.joined-velocity.type_inv) ∙ c.joined-velocity.ensures

  a_read : to_z w64 c.args.a ≡ a
  a_read = to_z_pos w64 (omega (arith, c.requires.0))

  sum_fits : SFits w64 (u +ℤ a)
  sum_fits = fits (u +ℤ a) (omega (arith, abs_add u a, abs_sub c.args.right c.args.left, c.requires))

  difference_fits : SFits w64 (u -ℤ a)
  difference_fits = fits (u -ℤ a) (omega (arith, abs_add u (neg_ℤ a), abs_neg a, abs_sub c.args.right c.args.left, c.requires))

pub returns : goal.returns
unfolding upper lower
returns c = (
  rw (u_read (goal.at.returns c).After-joined-velocity, a_read (goal.at.returns c).After-joined-velocity, to_z-of_z (sum_fits (goal.at.returns c).After-joined-velocity)) at c.right_part.ensures,
  rw (u_read (goal.at.returns c).After-joined-velocity, a_read (goal.at.returns c).After-joined-velocity, to_z-of_z (difference_fits (goal.at.returns c).After-joined-velocity)) at c.right_part-2.ensures,
)
