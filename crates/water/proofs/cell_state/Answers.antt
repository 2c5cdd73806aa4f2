-- `water::cell_state` meets its contract. Assumes nothing.
use mathlib.Core.Path.{◌≡◌, refl, sym, ap₂, ◌∙◌}
use mathlib.Core.Logic.{⊎_elim}
use Prim.Native.Nat.{ℕ, ◌+◌}
use native.Mathlib.Omega.{arith}
use lib.IntN.{ℤ, neg_ℤ, sub_ℕ, nat_abs}
use mir.Facts.{to_z-of_z}
use Rattle.numbers.specs.Signed.{positive}
use Rattle.numbers.proofs.SignedLaws.{abs_parts, abs_sub, one_part, two_parts}
use Rattle.flux.specs.Velocity.{velocity}
use Rattle.flux.specs.Interface.{Side}
use Rattle.flux.proofs.VelocityLaws.{velocity_most_lem}
use Rattle.water.proofs.cell_state.Goals as goal

side_at : (z : ℤ) (h : ℕ) {u v : ℤ} → u ≡ v → ◌≡◌ {A = Side} (record { bed = z; depth = h; velocity = u }) (record { bed = z; depth = h; velocity = v })
side_at z h e = rw e refl

size : (u : ℤ) {r l : ℕ} → r ≡ positive u → l ≡ positive (neg_ℤ u) → nat_abs (sub_ℕ r l) ≡ r + l
size u {r} {l} e f = ⊎_elim (λ z. omega (arith, abs_sub r l, e, f, z)) (λ z. omega (arith, abs_sub r l, e, f, z)) (one_part u)

pub invariant_of-result : goal.invariant_of-result
invariant_of-result c =
    let u = velocity c.args.h c.args.q in
    let v = rw (to_z-of_z c.ranges.q) at c.velocity_parts-u.ensures in
    let m = velocity_most_lem 8_000 c.args.h c.args.q c.requires.1.1 in
    let a = abs_parts u in
    record {
      fits = rw (to_z-of_z c.ranges.z) record {
        bed = c.requires.0;
        depth = c.requires.1.0;
        wave = c.wave_speed.ensures;
        right_most = omega arith;
        left_most = omega arith;
        speed = size u v.0 v.1;
      };
    }

pub returns : goal.returns
returns c =
    let v = rw (to_z-of_z c.ranges.q) at c.velocity_parts-u.ensures in
    rw (to_z-of_z c.ranges.z) (side_at c.args.z c.args.h (ap₂ sub_ℕ v.0 v.1 ∙ sym (two_parts (velocity c.args.h c.args.q))))
