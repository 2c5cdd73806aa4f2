-- Laws of an interface: the reduced depth is at most the depth, a wall passes no water, and a cell that meets CFL sends no more
-- than it holds, whatever stands beside it. Assumes nothing.
use mathlib.Core.Path.{◌≡◌, ap, ◌∙◌}
use mathlib.Core.Logic.{⊎_elim}
use Prim.Native.Nat.{ℕ, ◌+◌, ◌*◌, ◌-◌, ◌≤◌, ◌<◌}
use native.Mathlib.Omega.{arith}
use lib.IntN.{ℤ, pos, ◌+ℤ◌, ◌-ℤ◌, neg_ℤ, sub_ℕ, nat_abs, neg_ℤ-neg_ℤ, +ℤ_invr}
use Rattle.numbers.proofs.SignedLaws.{R, L, pos_cross, add_cross, minus_cross, one_part, le_cross, max_cases, pos_minus}
use Rattle.flux.specs.Wave.{wave_speed}
use Rattle.flux.specs.Crossing.{water_flux}
use Rattle.flux.specs.Interface.{Side, reduced_depth, left_depth, right_depth, net_water, mirrored}
use Rattle.flux.proofs.CrossingLaws.{outflow_le_depth}

-- max(0, h + z − m) for an m that is not below z
taken_off : (h : ℕ) (z m : ℤ) → R z + L m ≤ R m + L z → R (pos h +ℤ z -ℤ m) ≡ h - R (m -ℤ z)
taken_off h z m l =
    let a = minus_cross (pos h +ℤ z) m in
    let b = add_cross (pos h) z in
    let c = pos_cross h in
    let e = minus_cross m z in
    ⊎_elim
    (λ f. ⊎_elim (λ g. omega arith) (λ g. omega arith) (one_part (m -ℤ z)))
    (λ f. ⊎_elim (λ g. omega arith) (λ g. omega arith) (one_part (m -ℤ z)))
    (one_part (pos h +ℤ z -ℤ m))

-- h* is h less what the bed beside it stands higher
pub reduced_depth_is : (h : ℕ) (z w : ℤ) → reduced_depth h z w ≡ h - R (w -ℤ z)
unfolding reduced_depth
reduced_depth_is h z w =
    ⊎_elim
    (λ m. rw m.0 (taken_off h z w (le_cross z w m.1)))
    (λ m. rw m.0 (taken_off h z z (omega arith) ∙ not_higher (le_cross w z m.1)))
    (max_cases z w)
  where
    not_higher : R w + L z ≤ R z + L w → h - R (z -ℤ z) ≡ h - R (w -ℤ z)
    not_higher l =
        let e = minus_cross w z in
        let f = minus_cross z z in
        ⊎_elim
        (λ p. ⊎_elim (λ q. omega arith) (λ q. omega arith) (one_part (z -ℤ z)))
        (λ p. ⊎_elim (λ q. omega arith) (λ q. omega arith) (one_part (z -ℤ z)))
        (one_part (w -ℤ z))

pub reduced_depth_le : (h : ℕ) (z w : ℤ) → reduced_depth h z w ≤ h
reduced_depth_le h z w = omega (arith, reduced_depth_is h z w)

-- N by what either side sends
pub net_water_is : (t X : ℕ) (l r : Side) → net_water t X l r
    ≡ sub_ℕ (water_flux t X (left_depth l r) l.velocity) (water_flux t X (right_depth l r) (neg_ℤ r.velocity))
unfolding net_water
net_water_is t X l r =
    pos_minus (water_flux t X (left_depth l r) l.velocity) (water_flux t X (right_depth l r) (neg_ℤ r.velocity))

-- a wall passes nothing: the mirrored cell sends what the cell sends
pub wall_passes_nothing : (t X : ℕ) (s : Side) → (net_water t X s (mirrored s) ≡ pos 0) × (net_water t X (mirrored s) s ≡ pos 0)
unfolding net_water left_depth right_depth mirrored
wall_passes_nothing t X s =
    let sent : ℤ → ℕ = λ u. water_flux t X (reduced_depth s.depth s.bed s.bed) u in (
      ap (λ (u : ℤ). pos (sent s.velocity) -ℤ pos (sent u)) (neg_ℤ-neg_ℤ s.velocity) ∙ +ℤ_invr (pos (sent s.velocity)),
      +ℤ_invr (pos (sent (neg_ℤ s.velocity))),
    )

-- by both its interfaces a cell c between l and r sends at most its depth, where it meets CFL
pub cell_outflow_le_depth : (t X : ℕ) (l c r : Side) → 0 < X → t * (nat_abs c.velocity + wave_speed c.depth) ≤ 1_000 * X
    → water_flux t X (left_depth c r) c.velocity + water_flux t X (right_depth l c) (neg_ℤ c.velocity) ≤ c.depth
unfolding left_depth right_depth
cell_outflow_le_depth t X l c r x cfl =
    outflow_le_depth t X c.depth _ _ c.velocity x
    (reduced_depth_le c.depth c.bed r.bed)
    (reduced_depth_le c.depth c.bed l.bed)
    cfl
