-- `reach::carried::carried_fits` meets its contract: each test by the parts of its sides, then `uncovered` and `covered`. Assumes nothing.
use mathlib.Core.Path.{◌≡◌, ◌∙◌}
use mathlib.Core.Logic.{⊎_elim}
use Prim.Native.Nat.{◌+◌, ◌≤◌}
use native.Mathlib.Omega.{arith}
use lib.IntN.{ℤ, pos, ◌+ℤ◌, ◌-ℤ◌, neg_ℤ, nat_abs}
use mir.Syntax.{w64}
use mir.Val.{SFits, to_z, of_z}
use mir.Facts.{to_z-of_z, to_z_pos}
use Rattle.numbers.proofs.SignedLaws.{R, L, abs_parts, abs_add, abs_neg, one_part, add_cross, minus_cross, pos_cross, lt_z_true, lt_z_false}
use Rattle.reach.proofs.CarriedLaws.{crossed_test, small_fits, same_word, uncovered, covered}
use Rattle.reach.proofs.carried.carried_fits.Goals as goal
use Rattle.reach.proofs.carried.carried_fits.Goals.{Start}

-- what the machine computes
module _ (s : Start) where
  abbrev kept : ℤ
  kept = pos s.args.b -ℤ pos s.args.drawn

  abbrev level : ℤ
  level = kept +ℤ s.args.l

  abbrev found : ℤ
  found = level -ℤ pos s.args.h

  kept_parts : R kept + s.args.drawn ≡ s.args.b + L kept
  kept_parts = omega (arith, minus_cross (pos s.args.b) (pos s.args.drawn), pos_cross s.args.b, pos_cross s.args.drawn)

  kept_small : nat_abs kept ≤ 1_004_000_000
  kept_small = ⊎_elim (λ e. omega (arith, e, kept_parts, abs_parts kept, s.requires.h_le_depth_most)) (λ e. omega (arith, e, kept_parts, abs_parts kept, s.requires.h_le_depth_most)) (one_part kept)

  level_small : nat_abs level ≤ 1_008_000_000
  level_small = omega (arith, abs_add kept s.args.l, kept_small, s.requires.l_bound)

  found_fits : SFits w64 found
  found_fits = small_fits found (omega (arith, abs_add level (neg_ℤ (pos s.args.h)), abs_neg (pos s.args.h), level_small, s.requires.h_le_depth_most))

  base_read : to_z w64 s.args.b ≡ pos s.args.b
  base_read = to_z_pos w64 (omega (arith, s.requires.h_le_depth_most))

  drawn_read : to_z w64 s.args.drawn ≡ pos s.args.drawn
  drawn_read = to_z_pos w64 (omega (arith, s.requires.h_le_depth_most))

  depth_read : to_z w64 s.args.h ≡ pos s.args.h
  depth_read = to_z_pos w64 (omega (arith, s.requires.h_le_depth_most))

  kept_read : to_z w64 (of_z w64 kept) ≡ kept
  kept_read = to_z-of_z (small_fits kept (omega (arith, kept_small)))

  level_read : to_z w64 (of_z w64 level) ≡ level
  level_read = to_z-of_z (small_fits level (omega (arith, level_small)))

pub returns-then-kept-lt0 : goal.returns-then-kept-lt0
returns-then-kept-lt0 c =
    let t = lt_z_true (kept (goal.at.returns-then-kept-lt0 c).Start) (pos 0) (simp (base_read (goal.at.returns-then-kept-lt0 c).Start, drawn_read (goal.at.returns-then-kept-lt0 c).Start, kept_read (goal.at.returns-then-kept-lt0 c).Start) at c.if-kept-lt0.true) in
    uncovered _ _ _ _ _ c.requires.l_bound (omega (arith, t, kept_parts (goal.at.returns-then-kept-lt0 c).Start))

pub returns-then-kept-r : goal.returns-then-kept-r
returns-then-kept-r c =
    let t = lt_z_true (kept (goal.at.returns-then-kept-r c).Start) c.args.r (simp (base_read (goal.at.returns-then-kept-r c).Start, drawn_read (goal.at.returns-then-kept-r c).Start, kept_read (goal.at.returns-then-kept-r c).Start, to_z-of_z c.ranges.r) at c.if-kept-r.true) in
    uncovered _ _ _ _ _ c.requires.l_bound (omega (arith, t, kept_parts (goal.at.returns-then-kept-r c).Start))

pub returns-then-level-lt0 : goal.returns-then-level-lt0
returns-then-level-lt0 c =
    let t = lt_z_true (level (goal.at.returns-then-level-lt0 c).Start) (pos 0) (simp (base_read (goal.at.returns-then-level-lt0 c).Start, drawn_read (goal.at.returns-then-level-lt0 c).Start, kept_read (goal.at.returns-then-level-lt0 c).Start, to_z-of_z c.ranges.l, level_read (goal.at.returns-then-level-lt0 c).Start) at c.if-level-lt0.true) in
    uncovered _ _ _ _ _ c.requires.l_bound (omega (arith, t, add_cross (kept (goal.at.returns-then-level-lt0 c).Start) c.args.l, kept_parts (goal.at.returns-then-level-lt0 c).Start))

pub returns : goal.returns
returns c =
    let a = c.args in
    let k = lt_z_false (kept (goal.at.returns c).Start) (pos 0) (simp (base_read (goal.at.returns c).Start, drawn_read (goal.at.returns c).Start, kept_read (goal.at.returns c).Start) at c.if-kept-lt0.false) in
    let r = lt_z_false (kept (goal.at.returns c).Start) a.r (simp (base_read (goal.at.returns c).Start, drawn_read (goal.at.returns c).Start, kept_read (goal.at.returns c).Start, to_z-of_z c.ranges.r) at c.if-kept-r.false) in
    let l = lt_z_false (level (goal.at.returns c).Start) (pos 0) (simp (base_read (goal.at.returns c).Start, drawn_read (goal.at.returns c).Start, kept_read (goal.at.returns c).Start, to_z-of_z c.ranges.l, level_read (goal.at.returns c).Start) at c.if-level-lt0.false) in
    let parts = add_cross (kept (goal.at.returns c).Start) a.l in
    simp (base_read (goal.at.returns c).Start, drawn_read (goal.at.returns c).Start, kept_read (goal.at.returns c).Start, to_z-of_z c.ranges.l, level_read (goal.at.returns c).Start, depth_read (goal.at.returns c).Start)
    (same_word (found (goal.at.returns c).Start) a.r (found_fits (goal.at.returns c).Start) c.ranges.r
    ∙ crossed_test (R (found (goal.at.returns c).Start) + L a.r) (R a.r + L (found (goal.at.returns c).Start)) (a.h + L a.l + R a.r + a.drawn) (a.b + R a.l + L a.r) (omega (arith, minus_cross (level (goal.at.returns c).Start) (pos a.h), pos_cross a.h, parts, kept_parts (goal.at.returns c).Start))
    ∙ covered _ _ _ _ _ c.requires.l_bound c.requires.h_le_depth_most.0 c.requires.h_le_depth_most.1.0 (omega (arith, k, kept_parts (goal.at.returns c).Start)) (omega (arith, r, kept_parts (goal.at.returns c).Start)) (omega (arith, l, parts, kept_parts (goal.at.returns c).Start)))
