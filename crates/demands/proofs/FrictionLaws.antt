-- Point 4 of document 02 of the definitions. Assumes nothing.
use mathlib.Core.Path.{◌≡◌, refl, ap, ◌∙◌}
use mathlib.Core.Logic.{⊎_elim}
use mathlib.Core.Bool.{true}
use Prim.Native.Nat.{ℕ, ◌+◌, ◌-◌, ◌*◌, ◌≤◌}
use native.Mathlib.Nat.{lt_of_le_of_lt}
use native.Mathlib.Omega.{arith}
use borrow.Author.Tests.{ne_eqb}
use lib.IntN.{ℤ, pos, nat_abs}
use Rattle.numbers.specs.Signed.{positive}
use Rattle.numbers.proofs.SignedLaws.{R, L, abs_parts, le_cross, cross_le, one_part, right_sub, left_sub}
use Rattle.friction.specs.Friction.{strickler_fits, centimetres, four_thirds, conveyance_squared, drag, slowed, slowed_by}
use Rattle.friction.proofs.FrictionLaws.{strickler_none, four_thirds_fits, four_thirds_next, cube_lt, slowed_most}
use Rattle.reach.specs.Grounds.{first_refusal}
use Rattle.reach.specs.Outcome.{outcome}
use Rattle.reach.specs.Reach.{Reach}
use Rattle.reach.specs.Grounds.{Verdict}
use Rattle.water.specs.Sides.{cell_side}
use Rattle.water.specs.Water.{new_depth, pushed, nearest, new_discharge}
use Rattle.water.proofs.WaterLaws.{nearest_parts}
use Rattle.update.specs.Step.{step_grounds, after_step, step, transports}
use Rattle.demands.specs.Friction.{GreatestRoot, NoFurther, Friction, WithoutFriction}
use Rattle.std.specs.Prelude.{Ok, Err}

greatest_root : (k : ℕ) → GreatestRoot k (four_thirds k)
greatest_root k = record {
  fits = four_thirds_fits k;
  greatest = λ b l. let m = cube_lt b (four_thirds k + 1) (lt_of_le_of_lt l (four_thirds_next k)) in omega (arith, m);
}

one_root : (k r : ℕ) → GreatestRoot k r → r ≡ four_thirds k
one_root k r g = omega (arith, (greatest_root k).greatest r g.fits, g.greatest (four_thirds k) (four_thirds_fits k))

-- neither part is more
by_parts : (y q : ℤ) → (R y ≤ R q) × (L y ≤ L q) → NoFurther y q
by_parts y q (r, l) = record {
  size = omega (arith, abs_parts y, abs_parts q, r, l);
  rightward = λ p. let c = le_cross (pos 0) q p in cross_le (pos 0) y (⊎_elim (λ o. omega (arith, o, c, r, l)) (λ o. omega (arith, o, c, r, l)) (one_part q));
  leftward = λ p. let c = le_cross q (pos 0) p in cross_le y (pos 0) (⊎_elim (λ o. omega (arith, o, c, r, l)) (λ o. omega (arith, o, c, r, l)) (one_part q));
}

-- and the other way
to_parts : (y q : ℤ) → NoFurther y q → (R y ≤ R q) × (L y ≤ L q)
to_parts y q n = ⊎_elim leftward rightward (one_part q)
  where
    rightward : L q ≡ 0 → (R y ≤ R q) × (L y ≤ L q)
    rightward e =
        let c = le_cross (pos 0) y (n.rightward (cross_le (pos 0) q (omega (arith, e)))) in
        let a = abs_parts y in
        let b = abs_parts q in
        let l = n.size in
        ⊎_elim (λ o. (omega (arith, e, c, l, a, b, o), omega (arith, e, c, l, a, b, o))) (λ o. (omega (arith, e, c, l, a, b, o), omega (arith, e, c, l, a, b, o))) (one_part y)

    leftward : R q ≡ 0 → (R y ≤ R q) × (L y ≤ L q)
    leftward e =
        let c = le_cross y (pos 0) (n.leftward (cross_le q (pos 0) (omega (arith, e)))) in
        let a = abs_parts y in
        let b = abs_parts q in
        let l = n.size in
        ⊎_elim (λ o. (omega (arith, e, c, l, a, b, o), omega (arith, e, c, l, a, b, o))) (λ o. (omega (arith, e, c, l, a, b, o), omega (arith, e, c, l, a, b, o))) (one_part y)

-- the cut keeps that
capped : (most a b : ℕ) → a ≤ b → a - (a - most) ≤ b - (b - most)
capped most a b l = omega (arith, l)

cut_right : (most : ℕ) (z : ℤ) → R (nearest most z) ≡ R z - (R z - most)
cut_right most z =
    let o = one_part z in
    ap R (nearest_parts most z) ∙ right_sub (R z - (R z - most)) (L z - (L z - most)) ∙ ⊎_elim (λ e. omega (arith, e)) (λ e. omega (arith, e)) o

cut_left : (most : ℕ) (z : ℤ) → L (nearest most z) ≡ L z - (L z - most)
cut_left most z =
    let o = one_part z in
    ap L (nearest_parts most z) ∙ left_sub (R z - (R z - most)) (L z - (L z - most)) ∙ ⊎_elim (λ e. omega (arith, e)) (λ e. omega (arith, e)) o

cut_parts : (most : ℕ) (y q : ℤ) → (R y ≤ R q) × (L y ≤ L q) → (R (nearest most y) ≤ R (nearest most q)) × (L (nearest most y) ≤ L (nearest most q))
cut_parts most y q (r, l) =
    (rw (cut_right most y, cut_right most q) (capped most (R y) (R q) r), rw (cut_left most y, cut_left most q) (capped most (L y) (L q) l))

pub friction_is : Friction
unfolding new_discharge slowed conveyance_squared drag centimetres cell_side
friction_is = record {
  list = greatest_root;
  one_root = one_root;
  discharge = λ s t F i f. rw (ne_eqb F 0 f) refl;
  no_further = λ F t v k q. by_parts (slowed F t v k q) q (slowed_most F (conveyance_squared F k) (drag t v) q);
  step_no_further = λ s t F i.
      let h = positive (new_depth s t i) in
      let D = conveyance_squared F (centimetres h) in
      let E = drag t (nat_abs (cell_side s i).velocity) in
      by_parts (new_discharge s t F i) (new_discharge s t 0 i) (cut_parts (8_000 * h) (slowed_by F D E (pushed s t i)) (pushed s t i) (slowed_most F D E (pushed s t i)));
  parts = to_parts;
}

-- the number does not hang on the record that an accepted call leaves
by_the_check : (v : Verdict) (s r r' : Reach) → (outcome v s r).refusal ≡ (outcome v s r').refusal
by_the_check (Ok u) s r r' = refl
by_the_check (Err n) s r r' = refl

module _ (s : Reach) (t F : ℕ) (f : strickler_fits F ≡ true) where
  same_number : (step s t F).refusal ≡ (step s t 0).refusal
  unfolding step
  same_number = by_the_check (first_refusal (step_grounds s t F)) s (after_step s t F) (after_step s t 0) ∙ rw (f, strickler_none 0 refl) refl

  same_transport : transports s t F ≡ transports s t 0
  unfolding transports
  same_transport = rw same_number refl

pub without_friction : WithoutFriction
unfolding step after_step new_discharge slowed strickler_fits first_refusal
without_friction = record {
  step_is = λ s t. refl;
  same_number = same_number;
  same_transport = same_transport;
  discharge_alone = λ s t F. refl;
}
