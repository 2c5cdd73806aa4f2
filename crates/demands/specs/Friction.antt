-- Document 02, point 4, sentence by sentence: friction of the bed.
use Rattle.std.specs.Prelude.{◌≡◌, true, cond, [], ◌∷◌, ◌++◌, ℕ, suc, ◌+◌, ◌*◌, ◌/◌, ◌≤◌, eqb, ℤ, pos, ◌+ℤ◌, ◌*ℤ◌, neg_ℤ, nat_abs, ◌≤ℤ◌}
use Rattle.std.specs.Int.Signed.{quot_z}
use Rattle.numbers.specs.Index.{tabulate}
use Rattle.numbers.specs.Signed.{positive}
use Rattle.flux.specs.Velocity.{velocity}
use Rattle.friction.specs.Friction.{strickler_fits, four_thirds, slowed}
use Rattle.cfl.specs.Cfl.{meets_cfl}
use Rattle.reach.specs.Reach.{Reach, cells, depth_at, discharge_at, carried_at}
use Rattle.reach.specs.Grounds.{ground, first_refusal, record_grounds, all_totals_fit}
use Rattle.reach.specs.Outcome.{outcome}
use Rattle.water.specs.Water.{net_at, new_depth, pushed, nearest, new_discharge}
use Rattle.timestep.specs.GreatestStep.{place_speed}
use Rattle.update.specs.Step.{transported_first, step_held, time_fits, depths_fit, step, transports, after_step}
use Rattle.reach.specs.declared.refusal.Refusal.TheVariants as refusal

-- 'the greatest whole r with r³ ≤ 1,000·k⁴'
pub record GreatestRoot (k r : ℕ) : Type 0 where
  pub fits : r * r * r ≤ 1_000 * (k * k * k * k)
  pub greatest : (b : ℕ) → b * b * b ≤ 1_000 * (k * k * k * k) → b ≤ r

-- y lies between 0 and q: 'its size never grows and its sign never turns'
pub record NoFurther (y q : ℤ) : Type 0 where
  pub size : nat_abs y ≤ nat_abs q
  pub rightward : pos 0 ≤ℤ q → pos 0 ≤ℤ y
  pub leftward : q ≤ℤ pos 0 → y ≤ℤ pos 0

pub record Friction : Type 0 where
  -- 'A fixed list for whole centimetres'
  pub list : (k : ℕ) → GreatestRoot k (four_thirds k)
  -- and nothing else is
  pub one_root : (k r : ℕ) → GreatestRoot k r → r ≡ four_thirds k
  -- 'With k = floor(new depth / 10,000), .. D = F²·r and E = floor(45,518·t·|u| / 1,000,000) with the old speed, the discharge becomes q·D/(D+E) cut towards zero, and 0 where D is 0 and
  -- F is not', 'after the push and before the cut'
  pub discharge : (s : Reach) (t F i : ℕ) → (F ≡ 0 → ⊥) →
      let h = positive (new_depth s t i) in
      let D = F * F * four_thirds (h / 10_000) in
      let E = 45_518 * t * nat_abs (velocity (depth_at s i) (discharge_at s i)) / 1_000_000 in
      new_discharge s t F i ≡ nearest (8_000 * h) (cond (eqb D 0) (pos 0) (quot_z (pushed s t i *ℤ pos D) (pos (D + E))))
  -- 'Its size never grows and its sign never turns': of what friction leaves of any q, and, after the cut, beside the same step without it
  pub no_further : (F t v k : ℕ) (q : ℤ) → NoFurther (slowed F t v k q) q
  pub step_no_further : (s : Reach) (t F i : ℕ) → NoFurther (new_discharge s t F i) (new_discharge s t 0 i)
  -- in other words, neither what flows to the right is more nor what flows to the left
  pub parts : (y q : ℤ) → NoFurther y q → (positive y ≤ positive q) × (positive (neg_ℤ y) ≤ positive (neg_ℤ q))

-- the record after a step without friction, every column and field
abbrev pub frictionless : Reach → (t : ℕ) → Reach
frictionless s t =
    let r = transported_first s t in record {
      bed = s.bed;
      depth = tabulate (cells s) (λ i. positive (new_depth s t i));
      discharge = tabulate (cells s) (λ i. nearest (8_000 * positive (new_depth s t i)) (pushed s t i));
      mass = r.mass;
      base = r.base;
      carried = tabulate (suc (cells s)) (λ i. carried_at r i +ℤ net_at s t i);
      cell_length = s.cell_length;
      held = step_held s t;
    }

pub record WithoutFriction : Type 0 where
  -- 'With F = 0 the results are the frictionless ones': accepted, or refused by the first of document 01's grounds
  pub step_is : (s : Reach) (t : ℕ)
      → step s t 0
      ≡ outcome (first_refusal (record_grounds s s.held.boundaries
      ++ (ground refusal.TimeStep (time_fits t)
      ∷ ground refusal.Cfl (meets_cfl (place_speed s) (cells s + 1) s.cell_length t)
      ∷ ground refusal.Depth (depths_fit s t)
      ∷ ground refusal.Total (all_totals_fit (step_held s t))
      ∷ []))) s (frictionless s t)
  -- an F that is allowed changes neither the number of a step nor whether it transports first,
  pub same_number : (s : Reach) (t F : ℕ) → strickler_fits F ≡ true → (step s t F).refusal ≡ (step s t 0).refusal
  pub same_transport : (s : Reach) (t F : ℕ) → strickler_fits F ≡ true → transports s t F ≡ transports s t 0
  -- and whatever F is, it moves the discharge alone: depths, mass, carried water, ledger and outlets are the frictionless ones
  pub discharge_alone : (s : Reach) (t F : ℕ) →
      let r = frictionless s t in
      after_step s t F
      ≡ record {
        bed = r.bed;
        depth = r.depth;
        discharge = (after_step s t F).discharge;
        mass = r.mass;
        base = r.base;
        carried = r.carried;
        cell_length = r.cell_length;
        held = r.held;
      }
