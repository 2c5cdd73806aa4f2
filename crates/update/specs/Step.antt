-- Document 01, 'A water step': the transport test (the paper's 'settling test'), the ledger's boundary water, what the outlets have, grounds 10 to 13, and the record after the step. Document 02, points 1 and 4.
use Rattle.std.specs.Prelude.{Bool, not, cond, ◌&&◌, List, [], ◌∷◌, ◌++◌, ℕ, suc, ◌+◌, leb, eqb, ℤ, pos, ◌+ℤ◌, neg_ℤ}
use Rattle.std.specs.Int.Signed.{le_z}
use Rattle.numbers.specs.Index.{all_of, all_below, tabulate}
use Rattle.numbers.specs.Signed.{positive}
use Rattle.outlet.specs.Outlets.{outlet_at, each_outlet}
use Rattle.outlet.specs.declared.Outlet.{Outlet}
use Rattle.outlet.specs.declared.Outlets.{Outlets}
use Rattle.flux.specs.Limits.{depth_most, time_step_most}
use Rattle.friction.specs.Friction.{strickler_fits}
use Rattle.cfl.specs.Cfl.{meets_cfl}
use Rattle.reach.specs.Reach.{Reach, cells, base_at, carried_at, with_totals}
use Rattle.reach.specs.Parts.{outflow}
use Rattle.reach.specs.Grounds.{Ground, ground, first_refusal, all_totals_fit, record_grounds}
use Rattle.reach.specs.Outcome.{Outcome, outcome}
use Rattle.reach.specs.declared.held.Held.{Held}
use Rattle.reach.specs.declared.ledger.Totals.{Totals}
use Rattle.reach.specs.declared.ledger.Ledger.{Ledger}
use Rattle.transport.specs.Calls.{after_transport}
use Rattle.water.specs.Water.{net_at, draw_of, new_depth, new_discharge}
use Rattle.timestep.specs.GreatestStep.{place_speed}
use Rattle.reach.specs.declared.refusal.Refusal.TheVariants as refusal

-- ---- the transport test, the paper's 'settling test'

-- add N to c
unfoldable pub summed : Reach → (t i : ℕ) → ℤ
summed s t i = carried_at s i +ℤ net_at s t i

-- and what each outlet has in the step to what it has drawn of cell i, in list order
unfoldable pub summed_drawn : Reach → (t i : ℕ) → List ℕ
summed_drawn s t i =
    let os = s.held.outlets in
    tabulate os.count (λ k. cond (eqb (outlet_at os k).cell i) ((outlet_at os k).drawn + draw_of s t k) 0)

-- max(c(i+1),0) + max(−c(i),0) and what was drawn ≤ b in each cell, with the sums; b is the base depth, where report 4529's (26) prints the running one
unfoldable pub keeps_sums : Reach → (t : ℕ) → Bool
keeps_sums s t = all_below (cells s) (λ i. leb (outflow (summed s t i) (summed s t (suc i)) (summed_drawn s t i)) (base_at s i))

-- the record that N is added to: as it is where the sums are kept, otherwise after a transport with the old c, so that c is then 0
unfoldable pub transported_first : Reach → (t : ℕ) → Reach
transported_first s t = cond (keeps_sums s t) s (after_transport s)

-- ---- boundary water (the paper's 'end water') goes into the ledger by the sign of N

unfoldable pub with_water : Totals → (gained lost : ℕ) → Totals
with_water t gained lost =
    record { water_in = t.water_in + gained; water_out = t.water_out + lost; mass_in = t.mass_in; mass_out = t.mass_out }

-- N at interface 0 is positive inwards, N at interface n outwards
unfoldable pub with_boundary_water : Ledger → (first last : ℤ) → Ledger
with_boundary_water k first last = record {
  left = with_water k.left (positive first) (positive (neg_ℤ first));
  right = with_water k.right (positive (neg_ℤ last)) (positive last);
}

unfoldable pub step_ledger : Reach → (t : ℕ) → Ledger
step_ledger s t = with_boundary_water (transported_first s t).held.ledger (net_at s t 0) (net_at s t (cells s))

-- ---- what the outlets have: 'an outlet's water goes into its total at each step' (document 02, point 1). After a transport with the old drawn water
-- `drawn` is what this step gave

unfoldable pub stepped_outlet : Reach → (t k : ℕ) → Outlet
stepped_outlet s t k =
    let o = outlet_at (transported_first s t).held.outlets k in
    record { cell = o.cell; want = o.want; drawn = o.drawn + draw_of s t k; water = o.water + draw_of s t k; mass = o.mass }

unfoldable pub step_outlets : Reach → (t : ℕ) → Outlets
step_outlets s t = each_outlet (stepped_outlet s t) (transported_first s t).held.outlets

unfoldable pub step_held : Reach → (t : ℕ) → Held
step_held s t = with_totals (step_ledger s t) (step_outlets s t) s.held

-- ---- the record after the step

-- F is Strickler's coefficient (document 02, point 4): of the record after the step the discharge alone depends on it
unfoldable pub after_step : Reach → (t F : ℕ) → Reach
after_step s t F =
    let r = transported_first s t in record {
      bed = s.bed;
      depth = tabulate (cells s) (λ i. positive (new_depth s t i));
      discharge = tabulate (cells s) (new_discharge s t F);
      mass = r.mass;
      base = r.base;
      carried = tabulate (suc (cells s)) (λ i. carried_at r i +ℤ net_at s t i);
      cell_length = s.cell_length;
      held = step_held s t;
    }

-- ---- grounds 10 to 13, and 17 after 10

-- 10: t is in 1..1,000
unfoldable pub time_fits : ℕ → Bool
time_fits t = all_of (leb 1 t ∷ leb t time_step_most ∷ [])

-- 12: no new depth exceeds 4,000,000
unfoldable pub depths_fit : Reach → (t : ℕ) → Bool
depths_fit s t = all_below (cells s) (λ i. le_z (new_depth s t i) (pos depth_most))

-- 4 to 9, then 10; 17, F is 0 or in 10..90; 11, CFL; 12; 13, no total passes 10^18 by this call, the mass of a transport inside it counted
abbrev pub step_grounds : Reach → (t F : ℕ) → List Ground
step_grounds s t F =
    record_grounds s s.held.boundaries
    ++ (ground refusal.TimeStep (time_fits t)
    ∷ ground refusal.Strickler (strickler_fits F)
    ∷ ground refusal.Cfl (meets_cfl (place_speed s) (cells s + 1) s.cell_length t)
    ∷ ground refusal.Depth (depths_fit s t)
    ∷ ground refusal.Total (all_totals_fit (step_held s t))
    ∷ [])

unfoldable pub step : Reach → (t F : ℕ) → Outcome
step s t F = outcome (first_refusal (step_grounds s t F)) s (after_step s t F)

-- whether an accepted step transported first: the paper's 'moment of settling'
unfoldable pub transports : Reach → (t F : ℕ) → Bool
transports s t F = eqb (step s t F).refusal 0 && not (keeps_sums s t)
