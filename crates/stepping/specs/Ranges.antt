-- Not the paper's: what the inner functions require and give. A reader of the model may skip this file.
use Rattle.std.specs.Prelude.{◌≡◌, Bool, true, false, List, ℕ, ◌+◌, ◌≤◌, ◌<◌, leb, ℤ, pos, ◌+ℤ◌, neg_ℤ, nat_abs, length, get_or}
use Rattle.numbers.specs.Index.{all_below}
use Rattle.numbers.specs.Signed.{positive}
use Rattle.outlet.specs.Outlets.{outlets_most, want_most, outlet_at, each_outlet}
use Rattle.outlet.specs.declared.Outlet.{Outlet}
use Rattle.outlet.specs.declared.Outlets.{Outlets}
use Rattle.flux.specs.Limits.{depth_most}
use Rattle.friction.specs.Friction.{strickler_fits}
use Rattle.reach.specs.Limits.{total_most}
use Rattle.reach.specs.Reach.{Reach, cells}
use Rattle.mass.specs.Transport.{MassColumns}
use Rattle.transport.specs.Ranges.{BoundaryMassOf}
use Rattle.cfl.specs.Cfl.{meets_cfl}
use Rattle.timestep.specs.GreatestStep.{place_speed}
use Rattle.update.specs.Step.{time_fits, depths_fit}
use Rattle.water.specs.Water.{net_at, draw_of, new_depth, new_discharge}

-- carried water c and amounts N of n cells' interfaces, far from the ends of their type
pub record Summable (n : ℕ) (c net : List ℤ) : Type 0 where
  -- far above any reach: an index fits its type
  pub few : n ≤ 1_000_000
  pub interfaces : length c ≡ n + 1
  pub long : n < length net
  pub carried : (i : ℕ) → i ≤ n → nat_abs (get_or c i (pos 0)) ≤ 1_000_000_000
  pub crossed : (i : ℕ) → i ≤ n → nat_abs (get_or net i (pos 0)) ≤ 1_000_000_000

-- the transport test of n cells by new depths h, of carried water c and the amounts N: what came in over both sides is covered by what stands there now
unfoldable pub sums_kept : (n : ℕ) (c net : List ℤ) (h : List ℕ) → Bool
sums_kept n c net h =
    all_below n (λ i. leb (positive (get_or c i (pos 0) +ℤ get_or net i (pos 0)) + positive (neg_ℤ (get_or c (i + 1) (pos 0) +ℤ get_or net (i + 1) (pos 0)))) (get_or h i 0))

-- the mass that crosses both boundaries where the step transports, and none where it does not
pub record BoundaryMassWhen (transports : Bool) (s : MassColumns) (left_inflow left_outflow right_inflow right_outflow : ℕ) : Type 0 where
  pub transported : transports ≡ true → BoundaryMassOf s left_inflow left_outflow right_inflow right_outflow
  pub kept : transports ≡ false → (left_inflow ≡ 0) × (left_outflow ≡ 0) × (right_inflow ≡ 0) × (right_outflow ≡ 0)

-- outlets that each have the amount at their place in `got`
unfoldable pub outlet_with : Outlets → (got : List ℕ) → (k : ℕ) → Outlet
outlet_with os got k =
    let o = outlet_at os k in
    record { cell = o.cell; want = o.want; drawn = o.drawn + get_or got k 0; water = o.water + get_or got k 0; mass = o.mass }

unfoldable pub with_draws : Outlets → (got : List ℕ) → Outlets
with_draws os got = each_outlet (outlet_with os got) os

-- outlets that can have them
pub record Room (os : Outlets) (got : List ℕ) : Type 0 where
  pub few : os.count ≤ outlets_most
  pub got_most : (k : ℕ) → k < os.count → get_or got k 0 ≤ want_most
  pub drawn_most : (k : ℕ) → k < os.count → (outlet_at os k).drawn ≤ depth_most
  pub water_most : (k : ℕ) → k < os.count → (outlet_at os k).water ≤ total_most

-- what was found of a step of t, with Strickler's coefficient F, on the record s: N, depth and discharge of each cell, what each outlet has
pub record StepFound (s : Reach) (t F : ℕ) (net : List ℤ) (depth : List ℕ) (discharge : List ℤ) (got : List ℕ) : Type 0 where
  pub net_long : cells s < length net
  pub depth_long : cells s ≤ length depth
  pub discharge_long : cells s ≤ length discharge
  pub nets : (i : ℕ) → i ≤ cells s → get_or net i (pos 0) ≡ net_at s t i
  pub depths : (i : ℕ) → i < cells s → get_or depth i 0 ≡ positive (new_depth s t i)
  pub discharges : (i : ℕ) → i < cells s → get_or discharge i (pos 0) ≡ new_discharge s t F i
  pub gots : (k : ℕ) → k < s.held.outlets.count → get_or got k 0 ≡ draw_of s t k

-- and that it stands grounds 10, 17, 11 and 12
pub record StepPasses (s : Reach) (t F : ℕ) : Type 0 where
  pub time : time_fits t ≡ true
  pub strickler : strickler_fits F ≡ true
  pub cfl : meets_cfl (place_speed s) (cells s + 1) s.cell_length t ≡ true
  pub deep : depths_fit s t ≡ true
