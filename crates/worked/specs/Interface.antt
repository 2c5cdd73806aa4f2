-- Document 01, 'A water step': an interface with a step in the bed, worked out, and what the step makes of the cells beside it.
-- X 1,030 mm, t 70 ms.
use Rattle.std.specs.Prelude.{◌≡◌, [], ◌∷◌, ℕ, ℤ, pos, neg_ℤ}
use Rattle.flux.specs.Interface.{Side, reduced_depth, left_depth, right_depth, net_water, momentum_sum}
use Rattle.reach.specs.Reach.{Reach, no_boundary, held_with}
use Rattle.outlet.specs.Outlets.{no_outlets}
use Rattle.reach.specs.Outcome.{Outcome}
use Rattle.sheet.specs.Opening.{empty_ledger}
use Rattle.update.specs.Step.{step}

-- 100 mm of water at 500 mm/s before a bed that is 30 mm higher, with 20 mm of water at −100 mm/s on it
abbrev pub before : Side
before = record { bed = pos 0; depth = 100_000; velocity = pos 500 }

abbrev pub beyond : Side
beyond = record { bed = pos 30_000; depth = 20_000; velocity = neg_ℤ (pos 100) }

-- two cells between walls, the right bed 30 mm higher
abbrev pub over_step : (left_depth right_depth : ℕ) (leftDischarge rightDischarge : ℤ) → Reach
over_step hl hr ql qr = record {
  bed = pos 0 ∷ pos 30_000 ∷ [];
  depth = hl ∷ hr ∷ [];
  discharge = ql ∷ qr ∷ [];
  mass = 0 ∷ 0 ∷ [];
  base = hl ∷ hr ∷ [];
  carried = pos 0 ∷ pos 0 ∷ pos 0 ∷ [];
  cell_length = 1_030;
  held = held_with (no_boundary ∷ no_boundary ∷ []) empty_ledger no_outlets;
}

-- the same two sides as cells, and the lake at rest, its surface level
abbrev pub moving : Outcome
moving = step (over_step 100_000 20_000 (pos 50_000_000) (neg_ℤ (pos 2_000_000))) 70 0

abbrev pub lake : Outcome
lake = step (over_step 100_000 70_000 (pos 0) (pos 0)) 70 0

pub record InterfaceWorked : Type 0 where
  -- z* = 30,000: hl* = 100,000 + 0 − 30,000, hr* = 20,000; a depth of 100 below a bed 300 higher shows nothing
  pub left_depth_lem : left_depth before beyond ≡ 70_000
  pub right_depth_lem : right_depth before beyond ≡ 20_000
  pub none_shown : reduced_depth 100 (pos 0) (pos 300) ≡ 0
  -- N = W(70,000, 500) − W(20,000, 100); with the whole depth at the left 3,852
  pub N_over_step : net_water 70 1_030 before beyond ≡ pos 2_431
  -- P = Q(70,000, 500) + Q(20,000, 100); with the whole depth 4,804,667
  pub P_over_step : momentum_sum 70 1_030 before beyond ≡ 2_827_216
  -- h' = h − N and h + N, for a wall lets nothing pass
  pub depths_moving : moving.reach.depth ≡ 97_569 ∷ 22_431 ∷ []
  -- q' = q + P(left) − P(right) + S(own h* at the right) − S(own h* at the left):
  -- 50,000,000 + 676,932 − 2,827,216 + 1,633,688 − 3,333,196, and −2,000,000 + 2,827,216 − 72,538 with both S of 20,000.
  -- With the two S of a cell exchanged the left one is 49,549,224
  pub discharges_moving : moving.reach.discharge ≡ pos 46_150_208 ∷ pos 754_678 ∷ []
  -- still water over a step stays at rest: of the left cell P(left) = S(100,000), P(right) = S(70,000). With the two S
  -- exchanged the left cell starts to move, at 3,399,016
  pub depths_lake : lake.reach.depth ≡ 100_000 ∷ 70_000 ∷ []
  pub discharges_lake : lake.reach.discharge ≡ pos 0 ∷ pos 0 ∷ []
