-- Document 01 and document 02, sentences that the definitions do not show as they stand: what holds of the amounts and of the calls that demand 2 names. (Names as in Demand1.antt.)
use Rattle.std.specs.Prelude.{◌≡◌, true, cond, ◌&&◌, List, [], ◌∷◌, ℕ, suc, ◌+◌, ◌-◌, ◌*◌, ◌/◌, ◌≤◌, ◌<◌, min, leb, ltb, eqb, ℤ, pos, ◌+ℤ◌, ◌-ℤ◌, neg_ℤ, nat_abs, get_or}
use contract.Lifetimes.{Lfts}
use Rattle.std.specs.Borrow.{Bor}
use Rattle.numbers.specs.Index.{all_of, all_below, tabulate, sum_below, sum}
use Rattle.numbers.specs.Signed.{positive, maxℤ, eqℤ}
use Rattle.outlet.specs.Outlets.{outlet_at}
use Rattle.outlet.specs.declared.Outlets.{Outlets}
use Rattle.flux.specs.Wave.{wave_speed}
use Rattle.flux.specs.Velocity.{velocity}
use Rattle.flux.specs.Crossing.{upper, lower, water_flux, momentum_flux, still_thrust}
use Rattle.reach.specs.Reach.{Reach, cells, depth_at, discharge_at, mass_at, base_at, carried_at, left_boundary, right_boundary}
use Rattle.reach.specs.Parts.{drawn_from}
use Rattle.reach.specs.Grounds.{boundaries_fit, outlets_fit, carried_fits, ledger_fits, all_totals_fit, record_grounds}
use Rattle.reach.specs.declared.boundary.Boundary.{Boundary}
use Rattle.reach.specs.declared.held.Held.{Held}
use Rattle.mass.specs.Transport.{right_share, left_share, outlet_share, rightwards, leftwards}
use Rattle.transport.specs.Calls.{mass_columns_of, after_transport}
use Rattle.water.specs.Water.{net_at, own_left, own_right, available, wants_from, draws, draw_of, new_depth}
use Rattle.update.specs.Step.{summed_drawn, keeps_sums, after_step}
use Rattle.writing.specs.Writing.{none_drawn}
use Rattle.timestep.specs.GreatestStep.{place_speed}
use Rattle.jemmyfern_c.specs.declared.answer.Answer.{Answer}
use Rattle.jemmyfern_c.specs.declared.answer.Opened.{Opened}
use Rattle.jemmyfern_c.specs.declared.answer.Stepped.{Stepped}
use Rattle.jemmyfern_c.specs.declared.answer.Greatest.{Greatest}
use Rattle.jemmyfern_c.proofs.Functions.{Lent, given, OpenLeft, StepLeft, TransportLeft, OpenEnsures, StepEnsures, TransportEnsures, SettingEnsures, GreatestEnsures}
use Rattle.demands.specs.Demand1.{First}
use Rattle.demands.specs.Demand2.{stepped, transported, opened}

pub record Amounts : Type 0 where
  -- document 02, point 3: 'The wave speed becomes the least whole a with 1,000,000·a² at least 14,709,975·h'
  pub wave_meets : (h : ℕ) → 14_709_975 * h ≤ 1_000_000 * (wave_speed h * wave_speed h)
  pub wave_least : (h a : ℕ) → 14_709_975 * h ≤ 1_000_000 * (a * a) → wave_speed h ≤ a
  -- document 02, point 5: 'the larger of u+a and 0 or the larger of u−a and 0'
  pub upper_larger : (a : ℕ) (u : ℤ) → pos (upper a u) ≡ maxℤ (u +ℤ pos a) (pos 0)
  pub lower_larger : (a : ℕ) (u : ℤ) → pos (lower a u) ≡ maxℤ (u -ℤ pos a) (pos 0)
  -- 'All are 0 when h = 0'
  pub water_dry : (t X : ℕ) (u : ℤ) → water_flux t X 0 u ≡ 0
  pub momentum_dry : (t X : ℕ) (u : ℤ) → momentum_flux t X 0 u ≡ 0
  pub thrust_dry : (t X : ℕ) → still_thrust t X 0 ≡ 0
  -- B ≤ A: no difference of their powers is cut off at 0
  pub none_cut_off : (a : ℕ) (u : ℤ) → lower a u ≤ upper a u
  -- 'R = max(c(i+1),0), L = max(−c(i),0). Right share = floor(m·R/b). Left share = floor(m·(R+L)/b) − right share. Both are 0 if b = 0' (so is a quotient by 0)
  pub right_share_lem : (s : Reach) (i : ℕ) → right_share (mass_columns_of s) i ≡ mass_at s i * positive (carried_at s (i + 1)) / base_at s i
  pub left_share_lem : (s : Reach) (i : ℕ)
      → left_share (mass_columns_of s) i ≡ mass_at s i * (positive (carried_at s (i + 1)) + positive (neg_ℤ (carried_at s i))) / base_at s i - right_share (mass_columns_of s) i

-- Document 02, point 1: what the outlets have
pub record Drawing : Type 0 where
  -- 'what a cell can give is its old depth less its own two outgoing W', over its right and over its left
  pub gives : (s : Reach) (t i : ℕ) →
      let u = velocity (depth_at s i) (discharge_at s i) in
      available s t i ≡ pos (depth_at s i) -ℤ pos (water_flux t s.cell_length (own_right s i) u) -ℤ pos (water_flux t s.cell_length (own_left s i) (neg_ℤ u))
  -- what the outlets want of cell i
  pub wants : (os : Outlets) (i : ℕ) → wants_from os i ≡ tabulate os.count (λ k. cond (eqb (outlet_at os k).cell i) (outlet_at os k).want 0)
  -- 'each has floor(available times want / sum of wants), and the units left go singly, in list order, to those with a want above 0': of the lesser of what the cell can give and what
  -- is wanted of it, so that 'if the wants fit, each has its want'
  pub each : (s : Reach) (t i k : ℕ) → k < s.held.outlets.count →
      let ws = wants_from s.held.outlets i in
      let whole = min (positive (available s t i)) (sum ws) in
      let floor : ℕ → ℕ = λ j. whole * get_or ws j 0 / sum ws in
      get_or (draws s t i) k 0
      ≡ floor k + cond (ltb 0 (get_or ws k 0) && ltb (sum_below k (λ j. cond (ltb 0 (get_or ws j 0)) 1 0)) (whole - sum_below s.held.outlets.count floor)) 1 0
  pub from_own_cell : (s : Reach) (t k : ℕ) → draw_of s t k ≡ get_or (draws s t (outlet_at s.held.outlets k).cell) k 0
  -- 'if the wants fit, each has its want': no outlet of a cell has more than it wants
  pub each_most : (s : Reach) (t k : ℕ) → k < s.held.outlets.count → draw_of s t k ≤ (outlet_at s.held.outlets k).want
  -- the draws of a cell add up to the lesser of what it can give and what is wanted of it
  pub all_lesser : (s : Reach) (t i : ℕ) → sum (draws s t i) ≡ min (positive (available s t i)) (sum (wants_from s.held.outlets i))
  -- 'shares follow right, left, then outlets in list order, by the same running floors': D is what is drawn of the cell by those before outlet k
  pub share : (s : Reach) (i k : ℕ) → k < s.held.outlets.count →
      let D = positive (carried_at s (i + 1)) + positive (neg_ℤ (carried_at s i)) + sum_below k (λ j. get_or (drawn_from s.held.outlets i) j 0) in
      outlet_share (mass_columns_of s) i k
      ≡ mass_at s i * (D + get_or (drawn_from s.held.outlets i) k 0) / base_at s i - mass_at s i * D / base_at s i
  -- the transport test counts what each has drawn and draws now
  pub tested : (s : Reach) (t i : ℕ) →
      let os = s.held.outlets in
      summed_drawn s t i ≡ tabulate os.count (λ k. cond (eqb (outlet_at os k).cell i) ((outlet_at os k).drawn + draw_of s t k) 0)

-- with no outlet, every amount, test and list of grounds is document 01's, but for the wave speed (point 3)
pub record WithNoOutlet : Type 0 where
  -- 16 stands, and 8, 9 and 14 test what they tested
  pub fits : (n : ℕ) (os : Outlets) → os.count ≡ 0 → outlets_fit n os ≡ true
  pub none_drawn_from : (os : Outlets) (i : ℕ) → os.count ≡ 0 → drawn_from os i ≡ []
  pub carried : (h b : ℕ) (l r : ℤ)
      → carried_fits h b l r []
      ≡ all_of (leb (nat_abs l) 4_000_000 ∷ leb (nat_abs r) 4_000_000 ∷ eqℤ (pos h) (pos b +ℤ l -ℤ r) ∷ leb (positive r + positive (neg_ℤ l)) b ∷ [])
  pub totals : (h : Held) → h.outlets.count ≡ 0 → all_totals_fit h ≡ ledger_fits h.ledger
  pub none_drawn_lem : (os : Outlets) → os.count ≡ 0 → none_drawn os ≡ true
  -- the step draws nothing
  pub depth : (s : Reach) (t i : ℕ) → s.held.outlets.count ≡ 0 → new_depth s t i ≡ pos (depth_at s i) +ℤ net_at s t i -ℤ net_at s t (suc i)
  pub keeps : (s : Reach) (t : ℕ) → s.held.outlets.count ≡ 0
      → keeps_sums s t
      ≡ all_below (cells s) (λ i. leb (positive (carried_at s (suc i) +ℤ net_at s t (suc i)) + positive (neg_ℤ (carried_at s i +ℤ net_at s t i))) (base_at s i))
  -- and the list stays empty
  pub step_none : (s : Reach) (t F : ℕ) → s.held.outlets.count ≡ 0 → (after_step s t F).held.outlets.count ≡ 0
  pub transport_none : (s : Reach) → s.held.outlets.count ≡ 0 → (after_transport s).held.outlets.count ≡ 0

-- 'a dry cell keeps a grain' is an error: after an accepted settling a cell that gave all its water, to its outlets too, holds only what came to it over its two interfaces
abbrev pub NoGrainKept : Type 0
NoGrainKept =
    (κs : Lfts 7) (l : Lent) (X : ℕ) (k : Held) (r : Answer) (e : TransportLeft) → TransportEnsures κs l X k r e → r.refusal ≡ 0 →
    let s = given l X k in
    (i : ℕ) → i < cells s →
    positive (carried_at s (i + 1)) + positive (neg_ℤ (carried_at s i)) + sum (drawn_from s.held.outlets i) ≡ base_at s i →
    get_or e.mass i 0 ≡ rightwards (mass_columns_of s) i + leftwards (mass_columns_of s) (i + 1)

-- |u| of a depth with a discharge
abbrev pub flow_speed : (h : ℕ) (q : ℤ) → ℕ
flow_speed h q = nat_abs (velocity h q)

-- |u|+a
abbrev pub speed_of : (h : ℕ) (q : ℤ) → ℕ
speed_of h q = flow_speed h q + wave_speed h

-- the places of a record: '0 left end, 1..n the cells, n+1 right end; an end that is not fed counts as 0'
pub record PlaceSpeeds (s : Reach) : Type 0 where
  pub left_fed : (left_boundary s.held.boundaries).kind ≡ 2 → place_speed s 0 ≡ speed_of (left_boundary s.held.boundaries).depth (left_boundary s.held.boundaries).discharge
  pub left_unfed : ((left_boundary s.held.boundaries).kind ≡ 2 → ⊥) → place_speed s 0 ≡ 0
  pub cell : (i : ℕ) → i < cells s → place_speed s (i + 1) ≡ speed_of (depth_at s i) (discharge_at s i)
  pub right_fed : (right_boundary s.held.boundaries).kind ≡ 2
      → place_speed s (cells s + 1) ≡ speed_of (right_boundary s.held.boundaries).depth (right_boundary s.held.boundaries).discharge
  pub right_unfed : ((right_boundary s.held.boundaries).kind ≡ 2 → ⊥) → place_speed s (cells s + 1) ≡ 0

-- 'The call answers the greatest t in 1..1,000 that meets CFL, and the place of the greatest |u|+a'; document 02, point 2: 'Among equal greatest values of |u|+a, the greatest-step call
-- shall name the highest place': no higher place is as fast
pub record Fastest (s : Reach) (time place : ℕ) : Type 0 where
  pub least : 1 ≤ time
  pub most : time ≤ 1_000
  pub meets : (i : ℕ) → i ≤ cells s + 1 → time * place_speed s i ≤ 1_000 * s.cell_length
  pub greatest : (t : ℕ) → t ≤ 1_000 → ((i : ℕ) → i ≤ cells s + 1 → t * place_speed s i ≤ 1_000 * s.cell_length) → t ≤ time
  pub within : place ≤ cells s + 1
  pub fastest : (i : ℕ) → i ≤ cells s + 1 → place_speed s i ≤ place_speed s place
  pub highest : (i : ℕ) → place < i → i ≤ cells s + 1 → place_speed s i < place_speed s place
  -- a reach that is all dry, with no fed end
  pub dry : ((i : ℕ) → depth_at s i ≡ 0) → ((left_boundary s.held.boundaries).kind ≡ 2 → ⊥) → ((right_boundary s.held.boundaries).kind ≡ 2 → ⊥)
      → (place ≡ cells s + 1) × (time ≡ 1_000)

abbrev pub GreatestStep : Type 0
GreatestStep =
    (κs : Lfts 7) (l : Lent) (X : ℕ) (k : Held) (r : Greatest) → GreatestEnsures κs l X k r → r.refusal ≡ 0 →
    let s = given l X k in PlaceSpeeds s × Fastest s r.time r.place

-- and no other answer is right: two that `Fastest` allows are the same
abbrev pub OneFastest : Type 0
OneFastest = (s : Reach) (time time' place place' : ℕ) → Fastest s time place → Fastest s time' place' → (time ≡ time') × (place ≡ place')

-- 'the CFL of report 4529', its (18), with √(3gh/2) as it is and not rounded, and |u| in whole mm/s, as the model has it: t·(v + √(3gh/2)) ≤ 1,000·X at depth h and |u| = v. Without the
-- root: 3gh/2 is 14,709,975·h / 1,000,000, and t·√(3gh/2) fits into what t·v leaves of 1,000·X (`left_over`: nothing is cut off at 0 there)
pub record UnroundedCflAt (t X h v : ℕ) : Type 0 where
  pub left_over : t * v ≤ 1_000 * X
  pub wave : t * t * (14_709_975 * h) ≤ 1_000_000 * ((1_000 * X - t * v) * (1_000 * X - t * v))

-- at each cell and each fed end, with `spare` mm/s more
pub record UnroundedCfl (s : Reach) (t spare : ℕ) : Type 0 where
  pub cell : (i : ℕ) → i < cells s → UnroundedCflAt t s.cell_length (depth_at s i) (flow_speed (depth_at s i) (discharge_at s i) + spare)
  pub left_fed : let left = left_boundary s.held.boundaries in
      left.kind ≡ 2 → UnroundedCflAt t s.cell_length left.depth (flow_speed left.depth left.discharge + spare)
  pub right_fed : let right = right_boundary s.held.boundaries in
      right.kind ≡ 2 → UnroundedCflAt t s.cell_length right.depth (flow_speed right.depth right.discharge + spare)

-- 'Users compare our greatest step with the CFL of report 4529 and find it sometimes some milliseconds too long': as to the wave speed it is not, and no accepted step is. (u is cut
-- towards zero in it as everywhere: of |q/h| up to 1 mm/s is left out)
pub record NotTooLong : Type 0 where
  pub step : (κs : Lfts 7) (l : Lent) (X : ℕ) (k : Held) (t F : ℕ) (r : Stepped) (e : StepLeft) → StepEnsures κs l X k t F r e → r.refusal ≡ 0 → UnroundedCfl (given l X k) t 0
  pub greatest : (κs : Lfts 7) (l : Lent) (X : ℕ) (k : Held) (r : Greatest) → GreatestEnsures κs l X k r → r.refusal ≡ 0 → UnroundedCfl (given l X k) r.time 0
  -- nor much too short: what meets it with 1 mm/s more meets ours, so that no step that does is longer than the greatest
  pub nearly : (t X h v : ℕ) → UnroundedCflAt t X h (v + 1) → t * (v + wave_speed h) ≤ 1_000 * X
  pub nearly_greatest : (κs : Lfts 7) (l : Lent) (X : ℕ) (k : Held) (r : Greatest) → GreatestEnsures κs l X k r → r.refusal ≡ 0
      → (t : ℕ) → t ≤ 1_000 → UnroundedCfl (given l X k) t 1 → t ≤ r.time

-- the record that an accepted call leaves stands grounds 4 to 9, whatever pair that fits the next call is given: no call of ours is the cause that the next is refused by them
abbrev pub Stands : Reach → Type 0
Stands s = (pair : List Boundary) → boundaries_fit pair ≡ true → First 0 (record_grounds s pair)

pub record StandsAgain : Type 0 where
  pub opening : (κs : Lfts 8) (sheet : Bor (List ℕ)) (l : Lent) (r : Opened) (e : OpenLeft) → OpenEnsures κs sheet l r e → r.refusal ≡ 0 → Stands (opened r e)
  pub step : (κs : Lfts 7) (l : Lent) (X : ℕ) (k : Held) (t F : ℕ) (r : Stepped) (e : StepLeft) → StepEnsures κs l X k t F r e → r.refusal ≡ 0 → Stands (stepped l X r e)
  pub transport : (κs : Lfts 7) (l : Lent) (X : ℕ) (k : Held) (r : Answer) (e : TransportLeft) → TransportEnsures κs l X k r e → r.refusal ≡ 0 → Stands (transported l X r e)
  pub set_boundaries_lem : (κs : Lfts 7) (l : Lent) (X : ℕ) (k : Held) (new : List Boundary) (r : Answer) (e : TransportLeft) → SettingEnsures κs l X k new r e → r.refusal ≡ 0
      → Stands (transported l X r e)
