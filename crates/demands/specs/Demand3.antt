-- Demand 3, sentence by sentence, of the six functions of include/jemmyfern.h: what holds after every list of calls, in plain sums over the lent columns and the totals that were
-- last handed back, and in inequalities of single cells. T is the tally, a machine of its own that is fed the sheet and the list.
use Rattle.std.specs.Prelude.{◌≡◌, List, [], ◌∷◌, ℕ, ◌+◌, ◌-◌, ◌*◌, ◌≤◌, ◌<◌, ℤ, pos, neg_ℤ, ◌+ℤ◌, ◌-ℤ◌, ◌*ℤ◌, length, get_or, ◌≤ℤ◌}
use Rattle.numbers.specs.Index.{sum_below, sum}
use Rattle.numbers.specs.Signed.{positive}
use Rattle.outlet.specs.Outlets.{outlets_most, outlet_at, loaded}
use Rattle.outlet.specs.declared.Outlet.{Outlet}
use Rattle.outlet.specs.declared.Outlets.{Outlets}
use Rattle.reach.specs.Reach.{Reach, left_boundary, right_boundary}
use Rattle.reach.specs.declared.boundary.Boundary.{Boundary}
use Rattle.reach.specs.declared.ledger.Ledger.{Ledger}
use Rattle.mass.specs.Transport.{left_share, right_share, outlet_share}
use Rattle.transport.specs.Calls.{mass_columns_of}
use Rattle.water.specs.Water.{net_at, available, draws, draw_of}
use Rattle.sheet.specs.Opening.{sheet_record}
use Rattle.tally.specs.Call.{Free, Call, Entry, step_call, transport_call, boundaries_call, greatest_call, write_call, open_call, wanting, with_wants, refusal_of}
use Rattle.tally.specs.Tally.{Tally, add_draws, add_outlet_mass, start, take_wants, count, run}
use Rattle.tally.specs.Holds.{Each}
use Rattle.trace.specs.Trace.{OpenLink, StepLink, Chain}
use Rattle.demands.specs.Demand1.{zero_ledger}
use Rattle.demands.specs.Demand2.{Covered}

-- 'any two whole numbers that bound': m of every cell, against the depth at its last settling
abbrev pub CellsBounded : (lo hi : ℤ) → Reach → Type 0
CellsBounded lo hi s =
    (i : ℕ) → i < length s.bed →
    ((lo *ℤ pos (get_or s.base i 0)) ≤ℤ pos (get_or s.mass i 0)) × (pos (get_or s.mass i 0) ≤ℤ (hi *ℤ pos (get_or s.base i 0)))

-- the concentration of an end, if it is not a wall (kind 0)
abbrev pub BoundaryBounded : (lo hi : ℤ) → Boundary → Type 0
BoundaryBounded lo hi b = (b.kind ≡ 0 → ⊥) → (lo ≤ℤ pos b.concentration) × (pos b.concentration ≤ℤ hi)

abbrev pub PairBounded : (lo hi : ℤ) → List Boundary → Type 0
PairBounded lo hi pair = BoundaryBounded lo hi (left_boundary pair) × BoundaryBounded lo hi (right_boundary pair)

-- `ledger` is the book that was last handed back, the outlets are those of the list as the last call left it
pub record AfterList (T : Tally) (s : Reach) (ledger : Ledger) : Type 0 where
  -- the tally's own record is the program's: what it reads and adds up is what happened
  pub own : s ≡ T.own
  -- 'the water held equals the opening water plus what the ends let in less what they let out', 'the outlets beside the ends': held, let out and drawn are what there was and was let in
  pub water : sum s.depth + (ledger.left.water_out + ledger.right.water_out + sum_below s.held.outlets.count (λ k. (outlet_at s.held.outlets k).water)) ≡ sum T.initial.depth + (ledger.left.water_in + ledger.right.water_in)
  -- 'and the nutrient likewise'
  pub mass : sum s.mass + (ledger.left.mass_out + ledger.right.mass_out + sum_below s.held.outlets.count (λ k. (outlet_at s.held.outlets k).mass)) ≡ sum T.initial.mass + (ledger.left.mass_in + ledger.right.mass_in)
  -- 'added up from the steps themselves .. from the settlings; the book's totals equal those sums'
  pub left_water_in : ledger.left.water_in ≡ T.sums.left.water_in
  pub left_water_out : ledger.left.water_out ≡ T.sums.left.water_out
  pub left_mass_in : ledger.left.mass_in ≡ T.sums.left.mass_in
  pub left_mass_out : ledger.left.mass_out ≡ T.sums.left.mass_out
  pub right_water_in : ledger.right.water_in ≡ T.sums.right.water_in
  pub right_water_out : ledger.right.water_out ≡ T.sums.right.water_out
  pub right_mass_in : ledger.right.mass_in ≡ T.sums.right.mass_in
  pub right_mass_out : ledger.right.mass_out ≡ T.sums.right.mass_out
  -- the list's outlets equal the tally's own, entry by entry
  pub outlet_count : s.held.outlets.count ≡ T.outlets.count
  pub outlet_cell : (k : ℕ) → (outlet_at s.held.outlets k).cell ≡ (outlet_at T.outlets k).cell
  pub outlet_want : (k : ℕ) → (outlet_at s.held.outlets k).want ≡ (outlet_at T.outlets k).want
  pub outlet_drawn : (k : ℕ) → (outlet_at s.held.outlets k).drawn ≡ (outlet_at T.outlets k).drawn
  pub outlet_water_lem : (k : ℕ) → (outlet_at s.held.outlets k).water ≡ (outlet_at T.outlets k).water
  pub outlet_mass_lem : (k : ℕ) → (outlet_at s.held.outlets k).mass ≡ (outlet_at T.outlets k).mass
  -- 'any two whole numbers that bound the concentration of every opening cell and of every end but a wall held or set since still bound each cell'
  pub bounds : (lo hi : ℤ) → CellsBounded lo hi T.initial → Each (PairBounded lo hi) T.held → CellsBounded lo hi s

-- 'For every list of .. calls .. from an accepted opening on, refused ones included, whatever times, ends and outputs they are given, each call getting the record, ends and book
-- as the last left them'
abbrev pub AfterEveryList : Type 0
AfterEveryList =
    (sheet : List ℕ) (outlets : List Outlet) (es : List Entry) (before opened after : Reach) (first : OpenLink before sheet outlets opened) →
    first.r.refusal ≡ 0 →
    Chain opened es after →
    AfterList (run (start sheet (loaded outlets)) es) after after.held.ledger

-- P of every step that is accepted after such a list: of the record that it is given, with the wants of the call, of t and of the record that it leaves
abbrev pub OfEveryStep : (Reach → ℕ → Reach → Type 0) → Type 0
OfEveryStep P =
    (sheet : List ℕ) (outlets : List Outlet) (es : List Entry) (before opened s s' : Reach) (f : Free) (t F : ℕ) (first : OpenLink before sheet outlets opened) →
    first.r.refusal ≡ 0 →
    Chain opened es s →
    (link : StepLink s f t F s') →
    link.r.refusal ≡ 0 →
    P (with_wants f.wants s) t s'

-- 'no depth is below zero': it leaves in each cell the depth h + N(left) − N(right) less what the cell's outlets draw, as a whole number that is not negative
abbrev pub DepthsLeft : Reach → ℕ → Reach → Type 0
DepthsLeft s t s' =
    (i : ℕ) → i < length s.bed →
    pos (get_or s'.depth i 0) ≡ pos (get_or s.depth i 0) +ℤ net_at s t i -ℤ net_at s t (i + 1) -ℤ pos (sum (draws s t i))

abbrev pub NoDepthBelowZero : Type 0
NoDepthBelowZero = OfEveryStep DepthsLeft

-- 'no outlet exceeds its want'
abbrev pub DrawsWithinWants : Reach → ℕ → Reach → Type 0
DrawsWithinWants s t s' = (k : ℕ) → k < s.held.outlets.count → draw_of s t k ≤ (outlet_at s.held.outlets k).want

abbrev pub NoWantExceeded : Type 0
NoWantExceeded = OfEveryStep DrawsWithinWants

-- what a cell can give, 'its old depth less its own two outgoing W', is never below zero
abbrev pub GivesFromZero : Reach → ℕ → Reach → Type 0
GivesFromZero s t s' = (i : ℕ) → i < length s.bed → pos 0 ≤ℤ available s t i

abbrev pub AvailableFromZero : Type 0
AvailableFromZero = OfEveryStep GivesFromZero

-- ---- the tally's sums, from a ledger k to a ledger k'

-- 'Accepted step, N at interface 0: left water in gains max(N,0), left water out max(−N,0); N at interface n: right water in gains max(−N,0), right water out max(N,0)'
pub record WaterAdded (s : Reach) (t : ℕ) (k k' : Ledger) : Type 0 where
  pub left_in : k'.left.water_in ≡ k.left.water_in + positive (net_at s t 0)
  pub left_out : k'.left.water_out ≡ k.left.water_out + positive (neg_ℤ (net_at s t 0))
  pub right_in : k'.right.water_in ≡ k.right.water_in + positive (neg_ℤ (net_at s t (length s.bed)))
  pub right_out : k'.right.water_out ≡ k.right.water_out + positive (net_at s t (length s.bed))

pub record WaterSame (k k' : Ledger) : Type 0 where
  pub left_in : k'.left.water_in ≡ k.left.water_in
  pub left_out : k'.left.water_out ≡ k.left.water_out
  pub right_in : k'.right.water_in ≡ k.right.water_in
  pub right_out : k'.right.water_out ≡ k.right.water_out

-- 'Each settling .., with the c and ends held before it: left nutrient in gains max(c(0),0) times the left concentration, left nutrient out the first cell's left share; right
-- nutrient in gains max(−c(n),0) times the right concentration, right nutrient out the last cell's right share'
pub record MassAdded (s : Reach) (k k' : Ledger) : Type 0 where
  pub left_in : k'.left.mass_in ≡ k.left.mass_in + positive (get_or s.carried 0 (pos 0)) * (left_boundary s.held.boundaries).concentration
  pub left_out : k'.left.mass_out ≡ k.left.mass_out + left_share (mass_columns_of s) 0
  pub right_in : k'.right.mass_in ≡ k.right.mass_in + positive (neg_ℤ (get_or s.carried (length s.bed) (pos 0))) * (right_boundary s.held.boundaries).concentration
  pub right_out : k'.right.mass_out ≡ k.right.mass_out + right_share (mass_columns_of s) (length s.bed - 1)

pub record MassSame (k k' : Ledger) : Type 0 where
  pub left_in : k'.left.mass_in ≡ k.left.mass_in
  pub left_out : k'.left.mass_out ≡ k.left.mass_out
  pub right_in : k'.right.mass_in ≡ k.right.mass_in
  pub right_out : k'.right.mass_out ≡ k.right.mass_out

-- What a list makes of the tally, call by call (its own record moves as the program's: `own`, above): 'opening amounts are those of the sheet', 'its sums start at 0', 'ends held or set since are those of the sheet and of every accepted end
-- setting', 'a refused call, a greatest-step call and a write change nothing' but take the wants of the call, 'an accepted [opening] starts another list'
pub record TallyCourse : Type 0 where
  pub none : (T : Tally) → run T [] ≡ T
  pub next : (T : Tally) (e : Entry) (es : List Entry) → run T (e ∷ es) ≡ run (count T e.free e.call) es
  pub sheet_own : (sheet : List ℕ) (os : Outlets) → (start sheet os).own ≡ sheet_record sheet os
  pub sheet_initial : (sheet : List ℕ) (os : Outlets) → (start sheet os).initial ≡ sheet_record sheet os
  pub sheet_sums : (sheet : List ℕ) (os : Outlets) → (start sheet os).sums ≡ zero_ledger
  pub sheet_pair : (sheet : List ℕ) (os : Outlets) → (start sheet os).held ≡ (sheet_record sheet os).held.boundaries ∷ []
  -- it 'takes the list as lent to the opening .., keeps drawn water and totals of its own from 0'
  pub sheet_outlets : (sheet : List ℕ) (os : Outlets) → os.count ≤ outlets_most → (k : ℕ) → k < os.count
      → outlet_at (start sheet os).outlets k ≡ record { cell = (outlet_at os k).cell; want = (outlet_at os k).want; drawn = 0; water = 0; mass = 0 }
  -- 'and the wants of each call'
  pub wants : (T : Tally) (ws : List ℕ)
      → take_wants ws T ≡ record { initial = T.initial; own = with_wants ws T.own; sums = T.sums; outlets = wanting ws T.outlets; held = T.held; steps = T.steps }
  pub refused : (T : Tally) (f : Free) (c : Call) → ((sheet : List ℕ) (os : List Outlet) → c ≡ open_call sheet os → ⊥) → (refusal_of T.own f c ≡ 0 → ⊥) → count T f c ≡ take_wants f.wants T
  pub unopened : (T : Tally) (f : Free) (sheet : List ℕ) (os : List Outlet) → (refusal_of T.own f (open_call sheet os) ≡ 0 → ⊥) → count T f (open_call sheet os) ≡ T
  pub greatest : (T : Tally) (f : Free) → count T f greatest_call ≡ take_wants f.wants T
  pub write : (T : Tally) (f : Free) (room : ℕ) → count T f (write_call room) ≡ take_wants f.wants T
  pub opened : (T : Tally) (f : Free) (sheet : List ℕ) (os : List Outlet) → refusal_of T.own f (open_call sheet os) ≡ 0 → count T f (open_call sheet os) ≡ start sheet (loaded os)
  -- of every call but an opening, accepted or refused: the opening record stays; the pairs too, but for a setting, which adds its own
  pub same_initial : (T : Tally) (f : Free) (c : Call) → ((sheet : List ℕ) (os : List Outlet) → c ≡ open_call sheet os → ⊥) → (count T f c).initial ≡ T.initial
  pub set_pairs : (T : Tally) (f : Free) (new : List Boundary) → refusal_of T.own f (boundaries_call new) ≡ 0 → (count T f (boundaries_call new)).held ≡ new ∷ T.held
  pub other_pairs : (T : Tally) (f : Free) (c : Call) → ((sheet : List ℕ) (os : List Outlet) → c ≡ open_call sheet os → ⊥) → ((new : List Boundary) → c ≡ boundaries_call new → ⊥)
      → (count T f c).held ≡ T.held
  -- the sums: water at every step, mass at every transport, be it called by itself, in a setting or in a step
  pub step_water : (T : Tally) (f : Free) (t F : ℕ) → refusal_of T.own f (step_call t F) ≡ 0 → WaterAdded (with_wants f.wants T.own) t T.sums (count T f (step_call t F)).sums
  pub step_kept : (T : Tally) (f : Free) (t F : ℕ) → refusal_of T.own f (step_call t F) ≡ 0 → ((i : ℕ) → i < length T.own.bed → Covered (with_wants f.wants T.own) t i)
      → MassSame T.sums (count T f (step_call t F)).sums × ((count T f (step_call t F)).outlets ≡ add_draws (with_wants f.wants T.own) t (wanting f.wants T.outlets))
  pub step_not_kept : (T : Tally) (f : Free) (t F : ℕ) → refusal_of T.own f (step_call t F) ≡ 0 → (i : ℕ) → i < length T.own.bed → (Covered (with_wants f.wants T.own) t i → ⊥) →
      let w = with_wants f.wants T.own in
      MassAdded w T.sums (count T f (step_call t F)).sums × ((count T f (step_call t F)).outlets ≡ add_draws w t (add_outlet_mass w (wanting f.wants T.outlets)))
  pub transport_water : (T : Tally) (f : Free) → WaterSame T.sums (count T f transport_call).sums
  pub transport_mass : (T : Tally) (f : Free) → refusal_of T.own f transport_call ≡ 0 →
      let w = with_wants f.wants T.own in
      MassAdded w T.sums (count T f transport_call).sums × ((count T f transport_call).outlets ≡ add_outlet_mass w (wanting f.wants T.outlets))
  pub set_water : (T : Tally) (f : Free) (new : List Boundary) → WaterSame T.sums (count T f (boundaries_call new)).sums
  pub set_mass : (T : Tally) (f : Free) (new : List Boundary) → refusal_of T.own f (boundaries_call new) ≡ 0 →
      let w = with_wants f.wants T.own in
      MassAdded w T.sums (count T f (boundaries_call new)).sums × ((count T f (boundaries_call new)).outlets ≡ add_outlet_mass w (wanting f.wants T.outlets))
  -- 'an outlet's water goes into its total at each step, its nutrient at the settling'
  pub drawn_entry : (s : Reach) (t : ℕ) (os : Outlets) → os.count ≤ outlets_most → (k : ℕ) → k < os.count →
      let o = outlet_at os k in
      outlet_at (add_draws s t os) k ≡ record { cell = o.cell; want = o.want; drawn = o.drawn + draw_of s t k; water = o.water + draw_of s t k; mass = o.mass }
  pub mass_entry : (s : Reach) (os : Outlets) → os.count ≤ outlets_most → (k : ℕ) → k < os.count →
      let o = outlet_at os k in
      outlet_at (add_outlet_mass s os) k ≡ record { cell = o.cell; want = o.want; drawn = 0; water = o.water; mass = o.mass + outlet_share (mass_columns_of s) o.cell k }
