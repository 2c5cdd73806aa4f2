-- Demand 3: what holds after a list of calls. T is the tally after the list, s the record as the program left it: the lent columns, the
-- ledger (the paper's 'book') last handed back, and the outlets as the last call left them. Document 02, point 1: 'from then on the balance has the
-- outlets beside the ends, and no outlet exceeds its want'.
use Rattle.std.specs.Prelude.{◌≡◌, true, List, [], ◌∷◌, ℕ, ◌+◌, ◌≤◌, ◌<◌, ℤ, pos}
use Rattle.std.specs.Int.Signed.{le_z}
use Rattle.outlet.specs.Outlets.{outlet_at}
use Rattle.reach.specs.Reach.{Reach, cells}
use Rattle.reach.specs.Balance.{water_held, total_water_in, total_water_out, outlet_water, mass_held, total_mass_in, total_mass_out, outlet_mass, everywhere, CellsWithin, BoundariesWithin}
use Rattle.water.specs.Water.{available, draw_of, new_depth}
use Rattle.sheet.specs.Opening.{opening}
use Rattle.tally.specs.Call.{Entry, final}
use Rattle.tally.specs.Tally.{AcceptedStep, Tally, start, run}

-- P of each of a list
unfoldable pub Each : {A : Type 0} → (A → Type 0) → List A → Type 0
Each P [] = Unit {0}
Each P (x ∷ xs) = P x × Each P xs

-- the formula for h', in whole numbers that may be negative, gives no less than 0 in any cell
unfoldable pub DepthsFromZero : AcceptedStep → Type 0
DepthsFromZero a = (i : ℕ) → i < cells a.before → le_z (pos 0) (new_depth a.before a.time i) ≡ true

-- what each outlet draws in the step is no more than it wants
unfoldable pub WithinWants : AcceptedStep → Type 0
WithinWants a = (k : ℕ) → k < a.before.held.outlets.count → draw_of a.before a.time k ≤ (outlet_at a.before.held.outlets k).want

-- what a cell can give, in whole numbers that may be negative, is no less than 0
unfoldable pub AvailableFromZero : AcceptedStep → Type 0
AvailableFromZero a = (i : ℕ) → i < cells a.before → le_z (pos 0) (available a.before a.time i) ≡ true

-- held = opening + in − out, without a subtraction
unfoldable pub Accounts : (held opened gained lost : ℕ) → Type 0
Accounts held opened gained lost = held + lost ≡ opened + gained

pub record Holds (T : Tally) (s : Reach) : Type 0 where
  -- the record is the tally's own, so the tally's steps and transports are those of the program
  pub own : s ≡ T.own
  -- 'the water held equals the opening water plus what the ends let in less what they let out, added up from the steps themselves', 'the outlets
  -- beside the ends'
  pub water : Accounts (water_held s) (water_held T.initial) (total_water_in T.sums) (total_water_out T.sums + outlet_water T.outlets)
  -- 'and the nutrient likewise from the settlings'
  pub mass : Accounts (mass_held s) (mass_held T.initial) (total_mass_in T.sums) (total_mass_out T.sums + outlet_mass T.outlets)
  -- 'the book's totals equal those sums', total for total
  pub ledger : s.held.ledger ≡ T.sums
  -- 'keeps drawn water and totals of its own .., and the list's equal them', outlet for outlet
  pub outlets : s.held.outlets ≡ T.outlets
  -- 'no depth is below zero', in any accepted step of the list
  pub depths : Each DepthsFromZero T.steps
  -- 'no outlet exceeds its want', in any of them
  pub wanted : Each WithinWants T.steps
  -- 'what a cell can give is its old depth less its own two outgoing W': it is never below zero
  pub available : Each AvailableFromZero T.steps
  -- 'any two whole numbers that bound the concentration of every opening cell and of every end but a wall held or set since still bound
  -- each cell, measured against the depth at its last settling, with nothing allowed for rounding'
  pub bounds : (lo hi : ℤ)
      → CellsWithin (everywhere lo) (everywhere hi) T.initial
      → Each (BoundariesWithin (everywhere lo) (everywhere hi) (cells T.initial)) T.held
      → CellsWithin (everywhere lo) (everywhere hi) s

-- of the definitions: after every list of calls, of any length, from an accepted opening into whatever columns and with whatever outlets were lent
abbrev pub OfDefinitions : Type 0
OfDefinitions =
    (sheet : List ℕ) (lent : Reach) (es : List Entry) →
    (opening sheet lent).refusal ≡ 0 →
    Holds (run (start sheet lent.held.outlets) es) (final (opening sheet lent).reach es)
