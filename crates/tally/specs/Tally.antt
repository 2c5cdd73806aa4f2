-- Document 01, 'The list of demand 3 and its tally': the tally, a machine of its own. It is fed the sheet and, call by call, which call it is
-- and its free arguments; it takes nothing from the columns, boundaries, ledger or answers of the program. Document 02, point 1: it 'takes the list
-- as lent to the opening and the wants of each call, keeps drawn water and totals of its own from 0 by these rules'.
use Rattle.std.specs.Prelude.{cond, List, [], ◌∷◌, ℕ, ◌+◌, ◌-◌, ◌*◌, eqb, ℤ, neg_ℤ}
use Rattle.numbers.specs.Signed.{positive}
use Rattle.outlet.specs.Outlets.{outlet_at, each_outlet, loaded}
use Rattle.outlet.specs.declared.Outlets.{Outlets}
use Rattle.mass.specs.Transport.{left_share, right_share, outlet_share}
use Rattle.reach.specs.Reach.{Reach, reach_of, cells, carried_at, left_boundary, right_boundary, with_totals}
use Rattle.reach.specs.declared.boundary.Boundary.{Boundary}
use Rattle.reach.specs.declared.ledger.Ledger.{Ledger}
use Rattle.transport.specs.Calls.{mass_columns_of, after_transport, holding}
use Rattle.water.specs.Water.{net_at, draw_of}
use Rattle.update.specs.Step.{keeps_sums, after_step}
use Rattle.sheet.specs.Header.{boundaries_of}
use Rattle.sheet.specs.Opening.{sheet_record}
use Rattle.tally.specs.Call.{Free, Call, Entry, step_call, transport_call, boundaries_call, greatest_call, write_call, open_call, wanting, with_wants, refusal_of}

-- an accepted step: the record that it was given, with the wants of the call, and its t
pub record AcceptedStep : Type 0 where
  pub before : Reach
  pub time : ℕ

pub record Tally : Type 0 where
  -- the record as the sheet has it
  pub initial : Reach
  -- the tally's own record, by now
  pub own : Reach
  -- the sums, which serve as its ledger
  pub sums : Ledger
  -- the outlets, with drawn water and totals of its own
  pub outlets : Outlets
  -- the pairs of boundaries held or set since: that of the sheet and of every accepted setting
  pub held : List (List Boundary)
  -- the accepted steps of the list
  pub steps : List AcceptedStep

-- ---- the sums

-- accepted step, N at interface 0: left water in gains max(N,0), left water out max(−N,0);
-- N at interface n: right water in gains max(−N,0), right water out max(N,0)
unfoldable pub add_water : (first last : ℤ) → Ledger → Ledger
add_water first last k = record {
  left = record {
    water_in = k.left.water_in + positive first;
    water_out = k.left.water_out + positive (neg_ℤ first);
    mass_in = k.left.mass_in;
    mass_out = k.left.mass_out;
  };
  right = record {
    water_in = k.right.water_in + positive (neg_ℤ last);
    water_out = k.right.water_out + positive last;
    mass_in = k.right.mass_in;
    mass_out = k.right.mass_out;
  };
}

-- transport, with the c and boundaries held before it: left mass in gains max(c(0),0) times the left concentration, left mass out the first
-- cell's left share; right mass in gains max(−c(n),0) times the right concentration, right mass out the last cell's right share
unfoldable pub add_mass : Reach → Ledger → Ledger
add_mass s k = record {
  left = record {
    water_in = k.left.water_in;
    water_out = k.left.water_out;
    mass_in = k.left.mass_in + positive (carried_at s 0) * (left_boundary s.held.boundaries).concentration;
    mass_out = k.left.mass_out + left_share (mass_columns_of s) 0;
  };
  right = record {
    water_in = k.right.water_in;
    water_out = k.right.water_out;
    mass_in = k.right.mass_in + positive (neg_ℤ (carried_at s (cells s))) * (right_boundary s.held.boundaries).concentration;
    mass_out = k.right.mass_out + right_share (mass_columns_of s) (cells s - 1);
  };
}

-- a step transports first where the sums of carried water are not kept
unfoldable pub add_step : Reach → (t : ℕ) → Ledger → Ledger
add_step s t k = add_water (net_at s t 0) (net_at s t (cells s)) (cond (keeps_sums s t) k (add_mass s k))

-- ---- the outlets: each keeps its cell and its want

-- accepted step: 'an outlet's water goes into its total at each step', and into what it has drawn since the settling
unfoldable pub add_draws : Reach → (t : ℕ) → Outlets → Outlets
add_draws s t os =
    each_outlet (λ k. let o = outlet_at os k in record {
      cell = o.cell;
      want = o.want;
      drawn = o.drawn + draw_of s t k;
      water = o.water + draw_of s t k;
      mass = o.mass;
    }) os

-- 'its nutrient at the settling', with the c and drawn water held before it: its share of its cell. Nothing is drawn since
unfoldable pub add_outlet_mass : Reach → Outlets → Outlets
add_outlet_mass s os =
    each_outlet (λ k. let o = outlet_at os k in record {
      cell = o.cell;
      want = o.want;
      drawn = 0;
      water = o.water;
      mass = o.mass + outlet_share (mass_columns_of s) o.cell k;
    }) os

-- a step that transports first
unfoldable pub add_step_outlets : Reach → (t : ℕ) → Outlets → Outlets
add_step_outlets s t os = add_draws s t (cond (keeps_sums s t) os (add_outlet_mass s os))

-- ---- the machine

-- the record with the sums for its ledger, and the tally's own outlets
abbrev pub with_sums : Reach → Ledger → Outlets → Reach
with_sums s k os = reach_of s.bed s.depth s.discharge s.mass s.base s.carried s.cell_length (with_totals k os s.held)

-- sums start at 0
abbrev pub no_sums : Ledger
no_sums = record {
  left = record { water_in = 0; water_out = 0; mass_in = 0; mass_out = 0 };
  right = record { water_in = 0; water_out = 0; mass_in = 0; mass_out = 0 };
}

-- and so do drawn water and totals of the list lent to the opening
unfoldable pub no_draws : (lent : Outlets) → Outlets
no_draws os = each_outlet (λ k. record { cell = (outlet_at os k).cell; want = (outlet_at os k).want; drawn = 0; water = 0; mass = 0 }) os

-- it opens a record of its own from the sheet
unfoldable pub start : (sheet : List ℕ) (lent : Outlets) → Tally
start sheet os = record {
  initial = sheet_record sheet os;
  own = with_sums (sheet_record sheet os) no_sums (no_draws os);
  sums = no_sums;
  outlets = no_draws os;
  held = boundaries_of sheet ∷ [];
  steps = [];
}

-- the wants of a call: its record and its outlets take them, whether the call is then accepted or refused
unfoldable pub take_wants : (wants : List ℕ) → Tally → Tally
take_wants ws T = record {
  initial = T.initial;
  own = with_wants ws T.own;
  sums = T.sums;
  outlets = wanting ws T.outlets;
  held = T.held;
  steps = T.steps;
}

-- an accepted call moves its record by the rules, and adds to its sums and to its outlets
unfoldable pub count_step : Tally → (t F : ℕ) → Tally
count_step T t F =
    let k = add_step T.own t T.sums in
    let os = add_step_outlets T.own t T.outlets in record {
      initial = T.initial;
      own = with_sums (after_step T.own t F) k os;
      sums = k;
      outlets = os;
      held = T.held;
      steps = record { before = T.own; time = t } ∷ T.steps;
    }

unfoldable pub count_transport : Tally → Tally
count_transport T =
    let k = add_mass T.own T.sums in
    let os = add_outlet_mass T.own T.outlets in record {
      initial = T.initial;
      own = with_sums (after_transport T.own) k os;
      sums = k;
      outlets = os;
      held = T.held;
      steps = T.steps;
    }

unfoldable pub count_setting : Tally → List Boundary → Tally
count_setting T es =
    let k = add_mass T.own T.sums in
    let os = add_outlet_mass T.own T.outlets in record {
      initial = T.initial;
      own = with_sums (holding es (after_transport T.own)) k os;
      sums = k;
      outlets = os;
      held = es ∷ T.held;
      steps = T.steps;
    }

-- the tally that a call meets: an opening has no wants
abbrev pub given : Tally → Free → Call → Tally
given T f (step_call t F) = take_wants f.wants T
given T f transport_call = take_wants f.wants T
given T f (boundaries_call es) = take_wants f.wants T
given T f greatest_call = take_wants f.wants T
given T f (write_call room) = take_wants f.wants T
given T f (open_call sheet os) = T

-- what an accepted call makes of the tally that it met; a greatest-step call and a write change nothing, an accepted opening starts another list,
-- with the list lent to it
abbrev pub accepted : Tally → Free → Call → Tally
accepted T f (step_call t F) = count_step T t F
accepted T f transport_call = count_transport T
accepted T f (boundaries_call es) = count_setting T es
accepted T f greatest_call = T
accepted T f (write_call room) = T
accepted T f (open_call sheet os) = start sheet (loaded os)

-- a refused call changes nothing
unfoldable pub if_accepted : (refusal : ℕ) → (accepted T : Tally) → Tally
if_accepted n U T = cond (eqb n 0) U T

-- it reads each call's grounds for refusal on its own record
unfoldable pub count : Tally → Free → Call → Tally
count T f c = if_accepted (refusal_of T.own f c) (accepted (given T f c) f c) (given T f c)

unfoldable pub run : Tally → List Entry → Tally
run T [] = T
run T (e ∷ es) = run (count T e.free e.call) es
