-- Document 01, 'Settling': the calls that move mass, transport (the paper's 'settling') and the setting of boundaries (its 'end setting').
use Rattle.std.specs.Prelude.{◌≡◌, List, [], ◌∷◌, ◌++◌, ℕ, ◌+◌, ◌*◌, ℤ, pos, neg_ℤ, length, replicate}
use Rattle.numbers.specs.Index.{tabulate}
use Rattle.numbers.specs.Signed.{positive}
use Rattle.mass.specs.Transport.{MassColumns, mass_columns, rightwards, leftwards, moved_cell, moved_outlets}
use Rattle.reach.specs.Reach.{Reach, reach_of, cells, carried_at, left_boundary, right_boundary, with_boundaries, with_totals}
use Rattle.reach.specs.Grounds.{Ground, ground, first_refusal, all_totals_fit, record_grounds}
use Rattle.reach.specs.Parts.{drawn_from}
use Rattle.reach.specs.Outcome.{Outcome, outcome}
use Rattle.outlet.specs.declared.Outlets.{Outlets}
use Rattle.reach.specs.declared.boundary.Boundary.{Boundary}
use Rattle.reach.specs.declared.held.Held.{Held}
use Rattle.reach.specs.declared.ledger.Totals.{Totals}
use Rattle.reach.specs.declared.ledger.Ledger.{Ledger}
use Rattle.transport.specs.declared.TransportAnswer.{TransportAnswer}
use Rattle.reach.specs.declared.refusal.Refusal.TheVariants as refusal

-- water entering at a boundary brings its amount times that boundary's concentration
unfoldable pub entering_left : Reach → ℕ
entering_left s = positive (carried_at s 0) * (left_boundary s.held.boundaries).concentration

unfoldable pub entering_right : Reach → ℕ
entering_right s = positive (neg_ℤ (carried_at s (cells s))) * (right_boundary s.held.boundaries).concentration

abbrev pub mass_columns_of : Reach → MassColumns
mass_columns_of s = mass_columns s.mass s.base s.carried (drawn_from s.held.outlets) (entering_left s) (entering_right s)

-- totals with mass added
unfoldable pub with_mass : Totals → (gained lost : ℕ) → Totals
with_mass t gained lost =
    record { water_in = t.water_in; water_out = t.water_out; mass_in = t.mass_in + gained; mass_out = t.mass_out + lost }

-- a ledger with the mass that a transport takes over both boundaries
unfoldable pub ledger_with : Ledger → (left_inflow left_outflow right_inflow right_outflow : ℕ) → Ledger
ledger_with k left_inflow left_outflow right_inflow right_outflow = record { left = with_mass k.left left_inflow left_outflow; right = with_mass k.right right_inflow right_outflow }

-- boundary mass (the paper's 'end nutrient') goes into the ledger: in, what enters; out, the first cell's left share and the last cell's right share
unfoldable pub transport_ledger : Reach → Ledger
transport_ledger s =
    ledger_with s.held.ledger (entering_left s) (leftwards (mass_columns_of s) 0) (entering_right s) (rightwards (mass_columns_of s) (cells s))

-- and each outlet's share into its total
unfoldable pub transport_outlets : Reach → Outlets
transport_outlets s = moved_outlets (mass_columns_of s) s.held.outlets

unfoldable pub transport_held : Reach → Held
transport_held s = with_totals (transport_ledger s) (transport_outlets s) s.held

-- shares move, b becomes h, c becomes 0
unfoldable pub after_transport : Reach → Reach
after_transport s = record {
  bed = s.bed;
  depth = s.depth;
  discharge = s.discharge;
  mass = tabulate (length s.mass) (moved_cell (mass_columns_of s));
  base = s.depth;
  carried = replicate (length s.carried) (pos 0);
  cell_length = s.cell_length;
  held = transport_held s;
}

-- grounds 4 to 9, of a call that is given the pair es, then 13: a total would pass 10^18 by this call
abbrev pub transport_grounds : Reach → List Boundary → List Ground
transport_grounds s es = record_grounds s es ++ (ground refusal.Total (all_totals_fit (transport_held s)) ∷ [])

-- transport may be called by itself
unfoldable pub transport : Reach → Outcome
transport s = outcome (first_refusal (transport_grounds s s.held.boundaries)) s (after_transport s)

-- a record that holds another pair
unfoldable pub holding : List Boundary → Reach → Reach
holding es s = reach_of s.bed s.depth s.discharge s.mass s.base s.carried s.cell_length (with_boundaries es s.held)

-- setting boundaries gives the new pair, and transports first under the old one
unfoldable pub set_boundaries : Reach → List Boundary → Outcome
set_boundaries s es = outcome (first_refusal (transport_grounds s es)) s (holding es (after_transport s))

-- a call came out as o says: every field of its answer, and every column that it may write
pub record CameTo (o : Outcome) (r : TransportAnswer) (mass base : List ℕ) (carried : List ℤ) : Type 0 where
  pub refusal_is : r.refusal ≡ o.refusal
  pub held_is : r.held ≡ o.reach.held
  pub mass_is : mass ≡ o.reach.mass
  pub base_is : base ≡ o.reach.base
  pub carried_is : carried ≡ o.reach.carried
