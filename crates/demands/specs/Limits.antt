-- Demand 1, 'within document 01's limits' and 'the first number in its list': each call's list of grounds, and what each ground tests, in numbers.
use Rattle.std.specs.Prelude.{◌≡◌, map, true, false, cond, ◌&&◌, ◌||◌, List, [], ◌∷◌, ◌++◌, ℕ, suc, ◌+◌, ◌*◌, leb, ltb, eqb, ℤ, pos, ◌+ℤ◌, ◌-ℤ◌, neg_ℤ, nat_abs, length, get_or}
use Rattle.std.specs.Int.Signed.{le_z}
use Rattle.numbers.specs.Index.{all_of, all_below, tabulate, sum}
use Rattle.numbers.specs.Signed.{positive, eqℤ}
use Rattle.friction.specs.Friction.{strickler_fits}
use Rattle.cfl.specs.Cfl.{meets_cfl}
use Rattle.outlet.specs.Outlets.{no_outlet}
use Rattle.outlet.specs.declared.Outlet.{Outlet}
use Rattle.outlet.specs.declared.Outlets.{Outlets}
use Rattle.reach.specs.Reach.{Reach, cells, no_boundary}
use Rattle.reach.specs.Parts.{drawn_from}
use Rattle.reach.specs.Refusals.{number}
use Rattle.reach.specs.declared.refusal.Refusal.TheVariants as refusal
use Rattle.reach.specs.Grounds.{ground, record_grounds, lengths_fit, cell_length_fits, wall_fits, open_fits, fed_fits, kind_fits, boundary_fits, boundaries_fit, cell_fits, cells_fit, carried_fits, carried_cells_fit, shut_fits, carried_fit, totals_fit, ledger_fits, outlet_fits, outlets_fit, outlet_totals_fit, all_totals_fit}
use Rattle.reach.specs.declared.boundary.Boundary.{Boundary}
use Rattle.reach.specs.declared.held.Held.{Held}
use Rattle.reach.specs.declared.ledger.Totals.{Totals}
use Rattle.reach.specs.declared.ledger.Ledger.{Ledger}
use Rattle.encoding.specs.FromBytes.{number_at}
use Rattle.sheet.specs.Header.{Span, span, edition_fits, size_fits, inside, apart, columns_clear, spans_of}
use Rattle.sheet.specs.Opening.{lent_fit, sheet_record, open_grounds}
use Rattle.transport.specs.Calls.{transport_grounds, after_transport}
use Rattle.water.specs.Water.{net_at, draws}
use Rattle.timestep.specs.GreatestStep.{place_speed}
use Rattle.update.specs.Step.{time_fits, depths_fit, step_grounds, after_step}
use Rattle.writing.specs.Writing.{none_carried, none_drawn, room_fits, write_grounds}

-- the tests that the lists of grounds name (`number_at 4 s k` is the u32 at byte k of the sheet s: edition at 0, length in bytes at 4, n at 8, X at 12, offsets from 16 on, boundaries from 32 and
-- from 56 on)
pub record Limits : Type 0 where
  -- 1: at least 80 bytes, edition 1
  pub edition : (s : List ℕ) → edition_fits s ≡ all_of (leb 80 (length s) ∷ eqb (number_at 4 s 0) 1 ∷ [])
  -- 2: n is 1..512, the length field is both the bytes given and 80+24n
  pub size : (s : List ℕ)
      → size_fits s
      ≡ all_of (leb 1 (number_at 4 s 8) ∷ leb (number_at 4 s 8) 512 ∷ eqb (number_at 4 s 4) (length s) ∷ eqb (number_at 4 s 4) (80 + 24 * number_at 4 s 8) ∷ [])
  -- 3: no offset is under 80, no column passes the end
  pub column : (end : ℕ) (c : Span) → inside end c ≡ (leb 80 c.start && leb (c.start + c.size) end)
  -- two columns do not overlap: one of them ends where the other starts, or before
  pub two_columns : (c d : Span) → apart c d ≡ (leb (c.start + c.size) d.start || leb (d.start + d.size) c.start)
  -- each of the four, and each two of them
  pub four_columns : (end : ℕ) (c d e f : Span)
      → columns_clear end (c ∷ d ∷ e ∷ f ∷ [])
      ≡ all_of (inside end c ∷ apart c d ∷ apart c e ∷ apart c f ∷ inside end d ∷ apart d e ∷ apart d f ∷ inside end e ∷ apart e f ∷ inside end f ∷ [])
  -- bed levels (i32), depths (u32), discharges (i64), masses (u64)
  pub columns : (s : List ℕ)
      → spans_of s
      ≡ span (number_at 4 s 16) (4 * number_at 4 s 8) ∷ span (number_at 4 s 20) (4 * number_at 4 s 8) ∷ span (number_at 4 s 24) (8 * number_at 4 s 8) ∷ span (number_at 4 s 28) (8 * number_at 4 s 8) ∷ []
  -- 4: the bed column's length is 1..512, the others' fit it: n each, and n+1 of c
  pub lengths : (n h q m b c : ℕ) → lengths_fit n h q m b c ≡ all_of (leb 1 n ∷ leb n 512 ∷ eqb h n ∷ eqb q n ∷ eqb m n ∷ eqb b n ∷ eqb c (n + 1) ∷ [])
  -- at opening it is n
  pub lengths_lent : (n z h q m b c : ℕ) → lent_fit n z h q m b c ≡ all_of (eqb z n ∷ eqb h n ∷ eqb q n ∷ eqb m n ∷ eqb b n ∷ eqb c (n + 1) ∷ [])
  -- 5: X is 100..100,000
  pub cell_length_lem : (X : ℕ) → cell_length_fits X ≡ all_of (leb 100 X ∷ leb X 100_000 ∷ [])
  -- 6, kind 0 wall: depth, discharge, concentration 0
  pub wall_boundary : (h k : ℕ) (q : ℤ) → wall_fits h k q ≡ all_of (eqb h 0 ∷ eqb (nat_abs q) 0 ∷ eqb k 0 ∷ [])
  -- kind 1 open: depth and discharge 0, concentration 0..500,000
  pub open_boundary_lem : (h k : ℕ) (q : ℤ) → open_fits h k q ≡ all_of (eqb h 0 ∷ eqb (nat_abs q) 0 ∷ leb k 500_000 ∷ [])
  -- kind 2 fed: depth 1..4,000,000, |discharge| ≤ 8,000 times depth, concentration as before
  pub fed_boundary : (h k : ℕ) (q : ℤ) → fed_fits h k q ≡ all_of (leb 1 h ∷ leb h 4_000_000 ∷ leb (nat_abs q) (8_000 * h) ∷ leb k 500_000 ∷ [])
  -- no other kind
  pub kinds : (kind h k : ℕ) (q : ℤ)
      → kind_fits kind h k q
      ≡ cond (eqb kind 0) (wall_fits h k q) (cond (eqb kind 1) (open_fits h k q) (cond (eqb kind 2) (fed_fits h k q) false))
  -- the zero field is 0
  pub boundary : (e : Boundary) → boundary_fits e ≡ all_of (eqb e.reserved 0 ∷ kind_fits e.kind e.depth e.concentration e.discharge ∷ [])
  -- left and right
  pub boundaries : (es : List Boundary) → boundaries_fit es ≡ all_of (boundary_fits (get_or es 0 no_boundary) ∷ boundary_fits (get_or es 1 no_boundary) ∷ [])
  -- 7: |z| ≤ 100,000,000, h ≤ 4,000,000, |q| ≤ 8,000·h, b ≤ 4,000,000, m ≤ 500,000·b
  pub cell : (z : ℤ) (h : ℕ) (q : ℤ) (m b : ℕ)
      → cell_fits z h q m b
      ≡ all_of (leb (nat_abs z) 100_000_000 ∷ leb h 4_000_000 ∷ leb (nat_abs q) (8_000 * h) ∷ leb b 4_000_000 ∷ leb m (500_000 * b) ∷ [])
  -- in each cell
  pub each_cell : (z : List ℤ) (h : List ℕ) (q : List ℤ) (m b : List ℕ)
      → cells_fit z h q m b
      ≡ all_below (length z) (λ i. cell_fits (get_or z i (pos 0)) (get_or h i 0) (get_or q i (pos 0)) (get_or m i 0) (get_or b i 0))
  -- 16: an outlet's cell is one of the n, its want 0..4,000,000
  pub outlet : (n : ℕ) (o : Outlet) → outlet_fits n o ≡ all_of (ltb o.cell n ∷ leb o.want 4_000_000 ∷ [])
  -- at most 32 outlets, and each of them
  pub outlets : (n : ℕ) (os : Outlets) → outlets_fit n os ≡ all_of (leb os.count 32 ∷ all_below os.count (λ k. outlet_fits n (get_or os.list k no_outlet)) ∷ [])
  -- 8: |c| ≤ 4,000,000, h = b + c(i) − c(i+1) − drawn, max(c(i+1),0) + max(−c(i),0) + drawn ≤ b, of c(i) = l and c(i+1) = r
  pub carried : (h b : ℕ) (l r : ℤ) (drawn : List ℕ)
      → carried_fits h b l r drawn
      ≡ all_of (leb (nat_abs l) 4_000_000 ∷ leb (nat_abs r) 4_000_000 ∷ eqℤ (pos h) (pos b +ℤ l -ℤ r -ℤ pos (sum drawn)) ∷ leb (positive r + positive (neg_ℤ l) + sum drawn) b ∷ [])
  -- in each cell
  pub carried_each_cell : (h b : List ℕ) (c : List ℤ) (drawn : ℕ → List ℕ)
      → carried_cells_fit h b c drawn
      ≡ all_below (length h) (λ i. carried_fits (get_or h i 0) (get_or b i 0) (get_or c i (pos 0)) (get_or c (i + 1) (pos 0)) (drawn i))
  -- what the outlets have drawn of cell i
  pub drawn : (os : Outlets) (i : ℕ)
      → drawn_from os i ≡ tabulate os.count (λ k. cond (eqb (get_or os.list k no_outlet).cell i) (get_or os.list k no_outlet).drawn 0)
  -- at a wall c is 0
  pub carried_at_wall : (kind : ℕ) (c : ℤ) → shut_fits kind c ≡ cond (eqb kind 0) (eqb (nat_abs c) 0) true
  -- at the interfaces 0 and n
  pub carried_all : (h b : List ℕ) (c : List ℤ) (drawn : ℕ → List ℕ) (left right : ℕ)
      → carried_fit h b c drawn left right
      ≡ all_of (carried_cells_fit h b c drawn ∷ shut_fits left (get_or c 0 (pos 0)) ∷ shut_fits right (get_or c (length h) (pos 0)) ∷ [])
  -- 9: no total exceeds 10^18 (13: of the ledger after the call)
  pub totals : (t : Totals)
      → totals_fit t
      ≡ all_of
      (leb t.water_in 1_000_000_000_000_000_000
      ∷ leb t.water_out 1_000_000_000_000_000_000
      ∷ leb t.mass_in 1_000_000_000_000_000_000
      ∷ leb t.mass_out 1_000_000_000_000_000_000
      ∷ [])
  -- for each boundary
  pub ledger : (k : Ledger) → ledger_fits k ≡ all_of (totals_fit k.left ∷ totals_fit k.right ∷ [])
  -- and both of each outlet
  pub outlet_totals : (o : Outlet)
      → outlet_totals_fit o ≡ all_of (leb o.water 1_000_000_000_000_000_000 ∷ leb o.mass 1_000_000_000_000_000_000 ∷ [])
  pub all_totals : (h : Held)
      → all_totals_fit h ≡ all_of (ledger_fits h.ledger ∷ all_below h.outlets.count (λ k. outlet_totals_fit (get_or h.outlets.list k no_outlet)) ∷ [])
  -- 10: t is 1..1,000
  pub time : (t : ℕ) → time_fits t ≡ all_of (leb 1 t ∷ leb t 1_000 ∷ [])
  -- 17: F is 0 or 10..90
  pub strickler : (F : ℕ) → strickler_fits F ≡ (eqb F 0 || all_of (leb 10 F ∷ leb F 90 ∷ []))
  -- 11: t·(|u|+a) ≤ 1,000·X at the places 0..n+1 (|u|+a is 0 at a boundary that is not fed)
  pub cfl : (s : Reach) (t : ℕ)
      → meets_cfl (place_speed s) (cells s + 1) s.cell_length t
      ≡ all_below (cells s + 2) (λ i. leb (t * place_speed s i) (1_000 * s.cell_length))
  -- 12: no new depth h + N(left) − N(right), less what its outlets draw, exceeds 4,000,000
  pub new_depths : (s : Reach) (t : ℕ)
      → depths_fit s t ≡ all_below (cells s) (λ i. le_z (pos (get_or s.depth i 0) +ℤ net_at s t i -ℤ net_at s t (suc i) -ℤ pos (sum (draws s t i))) (pos 4_000_000))
  -- 14: every c is 0
  pub none_carried_lem : (c : List ℤ) → none_carried c ≡ all_below (length c) (λ i. eqb (nat_abs (get_or c i (pos 0))) 0)
  -- and no outlet has drawn
  pub none_drawn_lem : (os : Outlets) → none_drawn os ≡ all_below os.count (λ k. eqb (get_or os.list k no_outlet).drawn 0)
  -- 15: the output is not shorter than the sheet, 80+24n
  pub room : (n room : ℕ) → room_fits n room ≡ leb (80 + 24 * n) room

-- the lists of grounds, in checking order, and the number of each ground
pub record Lists : Type 0 where
  -- the number of each ground
  pub numbers :
      map number
      (refusal.Edition ∷ refusal.Size ∷ refusal.Layout ∷ refusal.Lengths ∷ refusal.CellLength ∷ refusal.Boundaries ∷ refusal.Values ∷ refusal.Carried ∷ refusal.Ledger ∷ refusal.TimeStep
      ∷ refusal.Cfl ∷ refusal.Depth ∷ refusal.Total ∷ refusal.NotTransported ∷ refusal.ShortOutput ∷ refusal.Outlets ∷ refusal.Strickler ∷ [])
      ≡ 1 ∷ 2 ∷ 3 ∷ 4 ∷ 5 ∷ 6 ∷ 7 ∷ 8 ∷ 9 ∷ 10 ∷ 11 ∷ 12 ∷ 13 ∷ 14 ∷ 15 ∷ 16 ∷ 17 ∷ []
  -- 'Every other call on a record uses 4 to 9', with 16 'checked after 7' (the greatest-step call no others); 6 twice, for the boundaries held and those newly given (`es`: for a call that is given none, those held)
  pub record_list : (s : Reach) (es : List Boundary)
      → record_grounds s es
      ≡ ground refusal.Lengths (lengths_fit (length s.bed) (length s.depth) (length s.discharge) (length s.mass) (length s.base) (length s.carried))
      ∷ ground refusal.CellLength (cell_length_fits s.cell_length)
      ∷ ground refusal.Boundaries (boundaries_fit s.held.boundaries)
      ∷ ground refusal.Boundaries (boundaries_fit es)
      ∷ ground refusal.Values (cells_fit s.bed s.depth s.discharge s.mass s.base)
      ∷ ground refusal.Outlets (outlets_fit (length s.bed) s.held.outlets)
      ∷ ground refusal.Carried (carried_fit s.depth s.base s.carried (drawn_from s.held.outlets) (get_or s.held.boundaries 0 no_boundary).kind (get_or s.held.boundaries 1 no_boundary).kind)
      ∷ ground refusal.Ledger (all_totals_fit s.held)
      ∷ []
  -- 'then a step uses 10 to 13, a settling or end setting 13, a write 14 and 15', with 17 'checked after 10'
  pub step_list : (s : Reach) (t F : ℕ)
      → step_grounds s t F
      ≡ record_grounds s s.held.boundaries
      ++ (ground refusal.TimeStep (time_fits t)
      ∷ ground refusal.Strickler (strickler_fits F)
      ∷ ground refusal.Cfl (meets_cfl (place_speed s) (cells s + 1) s.cell_length t)
      ∷ ground refusal.Depth (depths_fit s t)
      ∷ ground refusal.Total (all_totals_fit (after_step s t F).held)
      ∷ [])
  pub transport_list : (s : Reach) (es : List Boundary) → transport_grounds s es ≡ record_grounds s es ++ (ground refusal.Total (all_totals_fit (after_transport s).held) ∷ [])
  pub write_list : (s : Reach) (room : ℕ)
      → write_grounds s room ≡ record_grounds s s.held.boundaries ++ (ground refusal.NotTransported (none_carried s.carried && none_drawn s.held.outlets) ∷ ground refusal.ShortOutput (room_fits (cells s) room) ∷ [])
  -- 'Opening uses 1 to 7', of the sheet and of the lengths of the lent columns, then 16 of the outlets lent
  pub open_list : (s : List ℕ) (z h q m b c : ℕ) (os : Outlets) →
      let r = sheet_record s os in
      open_grounds s z h q m b c os
      ≡ ground refusal.Edition (edition_fits s)
      ∷ ground refusal.Size (size_fits s)
      ∷ ground refusal.Layout (columns_clear (length s) (spans_of s))
      ∷ ground refusal.Lengths (lent_fit (number_at 4 s 8) z h q m b c)
      ∷ ground refusal.CellLength (cell_length_fits r.cell_length)
      ∷ ground refusal.Boundaries (boundaries_fit r.held.boundaries)
      ∷ ground refusal.Values (cells_fit r.bed r.depth r.discharge r.mass r.base)
      ∷ ground refusal.Outlets (outlets_fit (number_at 4 s 8) os)
      ∷ []
