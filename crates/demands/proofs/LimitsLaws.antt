-- The grounds' tests in numbers: they are the definitions. Assumes nothing.
use mathlib.Core.Path.{◌≡◌, refl, ap}
use mathlib.Core.Bool.{Bool, true, false, ◌&&◌}
use mathlib.Core.List.{[], ◌∷◌}
use Prim.Native.Nat.{ℕ, suc, ◌+◌, ◌*◌}
use native.Mathlib.Omega.{arith}
use lib.Dec.{leb}
use Rattle.numbers.specs.Index.{all_of, all_below}
use Rattle.cfl.specs.Cfl.{meets_cfl}
use Rattle.outlet.specs.Outlets.{from_cell}
use Rattle.reach.specs.Reach.{cells}
use Rattle.reach.specs.Grounds.{lengths_fit, cell_length_fits, wall_fits, open_fits, fed_fits, kind_fits, boundary_fits, boundaries_fit, cell_fits, cells_fit, carried_fits, carried_cells_fit, shut_fits, carried_fit, totals_fit, ledger_fits, outlet_fits, outlets_fit, outlet_totals_fit, all_totals_fit}
use Rattle.reach.proofs.PartsLaws.{outflow_is}
use Rattle.sheet.specs.Header.{sheet_size, edition_fits, size_fits, inside, apart, apart_from, columns_clear, spans_of}
use Rattle.sheet.specs.Opening.{lent_fit, sheet_record}
use Rattle.timestep.specs.GreatestStep.{place_speed}
use Rattle.water.specs.Water.{new_depth, undrawn_depth}
use Rattle.transport.specs.Calls.{after_transport}
use Rattle.friction.specs.Friction.{strickler_fits}
use Rattle.update.specs.Step.{time_fits, depths_fit, after_step}
use Rattle.writing.specs.Writing.{none_carried, none_drawn, room_fits}
use Rattle.demands.specs.Limits.{Limits, Lists}

-- the tests of four columns, in one row
in_a_row : (c cd ce cf d de df e ef f : Bool)
    → ((c && (cd && (ce && (cf && true)))) && ((d && (de && (df && true))) && ((e && (ef && true)) && ((f && true) && true))))
    ≡ all_of (c ∷ cd ∷ ce ∷ cf ∷ d ∷ de ∷ df ∷ e ∷ ef ∷ f ∷ [])
unfolding all_of
in_a_row false cd ce cf d de df e ef f = refl
in_a_row true false ce cf d de df e ef f = refl
in_a_row true true false cf d de df e ef f = refl
in_a_row true true true false d de df e ef f = refl
in_a_row true true true true false de df e ef f = refl
in_a_row true true true true true false df e ef f = refl
in_a_row true true true true true true false e ef f = refl
in_a_row true true true true true true true false ef f = refl
in_a_row true true true true true true true true false f = refl
in_a_row true true true true true true true true true false = refl
in_a_row true true true true true true true true true true = refl

-- n+1 and one more
two_more : (n : ℕ) → suc (n + 1) ≡ n + 2
two_more n = omega arith

pub limits : Limits
unfolding new_depth undrawn_depth from_cell sheet_size edition_fits size_fits inside apart spans_of lent_fit lengths_fit cell_length_fits wall_fits open_fits fed_fits kind_fits boundary_fits boundaries_fit cell_fits cells_fit carried_fits carried_cells_fit shut_fits carried_fit totals_fit ledger_fits outlet_fits outlets_fit outlet_totals_fit all_totals_fit time_fits strickler_fits meets_cfl depths_fit none_carried none_drawn room_fits apart_from columns_clear
limits = record {
  edition = λ s. refl;
  size = λ s. refl;
  column = λ end c. refl;
  two_columns = λ c d. refl;
  four_columns = λ end c d e f. in_a_row _ _ _ _ _ _ _ _ _ _;
  columns = λ s. refl;
  lengths = λ n h q m b c. refl;
  lengths_lent = λ n z h q m b c. refl;
  cell_length_lem = λ X. refl;
  wall_boundary = λ h k q. refl;
  open_boundary_lem = λ h k q. refl;
  fed_boundary = λ h k q. refl;
  kinds = λ kind h k q. refl;
  boundary = λ e. refl;
  boundaries = λ es. refl;
  cell = λ z h q m b. refl;
  each_cell = λ z h q m b. refl;
  outlet = λ n o. refl;
  outlets = λ n os. refl;
  carried = λ h b l r drawn. rw (outflow_is l r drawn) refl;
  carried_each_cell = λ h b c drawn. refl;
  drawn = λ os i. refl;
  carried_at_wall = λ kind c. refl;
  carried_all = λ h b c drawn left right. refl;
  totals = λ t. refl;
  ledger = λ k. refl;
  outlet_totals = λ o. refl;
  all_totals = λ h. refl;
  time = λ t. refl;
  strickler = λ F. refl;
  cfl = λ s t. ap (λ (k : ℕ). all_below k (λ i. leb (t * place_speed s i) (1_000 * s.cell_length))) (two_more (cells s));
  new_depths = λ s t. refl;
  none_carried_lem = λ c. refl;
  none_drawn_lem = λ os. refl;
  room = λ n r. refl;
}

pub lists : Lists
unfolding after_step after_transport sheet_record
lists = record {
  numbers = refl;
  record_list = λ s es. refl;
  step_list = λ s t F. refl;
  transport_list = λ s es. refl;
  write_list = λ s room. refl;
  open_list = λ s z h q m b c os. refl;
}
