-- `figures::two_cell_run_met` meets its contract: every figure is computed from the definitions. Assumes nothing.
use mathlib.Core.Path.{refl}
use Rattle.outlet.specs.Outlets.{from_cell, each_outlet}
use Rattle.numbers.specs.Deal.{floors, units_left, has_unit, handed, dealt}
use Rattle.numbers.specs.Index.{all_of, all_below, tabulate, sum}
use Rattle.numbers.specs.Search.{climb, least_reaching}
use Rattle.numbers.specs.Shares.{share, shares, rest}
use Rattle.numbers.specs.Signed.{maxℤ, eqℤ}
use Rattle.flux.specs.Crossing.{upper, lower, water_of, water_flux, second_moment, momentum_of, momentum_flux, still_thrust}
use Rattle.flux.specs.Interface.{reduced_depth, left_depth, right_depth, net_water, momentum_sum, mirrored}
use Rattle.flux.specs.Velocity.{velocity}
use Rattle.flux.specs.Wave.{wave_speed}
use Rattle.friction.specs.Friction.{strickler_fits, slowed}
use Rattle.cfl.specs.Cfl.{signal_speed, speed_at, meets_cfl}
use Rattle.mass.specs.Transport.{cell_shares, rightwards, leftwards, moved_cell, moved_outlet, moved_outlets}
use Rattle.reach.specs.Parts.{parts, outflow}
use Rattle.reach.specs.Grounds.{first_refusal, lengths_fit, cell_length_fits, wall_fits, open_fits, fed_fits, kind_fits, boundary_fits, boundaries_fit, cell_fits, cells_fit, carried_fits, carried_cells_fit, shut_fits, carried_fit, totals_fit, ledger_fits, outlet_fits, outlets_fit, outlet_totals_fit, all_totals_fit}
use Rattle.transport.specs.Calls.{entering_left, entering_right, with_mass, ledger_with, transport_ledger, after_transport, set_boundaries, transport, transport_outlets, transport_held}
use Rattle.water.specs.Sides.{side_speed, cell_side, boundary_side, left_side, right_side}
use Rattle.water.specs.Water.{net_at, momentum_at, own_left, own_right, new_depth, pushed, nearest, new_discharge, available, draws, draw_of, undrawn_depth}
use Rattle.timestep.specs.GreatestStep.{boundary_speed, left_speed, right_speed, place_speed}
use Rattle.update.specs.Step.{summed, keeps_sums, transported_first, with_water, with_boundary_water, step_ledger, after_step, time_fits, depths_fit, step, summed_drawn, stepped_outlet, step_outlets, step_held}
use Rattle.figures.proofs.two_cell_run_met.Goals as goal

pub returns : goal.returns
unfolding all_of all_below tabulate climb least_reaching share shares rest maxℤ eqℤ upper lower water_of water_flux second_moment momentum_of momentum_flux still_thrust reduced_depth left_depth right_depth net_water momentum_sum mirrored velocity wave_speed signal_speed speed_at meets_cfl sum parts outflow cell_shares rightwards leftwards moved_cell first_refusal lengths_fit cell_length_fits wall_fits open_fits fed_fits kind_fits boundary_fits boundaries_fit cell_fits cells_fit carried_fits carried_cells_fit shut_fits carried_fit totals_fit ledger_fits entering_left entering_right with_mass ledger_with transport_ledger after_transport set_boundaries transport cell_side boundary_side left_side right_side net_at momentum_at own_left own_right new_depth pushed nearest new_discharge boundary_speed left_speed right_speed side_speed place_speed summed keeps_sums transported_first with_water with_boundary_water step_ledger after_step time_fits depths_fit strickler_fits slowed step moved_outlet moved_outlets outlet_fits outlets_fit outlet_totals_fit all_totals_fit transport_outlets transport_held available draws draw_of undrawn_depth summed_drawn stepped_outlet step_outlets step_held from_cell each_outlet floors units_left has_unit handed dealt
returns c = (
  record { step_accepted = refl; transport_accepted = refl; depths = refl; discharges = refl; masses = refl; ledger_empty = refl },
  record { t_260 = refl; t_261 = refl },
)
