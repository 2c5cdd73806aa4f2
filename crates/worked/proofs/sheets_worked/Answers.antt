-- `worked::sheets_worked` meets its contract: every value is computed from the definitions. Assumes nothing.
use mathlib.Core.Path.{refl}
use Rattle.outlet.specs.Outlets.{from_cell, each_outlet, cleared}
use Rattle.numbers.specs.Index.{all_of, all_below, tabulate, sum}
use Rattle.numbers.specs.Signed.{eqℤ}
use Rattle.reach.specs.Parts.{parts, outflow}
use Rattle.reach.specs.Grounds.{first_refusal, lengths_fit, cell_length_fits, wall_fits, open_fits, fed_fits, kind_fits, boundary_fits, boundaries_fit, cell_fits, cells_fit, carried_fits, carried_cells_fit, shut_fits, carried_fit, totals_fit, ledger_fits, outlet_fits, outlets_fit, outlet_totals_fit, all_totals_fit}
use Rattle.encoding.specs.FromBytes.{number_at, twos_in, twos, column_at}
use Rattle.encoding.specs.ToBytes.{bytes_of, bits_in, bits, column_bytes, written}
use Rattle.sheet.specs.Header.{sheet_size, boundary_at, boundaries_of, edition_fits, size_fits, inside, apart, apart_from, columns_clear, spans_of}
use Rattle.sheet.specs.Opening.{sheet_record, lent_fit, opening}
use Rattle.writing.specs.Writing.{boundary_bytes, header_bytes, sheet_bytes, none_carried, room_fits, write_refusal, output_after, none_drawn}
use Rattle.worked.proofs.sheets_worked.Goals as goal

pub returns : goal.returns
unfolding all_of all_below tabulate sum eqℤ parts outflow first_refusal lengths_fit cell_length_fits wall_fits open_fits fed_fits kind_fits boundary_fits boundaries_fit cell_fits cells_fit carried_fits carried_cells_fit shut_fits carried_fit totals_fit ledger_fits number_at twos_in twos column_at bytes_of bits_in bits column_bytes written sheet_size boundary_at boundaries_of edition_fits size_fits inside apart apart_from columns_clear spans_of sheet_record lent_fit opening boundary_bytes header_bytes sheet_bytes none_carried room_fits write_refusal output_after outlet_fits outlets_fit outlet_totals_fit all_totals_fit from_cell each_outlet none_drawn cleared
returns c =
    record {
      opened = refl;
      written_back = refl;
      opened_turned = refl;
    }
