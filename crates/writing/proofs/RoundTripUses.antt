-- The round trip as it is used: of what a write and an opening came to, one after the other, for any number of cells.
use mathlib.Core.Path.{◌≡◌, sym, ap, ◌∙◌}
use mathlib.Core.Bool.{true}
use mathlib.Core.List.{List}
use Prim.Native.Nat.{ℕ, ◌≤◌, ◌<◌}
use lib.ListN.{length, get_or, take}
use Rattle.reach.specs.Reach.{Reach, cells}
use Rattle.reach.specs.Grounds.{number_of, outlets_fit}
use Rattle.reach.proofs.GroundsLaws.{accepts}
use Rattle.sheet.specs.Header.{sheet_size}
use Rattle.sheet.specs.Opening.{opening}
use Rattle.encoding.specs.ToBytes.{written}
use Rattle.writing.specs.Writing.{write_refusal, output_after, WriteCameTo}
use Rattle.writing.specs.RoundTrip.{LentFor, read_back, InWritersOrder}
use Rattle.writing.specs.declared.write.WriteAnswer.{WriteAnswer}
use Rattle.writing.proofs.RoundTripLaws.{reads_back, written_again}
use Rattle.std.specs.Prelude.{Ok}

-- a write that answers 0 stood all its grounds
pub write_passes : (s : Reach) (room : ℕ) → number_of (write_refusal s room) ≡ 0 → write_refusal s room ≡ Ok tt
write_passes s room = accepts (write_refusal s room)

pub write_then_open : (s : Reach) (out : List ℕ) {w : WriteAnswer} {out' : List ℕ} → WriteCameTo s out w out' → w.refusal ≡ 0 → length s.held.boundaries ≡ 2
    → (l : Reach) → LentFor (cells s) l → outlets_fit (cells s) l.held.outlets ≡ true
    → opening (take (sheet_size (cells s)) out') l ≡ record { refusal = 0; reach = read_back s l.held.outlets }
write_then_open s out k z two l f of =
    ap (λ (b : List ℕ). opening (take (sheet_size (cells s)) b) l) k.output_is
    ∙ reads_back s out l two (write_passes s (length out) (sym k.refusal_is ∙ z)) f of

-- s is the record that the opening left
pub open_then_write : (sheet : List ℕ) (l s : Reach) (out : List ℕ) {w : WriteAnswer} {out' : List ℕ} → ((i : ℕ) → i < length sheet → get_or sheet i 0 < 256) → InWritersOrder sheet
    → (opening sheet l).refusal ≡ 0 → s ≡ (opening sheet l).reach → length sheet ≤ length out → WriteCameTo s out w out' → (w.refusal ≡ 0) × (out' ≡ written sheet out)
open_then_write sheet l s out bytes order z same room k =
    let a = written_again sheet l out bytes order z room in (
      k.refusal_is ∙ ap (λ (x : Reach). number_of (write_refusal x (length out))) same ∙ ap number_of a.0,
      k.output_is ∙ ap (λ (x : Reach). output_after x out) same ∙ a.1,
    )
