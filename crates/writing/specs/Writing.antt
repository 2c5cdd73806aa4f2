-- Document 01, 'The sheet' (writing), and grounds 14 and 15; document 02, point 1: drawn water in 14.
use Rattle.std.specs.Prelude.{◌≡◌, Bool, ◌&&◌, List, [], ◌∷◌, ◌++◌, map, ℕ, ◌+◌, ◌*◌, leb, eqb, ℤ, pos, nat_abs, length, get_or}
use Rattle.numbers.specs.Index.{all_below}
use Rattle.outlet.specs.Outlets.{outlet_at}
use Rattle.outlet.specs.declared.Outlets.{Outlets}
use Rattle.reach.specs.Reach.{Reach, cells, left_boundary, right_boundary}
use Rattle.reach.specs.Grounds.{Ground, ground, first_refusal, number_of, record_grounds}
use Rattle.reach.specs.declared.boundary.Boundary.{Boundary}
use Rattle.reach.specs.declared.held.Held.{Held}
use Rattle.reach.specs.Grounds.{Verdict}
use Rattle.sheet.specs.Header.{header_size, sheet_size}
use Rattle.encoding.specs.ToBytes.{bits, column_bytes, written}
use Rattle.writing.specs.declared.write.WriteAnswer.{WriteAnswer}
use Rattle.std.specs.Prelude.{Ok, Err}
use Rattle.reach.specs.declared.refusal.Refusal.TheVariants as refusal

-- ---- the bytes of a sheet

-- u32 kind, depth, concentration and zero, i64 discharge
unfoldable pub boundary_bytes : Boundary → List ℕ
boundary_bytes e = column_bytes 4 (e.kind ∷ e.depth ∷ e.concentration ∷ 0 ∷ []) ++ column_bytes 8 (bits 8 e.discharge ∷ [])

-- the writer's order of columns: bed levels, depths, discharges, masses, each right behind the one before
abbrev pub beds_from : ℕ → ℕ
beds_from n = header_size

abbrev pub depths_from : ℕ → ℕ
depths_from n = header_size + 4 * n

abbrev pub discharges_from : ℕ → ℕ
discharges_from n = header_size + 8 * n

abbrev pub masses_from : ℕ → ℕ
masses_from n = header_size + 16 * n

-- edition 1, length in bytes, n, X, the four offsets, the left and the right boundary
unfoldable pub header_bytes : (n X : ℕ) → List Boundary → List ℕ
header_bytes n X es =
    column_bytes 4 (1 ∷ sheet_size n ∷ n ∷ X ∷ beds_from n ∷ depths_from n ∷ discharges_from n ∷ masses_from n ∷ [])
    ++ (boundary_bytes (left_boundary es) ++ boundary_bytes (right_boundary es))

-- bed levels i32, depths u32, discharges i64, masses u64
unfoldable pub sheet_bytes : Reach → List ℕ
sheet_bytes s =
    header_bytes (cells s) s.cell_length s.held.boundaries
    ++ (column_bytes 4 (map (bits 4) s.bed)
    ++ (column_bytes 4 s.depth
    ++ (column_bytes 8 (map (bits 8) s.discharge)
    ++ column_bytes 8 s.mass)))

-- ---- 14: all c are 0
unfoldable pub none_carried : List ℤ → Bool
none_carried c = all_below (length c) (λ i. eqb (nat_abs (get_or c i (pos 0))) 0)

-- '8 and 14 include drawn water': and no outlet has drawn since the last transport
unfoldable pub none_drawn : Outlets → Bool
none_drawn os = all_below os.count (λ k. eqb (outlet_at os k).drawn 0)

-- ---- 15: the output, of `room` bytes, is not shorter than the sheet
unfoldable pub room_fits : (n room : ℕ) → Bool
room_fits n room = leb (sheet_size n) room

-- 4 to 9 and 16, then 14 and 15
abbrev pub write_grounds : Reach → (room : ℕ) → List Ground
write_grounds s room =
    record_grounds s s.held.boundaries
    ++ (ground refusal.NotTransported (none_carried s.carried && none_drawn s.held.outlets) ∷ ground refusal.ShortOutput (room_fits (cells s) room) ∷ [])

-- the sheet stands at the start of the output, whose other bytes keep their values; a refused write leaves the output as it came
abbrev pub output_by : Verdict → Reach → (out : List ℕ) → List ℕ
output_by (Ok u) s out = written (sheet_bytes s) out
output_by (Err r) s out = out

unfoldable pub write_refusal : Reach → (room : ℕ) → Verdict
write_refusal s room = first_refusal (write_grounds s room)

unfoldable pub output_after : Reach → (out : List ℕ) → List ℕ
output_after s out = output_by (write_refusal s (length out)) s out

abbrev pub written_with : ℕ → Held → WriteAnswer
written_with n k = record { refusal = n; held = k }

-- a write came out as the definitions say: every field of its answer, and the output; boundaries, ledger and outlets are handed back as they came
pub record WriteCameTo (s : Reach) (out : List ℕ) (r : WriteAnswer) (out' : List ℕ) : Type 0 where
  pub refusal_is : r.refusal ≡ number_of (write_refusal s (length out))
  pub held_is : r.held ≡ s.held
  pub output_is : out' ≡ output_after s out
