-- Laws of writing: the sheet from its parts, and what each outcome of a write is. Assumes nothing.
use mathlib.Core.Path.{◌≡◌, refl, sym, ap, ◌∙◌}
use mathlib.Core.Bool.{true, false}
use mathlib.Core.List.{List, [], ◌∷◌, ◌++◌, append_assoc, map}
use Prim.Native.Nat.{ℕ, ◌+◌, ◌-◌, ◌*◌, ◌≤◌}
use native.Mathlib.Omega.{arith}
use lib.ListN.{length, take, drop, length-append, length-map}
use borrow.Author.Tests.{leb-true}
use borrow.Rule.Slice.PartMut.{put_mid}
use Rattle.reach.specs.Reach.{Reach, cells, left_boundary, right_boundary}
use Rattle.reach.specs.Grounds.{first_refusal, number_of, pass_or, record_grounds}
use Rattle.reach.specs.declared.boundary.Boundary.{Boundary}
use Rattle.reach.specs.Grounds.{Verdict}
use Rattle.reach.proofs.GroundsLaws.{stood, go_on, stop_at, last_one, further, passed_first, no_further}
use Rattle.reach.proofs.Sound.{Sound, sound}
use Rattle.encoding.proofs.ToBytesLaws.{written_part, next, length_column}
use Rattle.sheet.specs.Header.{sheet_size}
use Rattle.encoding.specs.ToBytes.{bytes_of, bits, column_bytes, written}
use Rattle.writing.specs.Writing.{boundary_bytes, beds_from, depths_from, discharges_from, masses_from, header_bytes, sheet_bytes, none_carried, none_drawn, room_fits, write_grounds, write_refusal, output_by, output_after, written_with, WriteCameTo}
use Rattle.writing.specs.declared.write.WriteAnswer.{WriteAnswer}
use Rattle.std.specs.Prelude.{Ok, Err}
use Rattle.reach.specs.Refusals.{number}
use Rattle.reach.specs.declared.refusal.Refusal.{Refusal}
use Rattle.reach.specs.declared.refusal.Refusal.TheVariants as refusal

-- ---- the header

pub length_boundary : (e : Boundary) → length (boundary_bytes e) ≡ 24
unfolding boundary_bytes column_bytes bytes_of
length_boundary e = refl

length_words : (n X : ℕ) → length (column_bytes 4 (1 ∷ sheet_size n ∷ n ∷ X ∷ beds_from n ∷ depths_from n ∷ discharges_from n ∷ masses_from n ∷ [])) ≡ 32
length_words n X = length_column 4 _

pub header_written : (n X : ℕ) (es : List Boundary) (out₀ out1 ys1 ys2 : List ℕ)
    → out1 ≡ written (column_bytes 4 (1 ∷ sheet_size n ∷ n ∷ X ∷ beds_from n ∷ depths_from n ∷ discharges_from n ∷ masses_from n ∷ [])) out₀
    → ys1 ≡ written (boundary_bytes (left_boundary es)) (take (length out1 - 32) (drop 32 out1))
    → ys2 ≡ written (boundary_bytes (right_boundary es)) (take (length (put_mid 32 (length out1 - 32) out1 ys1) - 56) (drop 56 (put_mid 32 (length out1 - 32) out1 ys1)))
    → put_mid 56 (length (put_mid 32 (length out1 - 32) out1 ys1) - 56) (put_mid 32 (length out1 - 32) out1 ys1) ys2 ≡ written (header_bytes n X es) out₀
unfolding header_bytes
header_written n X es out₀ out1 ys1 ys2 e0 e1 e2 =
    let p = column_bytes 4 (1 ∷ sheet_size n ∷ n ∷ X ∷ beds_from n ∷ depths_from n ∷ discharges_from n ∷ masses_from n ∷ []) in
    let l = boundary_bytes (left_boundary es) in
    let r = boundary_bytes (right_boundary es) in
    let lp : length (p ++ l) ≡ 56 = length-append p l ∙ omega (arith, length_words n X, length_boundary (left_boundary es)) in
    let step = written_part p l out₀ out1 ys1 32 (sym (length_words n X)) e0 e1 in
    written_part (p ++ l) r out₀ _ ys2 56 (sym lp) step e2 ∙ ap (λ (b : List ℕ). written b out₀) (append_assoc p l r)

pub length_header : (n X : ℕ) (es : List Boundary) → length (header_bytes n X es) ≡ 80
unfolding header_bytes
length_header n X es =
    let p = column_bytes 4 (1 ∷ sheet_size n ∷ n ∷ X ∷ beds_from n ∷ depths_from n ∷ discharges_from n ∷ masses_from n ∷ []) in
    let l = boundary_bytes (left_boundary es) in
    let r = boundary_bytes (right_boundary es) in
    length-append p (l ++ r) ∙ omega (arith, length_words n X, length-append l r, length_boundary (left_boundary es), length_boundary (right_boundary es))

-- ---- the four columns, each from its own offset on
module _ (s : Reach) (out₀ : List ℕ)
    (ld : length s.depth ≡ cells s) (lq : length s.discharge ≡ cells s) where
  pub sheet_written : (o1 o2 o3 o4 o5 : List ℕ)
      → o1 ≡ written (header_bytes (cells s) s.cell_length s.held.boundaries) out₀
      → o2 ≡ take 80 o1 ++ written (column_bytes 4 (map (bits 4) s.bed)) (drop 80 o1)
      → o3 ≡ take (80 + 4 * cells s) o2 ++ written (column_bytes 4 s.depth) (drop (80 + 4 * cells s) o2)
      → o4 ≡ take (80 + 8 * cells s) o3 ++ written (column_bytes 8 (map (bits 8) s.discharge)) (drop (80 + 8 * cells s) o3)
      → o5 ≡ take (80 + 16 * cells s) o4 ++ written (column_bytes 8 s.mass) (drop (80 + 16 * cells s) o4)
      → o5 ≡ written (sheet_bytes s) out₀
  unfolding sheet_bytes
  sheet_written o1 o2 o3 o4 o5 e1 e2 e3 e4 e5 =
      let n = cells s in
      let p = header_bytes n s.cell_length s.held.boundaries in
      let f1 = column_bytes 4 (map (bits 4) s.bed) in
      let f2 = column_bytes 4 s.depth in
      let f3 = column_bytes 8 (map (bits 8) s.discharge) in
      let f4 = column_bytes 8 s.mass in
      let l1 = length_header n s.cell_length s.held.boundaries in
      let k1 : length f1 ≡ 4 * n = length_column 4 (map (bits 4) s.bed) ∙ ap (λ (n : ℕ). 4 * n) (length-map s.bed (bits 4)) in
      let k2 : length f2 ≡ 4 * n = length_column 4 s.depth ∙ ap (λ (n : ℕ). 4 * n) ld in
      let k3 : length f3 ≡ 8 * n = length_column 8 (map (bits 8) s.discharge) ∙ ap (λ (n : ℕ). 8 * n) (length-map s.discharge (bits 8) ∙ lq) in
      let a2 : 80 + 4 * n ≡ length (p ++ f1) = sym (length-append p f1 ∙ omega (arith, l1, k1)) in
      let a3 : 80 + 8 * n ≡ length ((p ++ f1) ++ f2) = sym (length-append (p ++ f1) f2 ∙ omega (arith, a2, k2)) in
      let a4 : 80 + 16 * n ≡ length (((p ++ f1) ++ f2) ++ f3) = sym (length-append ((p ++ f1) ++ f2) f3 ∙ omega (arith, a3, k3)) in
      next (((p ++ f1) ++ f2) ++ f3) f4 out₀ o4 o5 (80 + 16 * n) a4
      (next ((p ++ f1) ++ f2) f3 out₀ o3 o4 (80 + 8 * n) a3
      (next (p ++ f1) f2 out₀ o2 o3 (80 + 4 * n) a2
      (next p f1 out₀ o1 o2 80 (sym l1) e1 e2) e3) e4) e5
      ∙ ap (λ (b : List ℕ). written b out₀)
      (append_assoc ((p ++ f1) ++ f2) f3 f4 ∙ append_assoc (p ++ f1) f2 (f3 ++ f4) ∙ append_assoc p f1 (f2 ++ (f3 ++ f4)))

-- ---- the grounds of a write, in checking order
module _ (s : Reach) (room : ℕ) where
  pub stopped_before : (r : Refusal) → first_refusal (record_grounds s s.held.boundaries) ≡ Err r → write_refusal s room ≡ Err r
  unfolding write_refusal
  stopped_before r e = no_further (record_grounds s s.held.boundaries) _ r e

  -- the record stands, so 14 decides, of the carried water first
  module _ (e : first_refusal (record_grounds s s.held.boundaries) ≡ Ok tt) where
    pub stopped_carried : none_carried s.carried ≡ false → write_refusal s room ≡ Err refusal.NotTransported
    unfolding write_refusal
    stopped_carried f = further (record_grounds s s.held.boundaries) _ e ∙ stop_at _ _ (rw f refl)

    pub stopped_drawn : none_carried s.carried ≡ true → none_drawn s.held.outlets ≡ false → write_refusal s room ≡ Err refusal.NotTransported
    unfolding write_refusal
    stopped_drawn f g = further (record_grounds s s.held.boundaries) _ e ∙ stop_at _ _ (rw (f, g) refl)

    pub room_left : none_carried s.carried ≡ true → none_drawn s.held.outlets ≡ true → write_refusal s room ≡ pass_or refusal.ShortOutput (room_fits (cells s) room)
    unfolding write_refusal
    room_left f g = further (record_grounds s s.held.boundaries) _ e ∙ go_on _ _ (rw (f, g) refl) (last_one refusal.ShortOutput _)

  -- what an accepted write tells
  pub write_sound : write_refusal s room ≡ Ok tt → Sound s
  unfolding write_refusal
  write_sound e = sound s s.held.boundaries (passed_first (record_grounds s s.held.boundaries) _ e)

  pub write_room : write_refusal s room ≡ Ok tt → sheet_size (cells s) ≤ room
  unfolding write_refusal room_fits
  write_room e = leb-true _ _ (stood (write_grounds s room) e 9)

-- ---- what each outcome of a write is
module _ (s : Reach) (out : List ℕ) where
  pub refused_write : (n : Refusal) (r : WriteAnswer) → write_refusal s (length out) ≡ Err n → r ≡ written_with (number n) s.held → WriteCameTo s out r out
  unfolding output_after
  refused_write n r e a = record {
    refusal_is = ap (λ (r : WriteAnswer). r.refusal) a ∙ sym (ap number_of e);
    held_is = ap (λ (r : WriteAnswer). r.held) a;
    output_is = sym (ap (λ (k : Verdict). output_by k s out) e);
  }

  pub accepted_write : (out' : List ℕ) → write_refusal s (length out) ≡ Ok tt → out' ≡ written (sheet_bytes s) out
      → WriteCameTo s out (written_with 0 s.held) out'
  unfolding output_after
  accepted_write out' e a = record {
    refusal_is = sym (ap number_of e);
    held_is = refl;
    output_is = a ∙ sym (ap (λ (k : Verdict). output_by k s out) e);
  }
