-- The round trip: what is written reads back, and what was read is written again. Assumes nothing.
use mathlib.Core.Path.{◌≡◌, refl, sym, ap, ap₂, ◌∙◌, subst}
use mathlib.Core.Bool.{Bool, true, false, cond, ◌&&◌, ◌||◌, true≢false}
use mathlib.Core.List.{List, [], ◌∷◌, ◌++◌, map, append_assoc, append-nil}
use Prim.Native.Nat.{ℕ, ◌+◌, ◌*◌, ◌^◌, ◌≤◌, ◌<◌}
use native.Mathlib.Omega.{arith}
use borrow.Author.Tests.{eqb-true, le-leb, leb-true, eq-eqb}
use lib.Dec.{leb, eqb}
use lib.IntN.{ℤ, pos, negsuc, nat_abs}
use lib.ListN.{length, get_or, take, drop, replicate, length-append, length-map, length-replicate, get_or-replicate, get_or-map}
use lib.Seq.{ext_get_or, take_at, take_all}
use Rattle.numbers.specs.Index.{sum, tabulate}
use Rattle.numbers.proofs.IndexLaws.{and_both, and_left, and_right, all_of_lem, all_at, all_below_lem, on, only, length_tabulate, sum_tabulate, sum_none}
use Rattle.outlet.specs.Outlets.{outlets_most, outlet_at, cleared, from_cell}
use Rattle.outlet.specs.declared.Outlet.{Outlet}
use Rattle.outlet.specs.declared.Outlets.{Outlets}
use Rattle.outlet.proofs.ClearingLaws.{cleared_at, cleared_count}
use Rattle.flux.specs.Limits.{cell_length_most}
use Rattle.reach.specs.Limits.{cells_most, wall, open_boundary, fed}
use Rattle.reach.specs.Reach.{Reach, reach_of, cells, left_boundary, right_boundary, bed_at, depth_at, discharge_at, mass_at, base_at, carried_at, held_with}
use Rattle.reach.specs.Grounds.{Ground, first_refusal, record_grounds, cell_length_fits, kind_fits, boundary_fits, boundaries_fit, cells_fit, outlets_fit}
use Rattle.reach.specs.Parts.{drawn_from}
use Rattle.reach.specs.Outcome.{Outcome}
use Rattle.reach.specs.declared.boundary.Boundary.{Boundary}
use Rattle.reach.specs.Grounds.{Verdict}
use Rattle.reach.proofs.GroundsLaws.{stood, go_on, further, passed_first}
use Rattle.reach.proofs.PartsLaws.{outflow_is}
use Rattle.reach.proofs.Sound.{boundary_sound, CarriedSound, Sound, sound, stands, outlets_few}
use Rattle.encoding.specs.FromBytes.{number_at, twos, column_at}
use Rattle.sheet.specs.Header.{sheet_size, edition_of, length_of, count_of, cell_length_of, beds_at, depths_at, discharges_at, masses_at, boundary_at, boundaries_of, edition_fits, size_fits, Span, span, inside, apart, columns_clear, spans_of}
use Rattle.sheet.specs.Opening.{empty_ledger, sheet_record, lent_fit, open_grounds, opening}
use Rattle.sheet.proofs.HeaderLaws.{four_clear}
use Rattle.sheet.proofs.OpeningLaws.{accepted, opened_passes, opened_sound}
use Rattle.encoding.specs.ToBytes.{bits_in, bits, column_bytes, written}
use Rattle.writing.specs.Writing.{boundary_bytes, beds_from, depths_from, discharges_from, masses_from, header_bytes, sheet_bytes, none_carried, none_drawn, room_fits, write_grounds, output_by, write_refusal, output_after}
use Rattle.writing.specs.RoundTrip.{LentFor, read_back, ReadsBack, InWritersOrder, WrittenAgain}
use Rattle.encoding.proofs.ToBytesLaws.{length_column}
use Rattle.writing.proofs.WritingLaws.{length_boundary, length_header}
use Rattle.encoding.proofs.BytesBack.{number_past, word_back, column_back, bits4_below, bits8_below, twos_bits4, twos_bits8, AllBytes, all_bytes, joined, column_again, turned_again, bits_twos4, bits_twos8}
use Rattle.std.specs.Prelude.{Ok}

-- ---- the header read back

-- a boundary's kind is one of three
kind_of_lem : (k : ℕ) (a b c w o f : Bool) → eqb k wall ≡ a → eqb k open_boundary ≡ b → eqb k fed ≡ c → cond a w (cond b o (cond c f false)) ≡ true → k ≤ 2
kind_of_lem k true b c w o f p q r e = omega (arith, eqb-true k 0 p)
kind_of_lem k false true c w o f p q r e = omega (arith, eqb-true k 1 q)
kind_of_lem k false false true w o f p q r e = omega (arith, eqb-true k 2 r)
kind_of_lem k false false false w o f p q r e = let z : ◌≡◌ {A = ℕ} 0 1 = cc in absurd (omega arith)

kind_small : (e : Boundary) → boundary_fits e ≡ true → e.kind ≤ 2
unfolding boundary_fits kind_fits
kind_small e p = kind_of_lem e.kind _ _ _ _ _ _ refl refl refl (all_of_lem _ p 1)

none_reserved : (e : Boundary) → boundary_fits e ≡ true → e.reserved ≡ 0
unfolding boundary_fits
none_reserved e p = eqb-true _ _ (all_of_lem _ p 0)

same_boundary : (k r h c : ℕ) (d : ℤ) (e : Boundary) → k ≡ e.kind → r ≡ e.reserved → h ≡ e.depth → c ≡ e.concentration → d ≡ e.discharge
    → ◌≡◌ {A = Boundary} (record { kind = k; reserved = r; depth = h; concentration = c; discharge = d }) e
same_boundary k r h c d e p q x y z = rw (p, q, x, y, z) refl

boundary_back : (p q : List ℕ) (e : Boundary) (at : ℕ) → length p ≡ at → boundary_fits e ≡ true → boundary_at (p ++ (boundary_bytes e ++ q)) at ≡ e
unfolding boundary_at boundary_bytes
boundary_back p q e at l f =
    let ws : List ℕ = e.kind ∷ e.depth ∷ e.concentration ∷ 0 ∷ [] in
    let ds : List ℕ = bits 8 e.discharge ∷ [] in
    let b = column_bytes 4 ws ++ column_bytes 8 ds in
    let k = boundary_sound e f in
    let kind = kind_small e f in
    let flat : b ++ q ≡ column_bytes 4 ws ++ (column_bytes 8 ds ++ q) = append_assoc (column_bytes 4 ws) (column_bytes 8 ds) q in
    let word : (i j : ℕ) → j ≡ at + 4 * i → i < 4 → get_or ws i 0 < 256 ^ 4 → number_at 4 (p ++ (b ++ q)) j ≡ get_or ws i 0
    = λ i j e₁ e₂ e₃.
    number_past 4 p (b ++ q) (4 * i) j (omega arith) ∙ ap (λ (x : List ℕ). number_at 4 x (4 * i)) flat
    ∙ word_back 4 ws (column_bytes 8 ds ++ q) i e₂ e₃ in
    let small : nat_abs e.discharge < 9_223_372_036_854_775_808 = omega (arith, k.discharge, k.depth) in
    let last : number_at 8 (p ++ (b ++ q)) (at + 16) ≡ bits 8 e.discharge
    = number_past 8 p (b ++ q) 16 (at + 16) (omega arith) ∙ ap (λ (x : List ℕ). number_at 8 x 16) flat
    ∙ number_past 8 (column_bytes 4 ws) (column_bytes 8 ds ++ q) 0 16 (omega (arith, length_column 4 ws))
    ∙ word_back 8 ds q 0 (omega arith) (bits8_below e.discharge small) in
    same_boundary _ _ _ _ _ e
    (word 0 at (omega arith) (omega arith) (omega arith))
    (word 3 (at + 12) (omega arith) (omega arith) (omega arith) ∙ sym (none_reserved e f))
    (word 1 (at + 4) (omega arith) (omega arith) (omega (arith, k.depth)))
    (word 2 (at + 8) (omega arith) (omega arith) (omega (arith, k.concentration)))
    (ap (twos 8) last ∙ twos_bits8 e.discharge small)

-- what the header of t says
pub record Headed (t : List ℕ) (n X : ℕ) (es : List Boundary) : Type 0 where
  pub edition : edition_of t ≡ 1
  pub size : length_of t ≡ sheet_size n
  pub count : count_of t ≡ n
  pub cell_length : cell_length_of t ≡ X
  pub beds : beds_at t ≡ beds_from n
  pub depths : depths_at t ≡ depths_from n
  pub discharges : discharges_at t ≡ discharges_from n
  pub masses : masses_at t ≡ masses_from n
  pub left : boundary_at t 32 ≡ left_boundary es
  pub right : boundary_at t 56 ≡ right_boundary es

header_back : (n X : ℕ) (es : List Boundary) (q : List ℕ) → n ≤ cells_most → X ≤ cell_length_most → boundaries_fit es ≡ true
    → Headed (header_bytes n X es ++ q) n X es
unfolding header_bytes sheet_size boundaries_fit
header_back n X es q few x f =
    let ws : List ℕ = 1 ∷ sheet_size n ∷ n ∷ X ∷ beds_from n ∷ depths_from n ∷ discharges_from n ∷ masses_from n ∷ [] in
    let w = column_bytes 4 ws in
    let l = boundary_bytes (left_boundary es) in
    let r = boundary_bytes (right_boundary es) in
    let t = (w ++ (l ++ r)) ++ q in
    let lw : length w ≡ 32 = length_column 4 ws in
    let lwl : length (w ++ l) ≡ 56 = length-append w l ∙ omega (arith, lw, length_boundary (left_boundary es)) in
    let flat : t ≡ w ++ (l ++ (r ++ q)) = append_assoc w (l ++ r) q ∙ ap (λ (y : List ℕ). w ++ y) (append_assoc l r q) in
    let flat₂ : t ≡ (w ++ l) ++ (r ++ q) = flat ∙ sym (append_assoc w l (r ++ q)) in
    let word : (i : ℕ) → i < 8 → get_or ws i 0 < 256 ^ 4 → number_at 4 t (4 * i) ≡ get_or ws i 0
    = λ i e₁ e₂. ap (λ (y : List ℕ). number_at 4 y (4 * i)) flat ∙ word_back 4 ws (l ++ (r ++ q)) i e₁ e₂ in
    let boundaries = all_of_lem _ f in
    record {
      edition = word 0 (omega arith) (omega arith);
      size = word 1 (omega arith) (omega arith);
      count = word 2 (omega arith) (omega arith);
      cell_length = word 3 (omega arith) (omega arith);
      beds = word 4 (omega arith) (omega arith);
      depths = word 5 (omega arith) (omega arith);
      discharges = word 6 (omega arith) (omega arith);
      masses = word 7 (omega arith) (omega arith);
      left = ap (λ (y : List ℕ). boundary_at y 32) flat ∙ boundary_back w (r ++ q) (left_boundary es) 32 lw (boundaries 0);
      right = ap (λ (y : List ℕ). boundary_at y 56) flat₂ ∙ boundary_back (w ++ l) q (right_boundary es) 56 lwl (boundaries 1);
    }

-- ---- a sheet's pieces

-- as many of each as cells
pub record Columns (s : Reach) : Type 0 where
  pub depths : length s.depth ≡ cells s
  pub discharges : length s.discharge ≡ cells s
  pub masses : length s.mass ≡ cells s

module _ (s : Reach) where
  abbrev n : ℕ
  n = cells s

  abbrev head : List ℕ
  head = header_bytes (cells s) s.cell_length s.held.boundaries

  abbrev bed_column : List ℕ
  bed_column = column_bytes 4 (map (bits 4) s.bed)

  abbrev depth_column : List ℕ
  depth_column = column_bytes 4 s.depth

  abbrev discharge_column : List ℕ
  discharge_column = column_bytes 8 (map (bits 8) s.discharge)

  abbrev mass_column : List ℕ
  mass_column = column_bytes 8 s.mass

  to_beds : length head ≡ beds_from n
  to_beds = length_header (cells s) s.cell_length s.held.boundaries

  to_depths : length (head ++ bed_column) ≡ depths_from n
  to_depths = length-append head bed_column ∙ omega (arith, to_beds, length_column 4 (map (bits 4) s.bed), length-map s.bed (bits 4))

  module _ (k : Columns s) where
    to_discharges : length ((head ++ bed_column) ++ depth_column) ≡ discharges_from n
    to_discharges = length-append (head ++ bed_column) depth_column ∙ omega (arith, to_depths, length_column 4 s.depth, k.depths)

    to_masses : length (((head ++ bed_column) ++ depth_column) ++ discharge_column) ≡ masses_from n
    to_masses =
        length-append ((head ++ bed_column) ++ depth_column) discharge_column
        ∙ omega (arith, to_discharges, length_column 8 (map (bits 8) s.discharge), length-map s.discharge (bits 8), k.discharges)

  from_depths : sheet_bytes s ≡ (head ++ bed_column) ++ (depth_column ++ (discharge_column ++ mass_column))
  unfolding sheet_bytes
  from_depths = sym (append_assoc head bed_column (depth_column ++ (discharge_column ++ mass_column)))

  from_discharges : sheet_bytes s ≡ ((head ++ bed_column) ++ depth_column) ++ (discharge_column ++ mass_column)
  from_discharges = from_depths ∙ sym (append_assoc (head ++ bed_column) depth_column (discharge_column ++ mass_column))

  from_masses : sheet_bytes s ≡ (((head ++ bed_column) ++ depth_column) ++ discharge_column) ++ mass_column
  from_masses = from_discharges ∙ sym (append_assoc ((head ++ bed_column) ++ depth_column) discharge_column mass_column)

  pub length_sheet : Columns s → length (sheet_bytes s) ≡ sheet_size (cells s)
  unfolding sheet_size
  length_sheet k =
      ap length from_masses ∙ length-append (((head ++ bed_column) ++ depth_column) ++ discharge_column) mass_column
      ∙ omega (arith, to_masses k, length_column 8 s.mass, k.masses)

  -- ---- the columns read back

  module _ (k : Sound s) where
    abbrev t : List ℕ
    t = sheet_bytes s

    columns : Columns s
    columns = record { depths = k.depths; discharges = k.discharges; masses = k.masses }

    signed4 : (i : ℕ) → i < cells s → nat_abs (bed_at s i) < 2_147_483_648
    signed4 i l = omega (arith, (k.cell i l).bed)

    signed8 : (i : ℕ) → i < cells s → nat_abs (discharge_at s i) < 9_223_372_036_854_775_808
    signed8 i l = omega (arith, (k.cell i l).discharge, (k.cell i l).depth)

    mass_small : (i : ℕ) → i < cells s → mass_at s i < 256 ^ 8
    mass_small i l = omega (arith, (k.cell i l).mass, (k.cell i l).base)

    entry4 : (i : ℕ) → get_or (map (bits 4) s.bed) i 0 ≡ bits 4 (bed_at s i)
    unfolding bits bits_in
    entry4 i = get_or-map (bits 4) s.bed i (pos 0)

    entry8 : (i : ℕ) → get_or (map (bits 8) s.discharge) i 0 ≡ bits 8 (discharge_at s i)
    unfolding bits bits_in
    entry8 i = get_or-map (bits 8) s.discharge i (pos 0)

    beds_back : column_at (twos 4) 4 t (beds_from n) n ≡ s.bed
    unfolding sheet_bytes
    beds_back =
        column_back (twos 4) 4 head (map (bits 4) s.bed) (depth_column ++ (discharge_column ++ mass_column)) s.bed (pos 0) (beds_from n) n
        to_beds (length-map s.bed (bits 4)) refl
        (λ i l. rw (entry4 i) (bits4_below (bed_at s i) (signed4 i l)))
        (λ i l. rw (entry4 i) (twos_bits4 (bed_at s i) (signed4 i l)))

    depths_back : column_at (λ v. v) 4 t (depths_from n) n ≡ s.depth
    depths_back =
        ap (λ (y : List ℕ). column_at (λ v. v) 4 y (depths_from n) n) from_depths
        ∙ column_back (λ v. v) 4 (head ++ bed_column) s.depth (discharge_column ++ mass_column) s.depth 0 (depths_from n) n
        to_depths k.depths k.depths (λ i l. omega (arith, (k.cell i l).depth)) (λ i l. refl)

    discharges_back : column_at (twos 8) 8 t (discharges_from n) n ≡ s.discharge
    discharges_back =
        ap (λ (y : List ℕ). column_at (twos 8) 8 y (discharges_from n) n) from_discharges
        ∙ column_back (twos 8) 8 ((head ++ bed_column) ++ depth_column) (map (bits 8) s.discharge) mass_column s.discharge (pos 0) (discharges_from n) n
        (to_discharges columns) (length-map s.discharge (bits 8) ∙ k.discharges) k.discharges
        (λ i l. rw (entry8 i) (bits8_below (discharge_at s i) (signed8 i l)))
        (λ i l. rw (entry8 i) (twos_bits8 (discharge_at s i) (signed8 i l)))

    masses_back : column_at (λ v. v) 8 t (masses_from n) n ≡ s.mass
    masses_back =
        ap (λ (y : List ℕ). column_at (λ v. v) 8 y (masses_from n) n)
        (from_masses ∙ ap (λ (y : List ℕ). (((head ++ bed_column) ++ depth_column) ++ discharge_column) ++ y) (sym (append-nil mass_column)))
        ∙ column_back (λ v. v) 8 (((head ++ bed_column) ++ depth_column) ++ discharge_column) s.mass [] s.mass 0 (masses_from n) n
        (to_masses columns) k.masses k.masses mass_small (λ i l. refl)

    headed : Headed t n s.cell_length s.held.boundaries
    unfolding sheet_bytes
    headed =
        header_back n s.cell_length s.held.boundaries (bed_column ++ (depth_column ++ (discharge_column ++ mass_column))) k.few k.length_most k.boundaries

-- ---- a record that carries nothing, and of which nothing is drawn

no_size : (z : ℤ) → nat_abs z ≡ 0 → z ≡ pos 0
no_size (pos n) e = ap pos e
no_size (negsuc n) e = absurd (omega arith)

transported_at : (c : List ℤ) → none_carried c ≡ true → (i : ℕ) → i < length c → get_or c i (pos 0) ≡ pos 0
unfolding none_carried
transported_at c e i l = no_size (get_or c i (pos 0)) (eqb-true _ _ (all_at (λ i. eqb (nat_abs (get_or c i (pos 0))) 0) (length c) i e l))

undrawn_at : (os : Outlets) → none_drawn os ≡ true → (i : ℕ) → sum (drawn_from os i) ≡ 0
unfolding none_drawn from_cell
undrawn_at os e i =
    let from : Outlet → ℕ = λ o. cond (eqb o.cell i) o.drawn 0 in
    sum_tabulate os.count (λ k. from (outlet_at os k))
    ∙ sum_none os.count (λ k. from (outlet_at os k))
    (λ k l. none (eqb (outlet_at os k).cell i) (outlet_at os k).drawn (eqb-true _ _ (all_at (λ k. eqb (outlet_at os k).drawn 0) os.count k e l)))
  where
    none : (b : Bool) (x : ℕ) → x ≡ 0 → cond b x 0 ≡ 0
    none true x z = z
    none false x z = refl

-- with nothing carried and nothing drawn, base depth and depth agree
still : (h b : ℕ) (l r : ℤ) (ds : List ℕ) → CarriedSound h b l r ds → l ≡ pos 0 → r ≡ pos 0 → sum ds ≡ 0 → h ≡ b
still h b l r ds k e f d = let m = rw (e, f) at k.balance in omega (arith, m, d, outflow_is (pos 0) (pos 0) ds)

transported_base : (s : Reach) → Sound s → none_carried s.carried ≡ true → none_drawn s.held.outlets ≡ true → s.depth ≡ s.base
transported_base s k e d =
    ext_get_or 0 s.depth s.base (k.depths ∙ sym k.bases)
    (λ i l.
    let j : i < cells s = omega (arith, k.depths) in
    still (depth_at s i) (base_at s i) (carried_at s i) (carried_at s (i + 1)) (drawn_from s.held.outlets i) (k.water i j)
    (transported_at s.carried e i (omega (arith, k.interfaces))) (transported_at s.carried e (i + 1) (omega (arith, k.interfaces)))
    (undrawn_at s.held.outlets d i))

transported_none : (s : Reach) → Sound s → none_carried s.carried ≡ true → replicate (cells s + 1) (pos 0) ≡ s.carried
transported_none s k e =
    let r = replicate (cells s + 1) (pos 0) in
    let lr = length-replicate (cells s + 1) (pos 0) in
    ext_get_or (pos 0) r s.carried (lr ∙ sym k.interfaces)
    (λ i l. get_or-replicate (cells s + 1) i (pos 0) (pos 0) (omega (arith, lr)) ∙ sym (transported_at s.carried e i (omega (arith, lr, k.interfaces))))

pair : (es : List Boundary) → length es ≡ 2 → ◌≡◌ {A = List Boundary} (left_boundary es ∷ right_boundary es ∷ []) es
pair [] e = absurd (omega arith)
pair (a ∷ []) e = absurd (omega arith)
pair (a ∷ b ∷ []) e = refl
pair (a ∷ b ∷ c ∷ es) e = absurd (omega arith)

boundaries_back : (t : List ℕ) (n X : ℕ) (es : List Boundary) → Headed t n X es → length es ≡ 2 → boundaries_of t ≡ es
unfolding boundaries_of
boundaries_back t n X es h two = ap₂ (λ (a b : Boundary). a ∷ b ∷ []) h.left h.right ∙ pair es two

same_reach : {z z' : List ℤ} {h h' : List ℕ} {q q' : List ℤ} {m m' b b' : List ℕ} {c c' : List ℤ} {X X' : ℕ} {es es' : List Boundary} (os : Outlets)
    → z ≡ z' → h ≡ h' → q ≡ q' → m ≡ m' → b ≡ b' → c ≡ c' → X ≡ X' → es ≡ es'
    → reach_of z h q m b c X (held_with es empty_ledger (cleared os)) ≡ reach_of z' h' q' m' b' c' X' (held_with es' empty_ledger (cleared os))
same_reach os e₁ e₂ e₃ e₄ e₅ e₆ e₇ e₈ = rw (e₁, e₂, e₃, e₄, e₅, e₆, e₇, e₈) refl

record_back : (s : Reach) (os : Outlets) → Sound s → none_carried s.carried ≡ true → none_drawn s.held.outlets ≡ true → length s.held.boundaries ≡ 2
    → sheet_record (sheet_bytes s) os ≡ read_back s os
unfolding sheet_record
record_back s os k e d two =
    let t = sheet_bytes s in
    let h = headed s k in
    let depths = ap₂ (λ (at n : ℕ). column_at (λ v. v) 4 t at n) h.depths h.count ∙ depths_back s k in
    same_reach os
    (ap₂ (λ (at n : ℕ). column_at (twos 4) 4 t at n) h.beds h.count ∙ beds_back s k)
    depths
    (ap₂ (λ (at n : ℕ). column_at (twos 8) 8 t at n) h.discharges h.count ∙ discharges_back s k)
    (ap₂ (λ (at n : ℕ). column_at (λ v. v) 8 t at n) h.masses h.count ∙ masses_back s k)
    (depths ∙ transported_base s k e d)
    (ap (λ (n : ℕ). replicate (n + 1) (pos 0)) h.count ∙ transported_none s k e)
    h.cell_length
    (boundaries_back t (cells s) s.cell_length s.held.boundaries h two)

-- ---- the grounds of an opening stand

or_first : (a b : Bool) → a ≡ true → (a || b) ≡ true
or_first a b e = rw e refl

lies_inside : (end a k : ℕ) → 80 ≤ a → a + k ≤ end → inside end (span a k) ≡ true
unfolding inside
lies_inside end a k l m = and_both (leb 80 a) (leb (a + k) end) (le-leb _ _ l) (le-leb _ _ m)

lies_before : (a k b j : ℕ) → a + k ≤ b → apart (span a k) (span b j) ≡ true
unfolding apart
lies_before a k b j l = or_first (leb (a + k) b) (leb (b + j) a) (le-leb _ _ l)

clear : (n : ℕ) → columns_clear (80 + 24 * n) (span 80 (4 * n) ∷ span (80 + 4 * n) (4 * n) ∷ span (80 + 8 * n) (8 * n) ∷ span (80 + 16 * n) (8 * n) ∷ []) ≡ true
clear n =
    let a = span 80 (4 * n) in
    let b = span (80 + 4 * n) (4 * n) in
    let c = span (80 + 8 * n) (8 * n) in
    let d = span (80 + 16 * n) (8 * n) in
    let end = 80 + 24 * n in
    four_clear end a b c d
    ∙ and_both _ _
    (and_both _ _ (lies_inside end _ _ (omega arith) (omega arith))
    (and_both _ _ (lies_before _ _ (80 + 4 * n) (4 * n) (omega arith))
    (and_both _ _ (lies_before _ _ (80 + 8 * n) (8 * n) (omega arith)) (lies_before _ _ (80 + 16 * n) (8 * n) (omega arith)))))
    (and_both _ _
    (and_both _ _ (lies_inside end _ _ (omega arith) (omega arith))
    (and_both _ _ (lies_before _ _ (80 + 8 * n) (8 * n) (omega arith)) (lies_before _ _ (80 + 16 * n) (8 * n) (omega arith))))
    (and_both _ _
    (and_both _ _ (lies_inside end _ _ (omega arith) (omega arith)) (lies_before _ _ (80 + 16 * n) (8 * n) (omega arith)))
    (lies_inside end _ _ (omega arith) (omega arith))))

module _ (t : List ℕ) (n X : ℕ) (es : List Boundary) (h : Headed t n X es) (long : length t ≡ sheet_size n) where
  edition_stands : edition_fits t ≡ true
  unfolding edition_fits sheet_size
  edition_stands = on _ _ (le-leb 80 (length t) (omega (arith, long))) (only _ ∙ eq-eqb _ _ h.edition)

  size_stands : 1 ≤ n → n ≤ cells_most → size_fits t ≡ true
  unfolding size_fits
  size_stands some few =
      on _ _ (le-leb 1 (count_of t) (omega (arith, some, h.count))) (on _ _ (le-leb (count_of t) cells_most (omega (arith, few, h.count)))
      (on _ _ (eq-eqb _ _ (h.size ∙ sym long)) (only _ ∙ eq-eqb _ _ (h.size ∙ ap sheet_size (sym h.count)))))

  clear_stands : columns_clear (length t) (spans_of t) ≡ true
  unfolding spans_of sheet_size
  clear_stands = rw (h.beds, h.depths, h.discharges, h.masses, h.count, long) (clear n)

  lent_stands : (l : Reach) → LentFor n l
      → lent_fit (count_of t) (length l.bed) (length l.depth) (length l.discharge) (length l.mass) (length l.base) (length l.carried) ≡ true
  unfolding lent_fit
  lent_stands l k =
      let c = sym h.count in
      on _ _ (eq-eqb _ _ (k.beds ∙ c)) (on _ _ (eq-eqb _ _ (k.depths ∙ c)) (on _ _ (eq-eqb _ _ (k.discharges ∙ c)) (on _ _ (eq-eqb _ _ (k.masses ∙ c))
      (on _ _ (eq-eqb _ _ (k.bases ∙ c)) (only _ ∙ eq-eqb _ _ (k.interfaces ∙ ap (λ (j : ℕ). j + 1) c))))))

no_grounds : first_refusal [] ≡ Ok tt
unfolding first_refusal
no_grounds = refl

opens : (s l : Reach) → first_refusal (record_grounds s s.held.boundaries) ≡ Ok tt → none_carried s.carried ≡ true → none_drawn s.held.outlets ≡ true
    → length s.held.boundaries ≡ 2 → LentFor (cells s) l → outlets_fit (cells s) l.held.outlets ≡ true
    → opening (sheet_bytes s) l ≡ record { refusal = 0; reach = read_back s l.held.outlets }
opens s l e f d two lf of =
    let t = sheet_bytes s in
    let os = l.held.outlets in
    let g = stood (record_grounds s s.held.boundaries) e in
    let k = sound s s.held.boundaries e in
    let h = headed s k in
    let long = length_sheet s (columns s k) in
    let X = s.cell_length in
    let n = cells s in
    let es = s.held.boundaries in
    let same = record_back s os k f d two in
    let gs = open_grounds t (length l.bed) (length l.depth) (length l.discharge) (length l.mass) (length l.base) (length l.carried) os in
    let passes : first_refusal gs ≡ Ok tt =
    go_on _ _ (edition_stands t n X es h long)
    (go_on _ _ (size_stands t n X es h long k.some k.few)
    (go_on _ _ (clear_stands t n X es h long)
    (go_on _ _ (lent_stands t n X es h long l lf)
    (go_on _ _ (ap cell_length_fits h.cell_length ∙ g 1)
    (go_on _ _ (ap boundaries_fit (boundaries_back t n X es h two) ∙ g 2)
    (go_on _ _ (ap (λ (r : Reach). cells_fit r.bed r.depth r.discharge r.mass r.base) same ∙ g 4)
    (go_on _ _ (ap (λ (n : ℕ). outlets_fit n os) h.count ∙ of)
    no_grounds))))))) in
    accepted t l passes ∙ ap (λ (r : Reach). record { refusal = 0; reach = r }) same

output_passed : (s : Reach) (out : List ℕ) → write_refusal s (length out) ≡ Ok tt → output_after s out ≡ written (sheet_bytes s) out
unfolding output_after
output_passed s out e = ap (λ (k : Verdict). output_by k s out) e

written_first : (p out : List ℕ) (n : ℕ) → length p ≡ n → take n (written p out) ≡ p
unfolding written
written_first p out n e = take_at p (drop (length p) out) n e

write_grounds_lem : (s : Reach) (room : ℕ) → write_refusal s room ≡ Ok tt → first_refusal (write_grounds s room) ≡ Ok tt
unfolding write_refusal
write_grounds_lem s room e = e

pub reads_back : ReadsBack
reads_back s out l two pass lf of =
    let e = write_grounds_lem s (length out) pass in
    let r = passed_first (record_grounds s s.held.boundaries) _ e in
    let k = sound s s.held.boundaries r in
    let due = stood (write_grounds s (length out)) e 8 in
    ap (λ (t : List ℕ). opening t l)
    (ap (take (sheet_size (cells s))) (output_passed s out pass)
    ∙ written_first (sheet_bytes s) out (sheet_size (cells s)) (length_sheet s (columns s k)))
    ∙ opens s l r (and_left (none_carried s.carried) (none_drawn s.held.outlets) due) (and_right (none_carried s.carried) (none_drawn s.held.outlets) due) two lf of

-- ---- a sheet written again

module _ (s : List ℕ) (bytes : AllBytes s) where
  four_words : (at : ℕ) → number_at 4 s (at + 12) ≡ 0
      → ◌≡◌ {A = List ℕ} (number_at 4 s at ∷ number_at 4 s (at + 4) ∷ number_at 4 s (at + 8) ∷ 0 ∷ []) (column_at (λ v. v) 4 s at 4)
  unfolding column_at tabulate
  four_words at z = let e : at + 4 * 0 ≡ at = omega arith in rw (e, z) refl

  one_signed : (at : ℕ) → at + 8 ≤ length s → column_bytes 8 (bits 8 (twos 8 (number_at 8 s at)) ∷ []) ≡ take 8 (drop at s)
  unfolding column_at tabulate
  one_signed at l =
      let e : at ≡ at + 8 * 0 = omega arith in
      ap (λ (k : ℕ). column_bytes 8 (bits 8 (twos 8 (number_at 8 s k)) ∷ [])) e ∙ turned_again (twos 8) (bits 8) 8 s at 1 bytes (omega arith) bits_twos8

  boundary_again : (at : ℕ) → at + 24 ≤ length s → boundary_fits (boundary_at s at) ≡ true → boundary_bytes (boundary_at s at) ≡ take 24 (drop at s)
  unfolding boundary_bytes boundary_at
  boundary_again at l f =
      ap₂ (λ (a b : List ℕ). a ++ b) (ap (column_bytes 4) (four_words at (none_reserved (boundary_at s at) f)) ∙ column_again 4 s at 4 bytes (omega arith))
      (one_signed (at + 16) (omega arith))
      ∙ joined s at 16 8 (at + 16) refl

  eight_words : (n X : ℕ) (es : List Boundary) → Headed s n X es
      → ◌≡◌ {A = List ℕ} (1 ∷ sheet_size n ∷ n ∷ X ∷ beds_from n ∷ depths_from n ∷ discharges_from n ∷ masses_from n ∷ []) (column_at (λ v. v) 4 s 0 8)
  unfolding column_at tabulate
  eight_words n X es h = rw (h.edition, h.size, h.count, h.cell_length, h.beds, h.depths, h.discharges, h.masses) refl

  header_again : (n X : ℕ) → Headed s n X (boundaries_of s) → 80 ≤ length s → boundaries_fit (boundaries_of s) ≡ true → header_bytes n X (boundaries_of s) ≡ take 80 s
  unfolding header_bytes boundaries_of boundaries_fit
  header_again n X h l f =
      let boundaries = all_of_lem _ f in
      let words = ap (column_bytes 4) (eight_words n X _ h) ∙ column_again 4 s 0 8 bytes (omega arith) in
      let left = boundary_again 32 (omega arith) (boundaries 0) in
      let right = boundary_again 56 (omega arith) (boundaries 1) in
      ap₂ (λ (a b : List ℕ). a ++ b) words (ap₂ (λ (a b : List ℕ). a ++ b) left right ∙ joined s 32 24 24 56 refl)
      ∙ joined s 0 32 48 32 refl

  pieces : (n : ℕ) (a z h q m : List ℕ) → length s ≡ 80 + 24 * n → a ≡ take 80 s → z ≡ take (4 * n) (drop 80 s) → h ≡ take (4 * n) (drop (80 + 4 * n) s)
      → q ≡ take (8 * n) (drop (80 + 8 * n) s) → m ≡ take (8 * n) (drop (80 + 16 * n) s) → a ++ (z ++ (h ++ (q ++ m))) ≡ s
  pieces n a z h q m l e₁ e₂ e₃ e₄ e₅ =
      let app : List ℕ → List ℕ → List ℕ = λ a b. a ++ b in
      let qm : q ++ m ≡ take (8 * n + 8 * n) (drop (80 + 8 * n) s) = ap₂ app e₄ e₅ ∙ joined s (80 + 8 * n) (8 * n) (8 * n) (80 + 16 * n) (omega arith) in
      let hm : h ++ (q ++ m) ≡ take (4 * n + (8 * n + 8 * n)) (drop (80 + 4 * n) s)
      = ap₂ app e₃ qm ∙ joined s (80 + 4 * n) (4 * n) (8 * n + 8 * n) (80 + 8 * n) (omega arith) in
      let zm : z ++ (h ++ (q ++ m)) ≡ take (4 * n + (4 * n + (8 * n + 8 * n))) (drop 80 s)
      = ap₂ app e₂ hm ∙ joined s 80 (4 * n) (4 * n + (8 * n + 8 * n)) (80 + 4 * n) refl in
      ap₂ app e₁ zm ∙ joined s 0 80 (4 * n + (4 * n + (8 * n + 8 * n))) 80 refl ∙ take_all (80 + (4 * n + (4 * n + (8 * n + 8 * n)))) s (omega arith)

  cells_are : (os : Outlets) → cells (sheet_record s os) ≡ count_of s
  unfolding sheet_record column_at
  cells_are os = length_tabulate (count_of s) _

  sheet_again : (os : Outlets) → Headed s (count_of s) (cell_length_of s) (boundaries_of s) → length s ≡ sheet_size (count_of s) → boundaries_fit (boundaries_of s) ≡ true
      → sheet_bytes (sheet_record s os) ≡ s
  unfolding sheet_bytes sheet_record sheet_size
  sheet_again os h l f =
      let n = count_of s in
      let X = cell_length_of s in
      let beds : column_bytes 4 (map (bits 4) (column_at (twos 4) 4 s (beds_at s) n)) ≡ take (4 * n) (drop 80 s)
      = ap (λ (at : ℕ). column_bytes 4 (map (bits 4) (column_at (twos 4) 4 s at n))) h.beds
      ∙ turned_again (twos 4) (bits 4) 4 s 80 n bytes (omega arith) bits_twos4 in
      let depths : column_bytes 4 (column_at (λ v. v) 4 s (depths_at s) n) ≡ take (4 * n) (drop (80 + 4 * n) s)
      = ap (λ (at : ℕ). column_bytes 4 (column_at (λ v. v) 4 s at n)) h.depths ∙ column_again 4 s (80 + 4 * n) n bytes (omega arith) in
      let discharges : column_bytes 8 (map (bits 8) (column_at (twos 8) 8 s (discharges_at s) n)) ≡ take (8 * n) (drop (80 + 8 * n) s)
      = ap (λ (at : ℕ). column_bytes 8 (map (bits 8) (column_at (twos 8) 8 s at n))) h.discharges
      ∙ turned_again (twos 8) (bits 8) 8 s (80 + 8 * n) n bytes (omega arith) bits_twos8 in
      let masses : column_bytes 8 (column_at (λ v. v) 8 s (masses_at s) n) ≡ take (8 * n) (drop (80 + 16 * n) s)
      = ap (λ (at : ℕ). column_bytes 8 (column_at (λ v. v) 8 s at n)) h.masses ∙ column_again 8 s (80 + 16 * n) n bytes (omega arith) in
      pieces n _ _ _ _ _ l (ap (λ (k : ℕ). header_bytes k X (boundaries_of s)) (cells_are os) ∙ header_again n X h (omega arith) f) beds depths discharges masses

-- ---- its record is written

transported_replicate : (m : ℕ) → none_carried (replicate m (pos 0)) ≡ true
unfolding none_carried
transported_replicate m =
    all_below_lem _ (length (replicate m (pos 0)))
    (λ i l.
    eq-eqb (nat_abs (get_or (replicate m (pos 0)) i (pos 0))) 0
    (ap nat_abs (get_or-replicate m i (pos 0) (pos 0) (omega (arith, length-replicate m (pos 0))))))

opened_transported : (s : List ℕ) (os : Outlets) → none_carried (sheet_record s os).carried ≡ true
unfolding sheet_record
opened_transported s os = transported_replicate (count_of s + 1)

opened_undrawn : (s : List ℕ) (os : Outlets) → os.count ≤ outlets_most → none_drawn (sheet_record s os).held.outlets ≡ true
unfolding sheet_record none_drawn
opened_undrawn s os few =
    rw (cleared_count os) (all_below_lem _ os.count (λ k l. eq-eqb (outlet_at (cleared os) k).drawn 0 (ap (λ (o : Outlet). o.drawn) (cleared_at os few k l))))

write_passes : (r : Reach) (room : ℕ) → first_refusal (record_grounds r r.held.boundaries) ≡ Ok tt → none_carried r.carried ≡ true → none_drawn r.held.outlets ≡ true
    → sheet_size (cells r) ≤ room → write_refusal r room ≡ Ok tt
unfolding write_refusal room_fits
write_passes r room e f d g =
    further (record_grounds r r.held.boundaries) _ e ∙ go_on _ _ (and_both (none_carried r.carried) (none_drawn r.held.outlets) f d) (go_on _ _ (le-leb _ _ g) no_grounds)

module _ (s : List ℕ) (l : Reach) where
  abbrev grounds : List Ground
  grounds = open_grounds s (length l.bed) (length l.depth) (length l.discharge) (length l.mass) (length l.base) (length l.carried) l.held.outlets

-- columns that are clear of each other lie one behind the other by their starts
before : (a b : Span) → apart a b ≡ true → a.start < b.start → a.start + a.size ≤ b.start
unfolding apart
before a b e l = go (leb (a.start + a.size) b.start) refl (leb (b.start + b.size) a.start) refl e
  where
    go : (x : Bool) → leb (a.start + a.size) b.start ≡ x → (y : Bool) → leb (b.start + b.size) a.start ≡ y → (x || y) ≡ true
        → a.start + a.size ≤ b.start
    go true p y q f = leb-true _ _ p
    go false p true q f = absurd (omega (arith, l, leb-true (b.start + b.size) a.start q))
    go false p false q f = absurd (true≢false (sym f))

-- behind the header and before the end
behind : (end : ℕ) (c : Span) → inside end c ≡ true → (80 ≤ c.start) × (c.start + c.size ≤ end)
unfolding inside
behind end c e = (leb-true _ _ (and_left (leb 80 c.start) (leb (c.start + c.size) end) e), leb-true _ _ (and_right (leb 80 c.start) (leb (c.start + c.size) end) e))

-- of four clear columns: the first and the last lie inside, and each is apart from the next
clear_parts : (ia ab ac ad ib bc bd ic cd id : Bool) → ((ia && (ab && (ac && ad))) && ((ib && (bc && bd)) && ((ic && cd) && id))) ≡ true
    → (ia ≡ true) × (ab ≡ true) × (bc ≡ true) × (cd ≡ true) × (id ≡ true)
clear_parts ia ab ac ad ib bc bd ic cd id e =
    let first = and_left (ia && (ab && (ac && ad))) ((ib && (bc && bd)) && ((ic && cd) && id)) e in
    let more = and_right (ia && (ab && (ac && ad))) ((ib && (bc && bd)) && ((ic && cd) && id)) e in
    let second = and_left (ib && (bc && bd)) ((ic && cd) && id) more in
    let rest = and_right (ib && (bc && bd)) ((ic && cd) && id) more in
    (and_left ia _ first, and_left ab _ (and_right ia (ab && (ac && ad)) first), and_left bc bd (and_right ib (bc && bd) second), and_right ic cd (and_left (ic && cd) id rest), and_right (ic && cd) id rest)

-- where the columns of a sheet stand that opens and has them in the writer's order: there is no byte to spare
pub record InPlace (s : List ℕ) : Type 0 where
  pub beds : beds_at s ≡ beds_from (count_of s)
  pub depths : depths_at s ≡ depths_from (count_of s)
  pub discharges : discharges_at s ≡ discharges_from (count_of s)
  pub masses : masses_at s ≡ masses_from (count_of s)

pub in_place : (s : List ℕ) → length s ≡ sheet_size (count_of s) → columns_clear (length s) (spans_of s) ≡ true → InWritersOrder s → InPlace s
unfolding spans_of sheet_size
in_place s long e o =
    let n = count_of s in
    let end = length s in
    let a = span (beds_at s) (4 * n) in
    let b = span (depths_at s) (4 * n) in
    let c = span (discharges_at s) (8 * n) in
    let d = span (masses_at s) (8 * n) in
    let k = clear_parts (inside end a) (apart a b) (apart a c) (apart a d) (inside end b) (apart b c) (apart b d) (inside end c) (apart c d) (inside end d)
    (sym (four_clear end a b c d) ∙ e) in
    let i = behind end a k.0 in
    let j = behind end d k.4 in
    let ab = before a b k.1 o.beds_first in
    let bc = before b c k.2 o.depths_next in
    let cd = before c d k.3 o.masses_last in
    record {
      beds = omega (arith, long, i, j, ab, bc, cd);
      depths = omega (arith, long, i, j, ab, bc, cd);
      discharges = omega (arith, long, i, j, ab, bc, cd);
      masses = omega (arith, long, i, j, ab, bc, cd);
    }

opened_headed : (s : List ℕ) → edition_fits s ≡ true → size_fits s ≡ true → InPlace s → Headed s (count_of s) (cell_length_of s) (boundaries_of s)
unfolding edition_fits size_fits boundaries_of
opened_headed s e f o = record {
  edition = eqb-true _ _ (all_of_lem _ e 1);
  size = eqb-true _ _ (all_of_lem _ f 3);
  count = refl;
  cell_length = refl;
  beds = o.beds;
  depths = o.depths;
  discharges = o.discharges;
  masses = o.masses;
  left = refl;
  right = refl;
}

opened_long : (s : List ℕ) → size_fits s ≡ true → length s ≡ sheet_size (count_of s)
unfolding size_fits
opened_long s f = let t = all_of_lem _ f in sym (eqb-true _ _ (t 2)) ∙ eqb-true _ _ (t 3)

pub written_again : WrittenAgain
written_again sheet l out bytes order opened room =
    let p = opened_passes sheet l opened in
    let g = stood (grounds sheet l) p in
    let os = l.held.outlets in
    let r = sheet_record sheet os in
    let b = all_bytes sheet bytes in
    let k = opened_sound sheet _ _ _ _ _ _ os p in
    let long = opened_long sheet (g 1) in
    let fits : write_refusal r (length out) ≡ Ok tt
    = write_passes r (length out) (stands r r.held.boundaries k k.boundaries) (opened_transported sheet os) (opened_undrawn sheet os (outlets_few (count_of sheet) os (g 7)))
    (omega (arith, room, ap sheet_size (cells_are sheet b os), long)) in
    let same : (opening sheet l).reach ≡ r = ap (λ (o : Outcome). o.reach) (accepted sheet l p) in
    let again : sheet_bytes r ≡ sheet = sheet_again sheet b os (opened_headed sheet (g 0) (g 1) (in_place sheet long (g 2) order)) long (g 5) in
    subst (λ (x : Reach). (write_refusal x (length out) ≡ Ok tt) × (output_after x out ≡ written sheet out)) (sym same)
    (fits, output_passed r out fits ∙ ap (λ (t : List ℕ). written t out) again)
