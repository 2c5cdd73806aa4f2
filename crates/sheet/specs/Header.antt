-- Document 01, 'The sheet': the header, and grounds 1 to 3.
use Rattle.std.specs.Prelude.{Bool, true, ◌&&◌, ◌||◌, List, [], ◌∷◌, ℕ, ◌+◌, ◌*◌, leb, eqb, length}
use Rattle.numbers.specs.Index.{all_of}
use Rattle.reach.specs.Limits.{cells_most}
use Rattle.reach.specs.declared.boundary.Boundary.{Boundary}
use Rattle.encoding.specs.FromBytes.{number_at, twos}

-- bytes of the header, and of the sheet of n cells
abbrev pub header_size : ℕ
header_size = 80

unfoldable pub sheet_size : ℕ → ℕ
sheet_size n = header_size + 24 * n

-- edition, length in bytes, n, X
abbrev pub edition_of : List ℕ → ℕ
edition_of s = number_at 4 s 0

abbrev pub length_of : List ℕ → ℕ
length_of s = number_at 4 s 4

abbrev pub count_of : List ℕ → ℕ
count_of s = number_at 4 s 8

abbrev pub cell_length_of : List ℕ → ℕ
cell_length_of s = number_at 4 s 12

-- offsets of bed levels (i32), depths (u32), discharges (i64), masses (u64)
abbrev pub beds_at : List ℕ → ℕ
beds_at s = number_at 4 s 16

abbrev pub depths_at : List ℕ → ℕ
depths_at s = number_at 4 s 20

abbrev pub discharges_at : List ℕ → ℕ
discharges_at s = number_at 4 s 24

abbrev pub masses_at : List ℕ → ℕ
masses_at s = number_at 4 s 28

-- a boundary: u32 kind, depth, concentration and the reserved field (the paper's 'zero'), i64 discharge
unfoldable pub boundary_at : List ℕ → (at : ℕ) → Boundary
boundary_at s at = record {
  kind = number_at 4 s at;
  reserved = number_at 4 s (at + 12);
  depth = number_at 4 s (at + 4);
  concentration = number_at 4 s (at + 8);
  discharge = twos 8 (number_at 8 s (at + 16));
}

-- left, then right
unfoldable pub boundaries_of : List ℕ → List Boundary
boundaries_of s = boundary_at s 32 ∷ boundary_at s 56 ∷ []

-- ---- 1: the sheet is under 80 bytes or its edition is not 1
unfoldable pub edition_fits : List ℕ → Bool
edition_fits s = all_of (leb header_size (length s) ∷ eqb (edition_of s) 1 ∷ [])

-- ---- 2: n is outside 1..512, or the length field is not both the bytes given and 80+24n
unfoldable pub size_fits : List ℕ → Bool
size_fits s =
    all_of (leb 1 (count_of s) ∷ leb (count_of s) cells_most ∷ eqb (length_of s) (length s) ∷ eqb (length_of s) (sheet_size (count_of s)) ∷ [])

-- ---- 3: an offset is under 80, a column passes the end, or two columns overlap

-- a column's place: its first byte, and how many it has
pub record Span : Type 0 where
  pub start : ℕ
  pub size : ℕ

abbrev pub span : ℕ → ℕ → Span
span start size = record { start = start; size = size }

unfoldable pub inside : (end : ℕ) → Span → Bool
inside end c = leb header_size c.start && leb (c.start + c.size) end

unfoldable pub apart : Span → Span → Bool
apart a b = leb (a.start + a.size) b.start || leb (b.start + b.size) a.start

unfoldable pub apart_from : Span → List Span → Bool
apart_from c [] = true
apart_from c (d ∷ ds) = apart c d && apart_from c ds

-- any number of columns, in any order
unfoldable pub columns_clear : (end : ℕ) → List Span → Bool
columns_clear end [] = true
columns_clear end (c ∷ cs) = (inside end c && apart_from c cs) && columns_clear end cs

unfoldable pub spans_of : List ℕ → List Span
spans_of s =
    span (beds_at s) (4 * count_of s)
    ∷ span (depths_at s) (4 * count_of s)
    ∷ span (discharges_at s) (8 * count_of s)
    ∷ span (masses_at s) (8 * count_of s)
    ∷ []
