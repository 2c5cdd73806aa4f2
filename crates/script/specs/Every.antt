-- Every list of calls, of any length, stands in memory that is large enough for it. Not the paper's: a reader of the model may skip this file.
use Rattle.std.specs.Prelude.{◌≡◌, List, [], ◌∷◌, ℕ, ◌+◌, ◌*◌, ◌≤◌, ◌<◌, ℤ, pos, negsuc, length}
use Rattle.outlet.specs.Outlets.{outlets_most}
use Rattle.outlet.specs.declared.Outlet.{Outlet}
use Rattle.reach.specs.declared.boundary.Boundary.{Boundary}
use Rattle.tally.specs.Call.{Call, Entry, step_call, transport_call, boundaries_call, greatest_call, write_call, open_call}
use Rattle.tally.specs.Holds.{Each}
use Rattle.script.specs.Script.{entry_words, script}

-- numbers of a word, a half word and a byte
abbrev pub Word : ℕ → Type 0
Word v = v < 18_446_744_073_709_551_616

abbrev pub HalfWord : ℕ → Type 0
HalfWord v = v < 4_294_967_296

abbrev pub Byte : ℕ → Type 0
Byte v = v < 256

abbrev pub SignedWord : ℤ → Type 0
SignedWord (pos n) = n < 9_223_372_036_854_775_808
SignedWord (negsuc n) = n < 9_223_372_036_854_775_808

-- a boundary as the machine can hold it
pub record Stored (e : Boundary) : Type 0 where
  pub kind : HalfWord e.kind
  pub reserved : HalfWord e.reserved
  pub depth : Word e.depth
  pub concentration : Word e.concentration
  pub discharge : SignedWord e.discharge

-- and an outlet
pub record StoredOutlet (o : Outlet) : Type 0 where
  pub cell : Word o.cell
  pub want : Word o.want
  pub drawn : Word o.drawn
  pub water : Word o.water
  pub mass : Word o.mass

-- free arguments as the calls can be given them; the list lent to an opening in between is one of 32 outlets at most
abbrev pub Given : Call → Type 0
Given (step_call t F) = Word t × Word F
Given transport_call = Unit {0}
Given (boundaries_call es) = (length es ≡ 2) × Each Stored es
Given greatest_call = Unit {0}
Given (write_call room) = Word room
Given (open_call sheet os) = Each Byte sheet × (length os ≤ outlets_most) × Each StoredOutlet os

-- a want for each of 32 outlets, as many as there can be: a call looks at no want behind its list
abbrev pub EntryGiven : Entry → Type 0
EntryGiven e = (length e.free.wants ≡ outlets_most) × Each Word e.free.wants × Given e.call

-- the bytes of all sheets of a list
abbrev pub sheet_part : Call → List ℕ
sheet_part (step_call t F) = []
sheet_part transport_call = []
sheet_part (boundaries_call es) = []
sheet_part greatest_call = []
sheet_part (write_call room) = []
sheet_part (open_call sheet os) = sheet

unfoldable pub sheets_size : List Entry → ℕ
sheets_size [] = 0
sheets_size (e ∷ es) = length (sheet_part e.call) + sheets_size es

-- memory that holds the list: its words and bytes, no more of them than the list needs
pub record Encoded (es : List Entry) : Type 0 where
  pub words : List ℕ
  pub sheets : List ℕ
  pub room : ℕ
  pub words_fit : Each Word words
  pub sheets_fit : Each Byte sheets
  pub room_fits_lem : Word room
  pub words_long : length words ≡ entry_words * length es
  pub sheets_long : length sheets ≡ sheets_size es
  pub read_back_lem : script words sheets room ≡ es

-- the one limit is that the places of the sheets' bytes are words
abbrev pub EveryList : Type 0
EveryList = (es : List Entry) → Each EntryGiven es → Word (sheets_size es) → Encoded es
