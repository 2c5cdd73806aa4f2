-- Not the paper's: how a list of calls with their free arguments stands in lent memory, 206 words an entry, and the bytes of all sheets. A
-- reader of the model may skip this file.
use Rattle.std.specs.Prelude.{cond, List, [], ◌∷◌, ℕ, zero, suc, ◌+◌, ◌-◌, ◌*◌, ◌/◌, ◌%◌, min, eqb, length, get_or, take, drop}
use Rattle.numbers.specs.Index.{tabulate}
use Rattle.outlet.specs.Outlets.{outlets_most}
use Rattle.outlet.specs.declared.Outlet.{Outlet}
use Rattle.reach.specs.declared.boundary.Boundary.{Boundary}
use Rattle.encoding.specs.FromBytes.{twos}
use Rattle.tally.specs.Call.{Call, Free, Entry, step_call, transport_call, boundaries_call, greatest_call, write_call, open_call}

-- thirteen of the call, 32 wants, and a list of outlets: its count and five words for each of 32
abbrev pub entry_words : ℕ
entry_words = 206

-- five words from `at` on: kind, the reserved field, depth, concentration, discharge in two's complement
unfoldable pub boundary_from : (words : List ℕ) (at : ℕ) → Boundary
boundary_from ws at = record {
  kind = get_or ws at 0 % 4_294_967_296;
  reserved = get_or ws (at + 1) 0 % 4_294_967_296;
  depth = get_or ws (at + 2) 0;
  concentration = get_or ws (at + 3) 0;
  discharge = twos 8 (get_or ws (at + 4) 0);
}

-- bytes a to b of the sheets, as far as there are any
unfoldable pub part : (sheets : List ℕ) (a b : ℕ) → List ℕ
part s a b = take (min b (length s) - min a (length s)) (drop (min a (length s)) s)

-- the 32 words from `at` on: what each outlet wants, in list order. A list of 32 outlets at most has no use for more
unfoldable pub wants_from : (words : List ℕ) (at : ℕ) → List ℕ
wants_from ws at = tabulate outlets_most (λ k. get_or ws (at + k) 0)

-- five words from `at` on: cell, want, drawn water, and both totals
unfoldable pub outlet_from : (words : List ℕ) (at : ℕ) → Outlet
outlet_from ws at = record {
  cell = get_or ws at 0;
  want = get_or ws (at + 1) 0;
  drawn = get_or ws (at + 2) 0;
  water = get_or ws (at + 3) 0;
  mass = get_or ws (at + 4) 0;
}

-- a lent list: its count, and its outlets behind the count. One of more than 32 goes on in whatever words come after the entry's: a call looks at
-- no more of it than the count and the first 32
unfoldable pub outlets_from : (words : List ℕ) (at : ℕ) → List Outlet
outlets_from ws at = tabulate (get_or ws at 0) (λ k. outlet_from ws (at + 1 + 5 * k))

-- by the first word of a call: 0 a step, 1 a transport, 2 a setting of boundaries, 3 a greatest-step call, 4 a write, any other an opening
abbrev pub call_of : (word a b : ℕ) → List Boundary → (lent : List Outlet) → (sheets : List ℕ) (room : ℕ) → Call
call_of w a b es os sheets room =
    cond (eqb w 0) (step_call a b)
    (cond (eqb w 1) transport_call
    (cond (eqb w 2) (boundaries_call es)
    (cond (eqb w 3) greatest_call
    (cond (eqb w 4) (write_call (min a room))
    (open_call (part sheets a b) os)))))

-- the call in the words from `at` on; t and F, the room of a write, or the place of a sheet is in the two words behind the first, the pair of
-- boundaries in the ten after them, the list lent to an opening behind the 32 wants; there are `room` bytes of output
unfoldable pub call_at : (words sheets : List ℕ) (room at : ℕ) → Call
call_at ws sheets room at =
    call_of (get_or ws at 0) (get_or ws (at + 1) 0) (get_or ws (at + 2) 0) (boundary_from ws (at + 3) ∷ boundary_from ws (at + 8) ∷ []) (outlets_from ws (at + 45)) sheets room

-- what is free at every call: the wants, behind the thirteen
abbrev pub free_at : (words : List ℕ) (at : ℕ) → Free
free_at ws at = record { wants = wants_from ws (at + 13) }

abbrev pub entry_at : (words sheets : List ℕ) (room at : ℕ) → Entry
entry_at ws sheets room at = record { free = free_at ws at; call = call_at ws sheets room at }

-- k entries from entry j on
unfoldable pub entries_from : (words sheets : List ℕ) (room j k : ℕ) → List Entry
entries_from ws sheets room j zero = []
entries_from ws sheets room j (suc k) = entry_at ws sheets room (entry_words * j) ∷ entries_from ws sheets room (suc j) k

-- as many as there are words for
unfoldable pub script : (words sheets : List ℕ) (room : ℕ) → List Entry
script ws sheets room = entries_from ws sheets room 0 (length ws / entry_words)
