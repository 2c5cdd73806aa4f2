-- Every list of calls has its memory: 206 words a call, the sheets one after the other, and room for every write. Assumes nothing.
use mathlib.Core.Path.{◌≡◌, refl, sym, ap, ap₂, ◌∙◌}
use mathlib.Core.List.{List, [], ◌∷◌, ◌++◌, append_assoc}
use Prim.Native.Nat.{ℕ, zero, suc, ◌+◌, ◌-◌, ◌*◌, ◌/◌, ◌%◌, ◌≤◌, ◌<◌, min, max}
use native.Mathlib.Omega.{arith}
use lib.IntN.{ℤ, pos, negsuc}
use lib.ListN.{length, get_or, replicate, length-append, length-replicate, get_or-append}
use lib.Seq.{get_or-append-add, drop-append_seam, take-append_seam}
use Rattle.numbers.specs.Index.{tabulate}
use Rattle.numbers.proofs.IndexLaws.{by_index, tabulate_same}
use Rattle.outlet.specs.Outlets.{outlets_most, no_outlet}
use Rattle.outlet.specs.declared.Outlet.{Outlet}
use Rattle.reach.specs.declared.boundary.Boundary.{Boundary}
use Rattle.encoding.specs.FromBytes.{twos}
use Rattle.encoding.proofs.FromBytesLaws.{twos_low, twos_high}
use Rattle.tally.specs.Call.{Call, Entry, step_call, transport_call, boundaries_call, greatest_call, write_call, open_call}
use Rattle.tally.specs.Holds.{Each}
use Rattle.script.specs.Script.{boundary_from, part, wants_from, outlet_from, outlets_from, call_at, entry_at, entries_from, script}
use Rattle.script.specs.Every.{Word, HalfWord, Byte, SignedWord, Stored, StoredOutlet, Given, EntryGiven, sheet_part, sheets_size, EveryList}

-- ---- the memory of a list

-- the word of a discharge
bits_of : ℤ → ℕ
bits_of (pos n) = n
bits_of (negsuc n) = 18_446_744_073_709_551_616 - suc n

-- only a pair of boundaries is ever given
ten_of : List Boundary → List ℕ
ten_of [] = 0 ∷ 0 ∷ 0 ∷ 0 ∷ 0 ∷ 0 ∷ 0 ∷ 0 ∷ 0 ∷ 0 ∷ []
ten_of (e ∷ []) = 0 ∷ 0 ∷ 0 ∷ 0 ∷ 0 ∷ 0 ∷ 0 ∷ 0 ∷ 0 ∷ 0 ∷ []
ten_of (e ∷ f ∷ []) =
    e.kind ∷ e.reserved ∷ e.depth ∷ e.concentration ∷ bits_of e.discharge
    ∷ f.kind ∷ f.reserved ∷ f.depth ∷ f.concentration ∷ bits_of f.discharge ∷ []
ten_of (e ∷ f ∷ g ∷ es) = 0 ∷ 0 ∷ 0 ∷ 0 ∷ 0 ∷ 0 ∷ 0 ∷ 0 ∷ 0 ∷ 0 ∷ []

-- one call's thirteen, where its sheet, if it has one, stands from byte `start` on
call_words : (start : ℕ) → Call → List ℕ
call_words start (step_call t F) = 0 ∷ t ∷ F ∷ ten_of []
call_words start transport_call = 1 ∷ 0 ∷ 0 ∷ ten_of []
call_words start (boundaries_call es) = 2 ∷ 0 ∷ 0 ∷ ten_of es
call_words start greatest_call = 3 ∷ 0 ∷ 0 ∷ ten_of []
call_words start (write_call room) = 4 ∷ room ∷ 0 ∷ ten_of []
call_words start (open_call sheet os) = 5 ∷ start ∷ (start + length sheet) ∷ ten_of []

-- the list lent to an opening
lent_by : Call → List Outlet
lent_by (step_call t F) = []
lent_by transport_call = []
lent_by (boundaries_call es) = []
lent_by greatest_call = []
lent_by (write_call room) = []
lent_by (open_call sheet os) = os

outlet_words : List Outlet → List ℕ
outlet_words [] = []
outlet_words (o ∷ os) = o.cell ∷ o.want ∷ o.drawn ∷ o.water ∷ o.mass ∷ outlet_words os

-- its count, its outlets, and zeros up to the 32nd
lent_words : List Outlet → List ℕ
lent_words os = length os ∷ (outlet_words os ++ replicate (160 - 5 * length os) 0)

one_of : (start : ℕ) → Entry → List ℕ
one_of start e = call_words start e.call ++ (e.free.wants ++ lent_words (lent_by e.call))

room_by : Call → ℕ
room_by (step_call t F) = 0
room_by transport_call = 0
room_by (boundaries_call es) = 0
room_by greatest_call = 0
room_by (write_call room) = room
room_by (open_call sheet os) = 0

abbrev entry : List ℕ → Call → Entry
entry ws c = record { free = record { wants = ws }; call = c }

words_of : (start : ℕ) → List Entry → List ℕ
words_of start [] = []
words_of start (e ∷ es) = one_of start e ++ words_of (start + length (sheet_part e.call)) es

sheets_of : List Entry → List ℕ
sheets_of [] = []
sheets_of (e ∷ es) = sheet_part e.call ++ sheets_of es

-- the greatest room of a write
room_of : List Entry → ℕ
room_of [] = 0
room_of (e ∷ es) = max (room_by e.call) (room_of es)

-- ---- lengths

ten_length : (es : List Boundary) → length (ten_of es) ≡ 10
unfolding ten_of
ten_length [] = refl
ten_length (e ∷ []) = refl
ten_length (e ∷ f ∷ []) = refl
ten_length (e ∷ f ∷ g ∷ es) = refl

call_length : (start : ℕ) (c : Call) → length (call_words start c) ≡ 13
unfolding call_words ten_of
call_length start (step_call t F) = refl
call_length start transport_call = refl
call_length start (boundaries_call es) = ap (λ (n : ℕ). suc (suc (suc n))) (ten_length es)
call_length start greatest_call = refl
call_length start (write_call room) = refl
call_length start (open_call sheet os) = refl

outlet_words_length : (os : List Outlet) → length (outlet_words os) ≡ 5 * length os
unfolding outlet_words
outlet_words_length [] = refl
outlet_words_length (o ∷ os) = omega (arith, outlet_words_length os)

lent_length : (os : List Outlet) → length os ≤ outlets_most → length (lent_words os) ≡ 161
unfolding lent_words
lent_length os few =
    ap suc (length-append (outlet_words os) (replicate (160 - 5 * length os) 0))
    ∙ omega (arith, few, outlet_words_length os, length-replicate {A = ℕ} (160 - 5 * length os) 0)

few_lent : (c : Call) → Given c → length (lent_by c) ≤ outlets_most
unfolding lent_by
few_lent (step_call t F) g = omega arith
few_lent transport_call g = omega arith
few_lent (boundaries_call es) g = omega arith
few_lent greatest_call g = omega arith
few_lent (write_call room) g = omega arith
few_lent (open_call sheet os) g = g.1

one_length : (start : ℕ) (e : Entry) → EntryGiven e → length (one_of start e) ≡ 206
unfolding one_of
one_length start e g =
    length-append (call_words start e.call) (e.free.wants ++ lent_words (lent_by e.call))
    ∙ omega (arith, call_length start e.call, length-append e.free.wants (lent_words (lent_by e.call)), g.0, lent_length (lent_by e.call) (few_lent e.call g.2))

words_length : (start : ℕ) (es : List Entry) → Each EntryGiven es → length (words_of start es) ≡ 206 * length es
unfolding words_of Each
words_length start [] g = refl
words_length start (e ∷ es) g =
    let at = start + length (sheet_part e.call) in
    length-append (one_of start e) (words_of at es) ∙ omega (arith, one_length start e g.0, words_length at es g.1)

-- ---- what stands behind other words is read as if it stood alone

word_past : (p q : List ℕ) (n k : ℕ) → k ≡ length p + n → get_or (p ++ q) k 0 ≡ get_or q n 0
word_past p q n k e = ap (λ (i : ℕ). get_or (p ++ q) i 0) e ∙ get_or-append-add p q n 0

boundary_past : (p q : List ℕ) (n k : ℕ) → k ≡ length p + n → boundary_from (p ++ q) k ≡ boundary_from q n
unfolding boundary_from
boundary_past p q n k e =
    simp (
      word_past p q n k e,
      word_past p q (n + 1) (k + 1) (omega arith),
      word_past p q (n + 2) (k + 2) (omega arith),
      word_past p q (n + 3) (k + 3) (omega arith),
      word_past p q (n + 4) (k + 4) (omega arith),
    )

wants_past : (p q : List ℕ) (n k : ℕ) → k ≡ length p + n → wants_from (p ++ q) k ≡ wants_from q n
unfolding wants_from
wants_past p q n k e = tabulate_same outlets_most (λ i. get_or (p ++ q) (k + i) 0) (λ i. get_or q (n + i) 0) (λ i l. word_past p q (n + i) (k + i) (omega (arith, e)))

outlet_past : (p q : List ℕ) (n k : ℕ) → k ≡ length p + n → outlet_from (p ++ q) k ≡ outlet_from q n
unfolding outlet_from
outlet_past p q n k e =
    simp (
      word_past p q n k e,
      word_past p q (n + 1) (k + 1) (omega arith),
      word_past p q (n + 2) (k + 2) (omega arith),
      word_past p q (n + 3) (k + 3) (omega arith),
      word_past p q (n + 4) (k + 4) (omega arith),
    )

outlets_past : (p q : List ℕ) (n k : ℕ) → k ≡ length p + n → outlets_from (p ++ q) k ≡ outlets_from q n
unfolding outlets_from
outlets_past p q n k e =
    ap (λ (m : ℕ). tabulate m (λ i. outlet_from (p ++ q) (k + 1 + 5 * i))) (word_past p q n k e)
    ∙ tabulate_same (get_or q n 0) (λ i. outlet_from (p ++ q) (k + 1 + 5 * i)) (λ i. outlet_from q (n + 1 + 5 * i)) (λ i l. outlet_past p q (n + 1 + 5 * i) (k + 1 + 5 * i) (omega (arith, e)))

call_past : (p q sheets : List ℕ) (room n k : ℕ) → k ≡ length p + n → call_at (p ++ q) sheets room k ≡ call_at q sheets room n
unfolding call_at
call_past p q sheets room n k e =
    simp (
      word_past p q n k e,
      word_past p q (n + 1) (k + 1) (omega arith),
      word_past p q (n + 2) (k + 2) (omega arith),
      boundary_past p q (n + 3) (k + 3) (omega arith),
      boundary_past p q (n + 8) (k + 8) (omega arith),
      outlets_past p q (n + 45) (k + 45) (omega arith),
    )

-- one entry's words past
entries_past : (p q sheets : List ℕ) (room j k : ℕ) → length p ≡ 206 → entries_from (p ++ q) sheets room (suc j) k ≡ entries_from q sheets room j k
unfolding entries_from
entries_past p q sheets room j zero e = refl
entries_past p q sheets room j (suc k) e =
    let wants = wants_past p q (206 * j + 13) (206 * suc j + 13) (omega arith) in
    let call = call_past p q sheets room (206 * j) (206 * suc j) (omega arith) in
    ap₂ (λ (c : Entry) (es : List Entry). c ∷ es) (ap₂ entry wants call)
    (entries_past p q sheets room (suc j) k e)

-- ---- one call read back

twos_back : (z : ℤ) → SignedWord z → twos 8 (bits_of z) ≡ z
unfolding twos bits_of
twos_back (pos n) l = twos_low 9_223_372_036_854_775_808 n l
twos_back (negsuc n) l =
    twos_high 9_223_372_036_854_775_808 (18_446_744_073_709_551_616 - suc n) (omega arith) (omega arith) ∙ ap negsuc (omega arith)

half_back : (v : ℕ) → HalfWord v → v % 4_294_967_296 ≡ v
half_back v l = omega arith

boundaries_back : (es : List Boundary) (q sheets : List ℕ) (room : ℕ) → length es ≡ 2 → Each Stored es
    → call_at (2 ∷ 0 ∷ 0 ∷ (ten_of es ++ q)) sheets room 0 ≡ boundaries_call es
unfolding call_at boundary_from ten_of Each
boundaries_back [] q sheets room n s = absurd (omega arith)
boundaries_back (e ∷ []) q sheets room n s = absurd (omega arith)
boundaries_back (e ∷ f ∷ []) q sheets room n s =
    let a = s.0 in
    let b = s.1.0 in
    simp (
      half_back e.kind a.kind,
      half_back e.reserved a.reserved,
      twos_back e.discharge a.discharge,
      half_back f.kind b.kind,
      half_back f.reserved b.reserved,
      twos_back f.discharge b.discharge,
    )
boundaries_back (e ∷ f ∷ g ∷ es) q sheets room n s = absurd (omega arith)

part_back : (front s tail sheets : List ℕ) → sheets ≡ front ++ (s ++ tail) → part sheets (length front) (length front + length s) ≡ s
unfolding part
part_back front s tail sheets e =
    let n : length sheets ≡ length front + (length s + length tail) = simp length-append at (ap length e) in
    let a : min (length front) (length sheets) ≡ length front = omega arith in
    let b : min (length front + length s) (length sheets) - length front ≡ length s = omega arith in
    rw (a, b, e, drop-append_seam front (s ++ tail)) (take-append_seam s tail)

wants_back : (p ws q : List ℕ) → length ws ≡ outlets_most → wants_from (p ++ (ws ++ q)) (length p) ≡ ws
unfolding wants_from
wants_back p ws q e =
    sym (by_index outlets_most (λ k. get_or (p ++ (ws ++ q)) (length p + k) 0) 0 ws e (λ k l.
    sym (get_or-append-add p (ws ++ q) k 0 ∙ get_or-append ws q 0 k (omega (arith, e, l)))))

first_back : (o : Outlet) (q : List ℕ) → outlet_from (o.cell ∷ o.want ∷ o.drawn ∷ o.water ∷ o.mass ∷ q) (5 * 0) ≡ o
unfolding outlet_from
first_back o q = refl

outlet_back : (os : List Outlet) (q : List ℕ) (k : ℕ) → k < length os → outlet_from (outlet_words os ++ q) (5 * k) ≡ get_or os k no_outlet
unfolding outlet_words
outlet_back [] q k l = absurd (omega arith)
outlet_back (o ∷ os) q zero l = first_back o (outlet_words os ++ q)
outlet_back (o ∷ os) q (suc k) l =
    outlet_past (o.cell ∷ o.want ∷ o.drawn ∷ o.water ∷ o.mass ∷ []) (outlet_words os ++ q) (5 * k) (5 * suc k) (omega arith)
    ∙ outlet_back os q k (omega arith)

list_back : (os : List Outlet) (z q : List ℕ) → outlets_from (length os ∷ ((outlet_words os ++ z) ++ q)) 0 ≡ os
unfolding outlets_from
list_back os z q =
    sym (by_index (length os) (λ k. outlet_from (length os ∷ ((outlet_words os ++ z) ++ q)) (0 + 1 + 5 * k)) no_outlet os refl (λ k l.
    sym (outlet_past (length os ∷ []) ((outlet_words os ++ z) ++ q) (5 * k) (0 + 1 + 5 * k) (omega arith)
    ∙ ap (λ (x : List ℕ). outlet_from x (5 * k)) (append_assoc (outlet_words os) z q)
    ∙ outlet_back os (z ++ q) k l)))

outlets_back : (os : List Outlet) (p q : List ℕ) (at : ℕ) → length p ≡ at → outlets_from (p ++ (lent_words os ++ q)) at ≡ os
unfolding lent_words
outlets_back os p q at e =
    let z : List ℕ = replicate (160 - 5 * length os) 0 in
    outlets_past p (length os ∷ ((outlet_words os ++ z) ++ q)) 0 at (omega arith) ∙ list_back os z q

-- whatever stands behind the thirteen
call_back : (c : Call) (start : ℕ) (front tail sheets q : List ℕ) (room : ℕ) → Given c → length front ≡ start
    → sheets ≡ front ++ (sheet_part c ++ tail) → room_by c ≤ room → outlets_from (call_words start c ++ q) 45 ≡ lent_by c → call_at (call_words start c ++ q) sheets room 0 ≡ c
unfolding call_at call_words ten_of room_by lent_by
call_back (step_call t F) start front tail sheets q room g e s r o = refl
call_back transport_call start front tail sheets q room g e s r o = refl
call_back (boundaries_call es) start front tail sheets q room g e s r o = boundaries_back es q sheets room g.0 g.1
call_back greatest_call start front tail sheets q room g e s r o = refl
call_back (write_call n) start front tail sheets q room g e s r o = ap write_call (omega arith)
call_back (open_call sheet os) start front tail sheets q room g e s r o = ap₂ open_call (rw (← e) (part_back front sheet tail sheets s)) o

entry_back : (e : Entry) (start : ℕ) (front tail sheets q : List ℕ) (room : ℕ) → EntryGiven e → length front ≡ start
    → sheets ≡ front ++ (sheet_part e.call ++ tail) → room_by e.call ≤ room → entry_at (one_of start e ++ q) sheets room 0 ≡ e
unfolding one_of
entry_back e start front tail sheets q room g l s r =
    let c = e.call in
    let ws = e.free.wants in
    let head = call_words start c in
    let list = lent_words (lent_by c) in
    let n : length head ≡ 13 = call_length start c in
    let m : length (head ++ ws) ≡ 45 = length-append head ws ∙ omega (arith, n, g.0) in
    let whole : (head ++ (ws ++ list)) ++ q ≡ head ++ (ws ++ (list ++ q)) = append_assoc head (ws ++ list) q ∙ ap (λ (x : List ℕ). head ++ x) (append_assoc ws list q) in
    let wants : wants_from (head ++ (ws ++ (list ++ q))) 13 ≡ ws = ap (λ (k : ℕ). wants_from (head ++ (ws ++ (list ++ q))) k) (sym n) ∙ wants_back head ws (list ++ q) g.0 in
    let lent : outlets_from (head ++ (ws ++ (list ++ q))) 45 ≡ lent_by c = ap (λ (x : List ℕ). outlets_from x 45) (sym (append_assoc head ws (list ++ q))) ∙ outlets_back (lent_by c) (head ++ ws) q 45 m in
    let call : call_at (head ++ (ws ++ (list ++ q))) sheets room 0 ≡ c = call_back c start front tail sheets (ws ++ (list ++ q)) room g.2 l s r lent in
    ap (λ (x : List ℕ). entry_at x sheets room 0) whole ∙ ap₂ entry wants call

-- ---- the list read back

entries_back : (es : List Entry) (start : ℕ) (front sheets : List ℕ) (room : ℕ) → Each EntryGiven es → length front ≡ start
    → sheets ≡ front ++ sheets_of es → room_of es ≤ room → entries_from (words_of start es) sheets room 0 (length es) ≡ es
unfolding entries_from words_of sheets_of room_of Each
entries_back [] start front sheets room g l s r = refl
entries_back (e ∷ es) start front sheets room g l s r =
    let c = e.call in
    let at = start + length (sheet_part c) in
    let n : length (front ++ sheet_part c) ≡ at = length-append front (sheet_part c) ∙ omega arith in
    ap₂ (λ (x : Entry) (xs : List Entry). x ∷ xs)
    (entry_back e start front (sheets_of es) sheets (words_of at es) room g.0 l s (omega arith))
    (entries_past (one_of start e) (words_of at es) sheets room 0 (length es) (one_length start e g.0)
    ∙ entries_back es at (front ++ sheet_part c) sheets room g.1 n (rw append_assoc s) (omega arith))

script_back : (es : List Entry) → Each EntryGiven es → script (words_of 0 es) (sheets_of es) (room_of es) ≡ es
unfolding script
script_back es g =
    let n : length (words_of 0 es) / 206 ≡ length es = omega (arith, words_length 0 es g) in
    rw n (entries_back es 0 [] (sheets_of es) (room_of es) g refl refl (omega arith))

-- ---- and it fits

each_append : {A : Type 0} (P : A → Type 0) (xs ys : List A) → Each P xs → Each P ys → Each P (xs ++ ys)
unfolding Each
each_append P [] ys a b = b
each_append P (x ∷ xs) ys a b = (a.0, each_append P xs ys a.1 b)

bits_fit : (z : ℤ) → SignedWord z → Word (bits_of z)
unfolding bits_of
bits_fit (pos n) l = omega arith
bits_fit (negsuc n) l = omega arith

zeros_fit : Each Word (ten_of [])
unfolding Each ten_of
zeros_fit =
    let z : 0 < 18_446_744_073_709_551_616 = omega arith in
    (z, (z, (z, (z, (z, (z, (z, (z, (z, (z, tt))))))))))

ten_fit : (es : List Boundary) → length es ≡ 2 → Each Stored es → Each Word (ten_of es)
unfolding Each ten_of
ten_fit [] n s = absurd (omega arith)
ten_fit (e ∷ []) n s = absurd (omega arith)
ten_fit (e ∷ f ∷ []) n s =
    let a = s.0 in
    let b = s.1.0 in (
      omega (arith, a.kind),
      (
        omega (arith, a.reserved),
        (
          a.depth,
          (
            a.concentration,
            (
              bits_fit e.discharge a.discharge,
              (omega (arith, b.kind), (omega (arith, b.reserved), (b.depth, (b.concentration, (bits_fit f.discharge b.discharge, tt))))),
            ),
          ),
        ),
      ),
    )
ten_fit (e ∷ f ∷ g ∷ es) n s = absurd (omega arith)

call_fit : (start : ℕ) (c : Call) → Given c → Word (start + length (sheet_part c)) → Each Word (call_words start c)
unfolding Each call_words
call_fit start (step_call t F) g l = (omega arith, (g.0, (g.1, zeros_fit)))
call_fit start transport_call g l = (omega arith, (omega arith, (omega arith, zeros_fit)))
call_fit start (boundaries_call es) g l = (omega arith, (omega arith, (omega arith, ten_fit es g.0 g.1)))
call_fit start greatest_call g l = (omega arith, (omega arith, (omega arith, zeros_fit)))
call_fit start (write_call room) g l = (omega arith, (g, (omega arith, zeros_fit)))
call_fit start (open_call sheet os) g l = (omega arith, (omega arith, (l, zeros_fit)))

rest_fit : (n : ℕ) → Each Word (replicate n 0)
unfolding Each
rest_fit zero = tt
rest_fit (suc n) = (omega arith, rest_fit n)

outlets_fit_lem : (os : List Outlet) → Each StoredOutlet os → Each Word (outlet_words os)
unfolding Each outlet_words
outlets_fit_lem [] g = tt
outlets_fit_lem (o ∷ os) g = let a = g.0 in (a.cell, (a.want, (a.drawn, (a.water, (a.mass, outlets_fit_lem os g.1)))))

lent_stored : (c : Call) → Given c → Each StoredOutlet (lent_by c)
unfolding Each lent_by
lent_stored (step_call t F) g = tt
lent_stored transport_call g = tt
lent_stored (boundaries_call es) g = tt
lent_stored greatest_call g = tt
lent_stored (write_call room) g = tt
lent_stored (open_call sheet os) g = g.2

lent_fit_lem : (os : List Outlet) → length os ≤ outlets_most → Each StoredOutlet os → Each Word (lent_words os)
unfolding Each lent_words
lent_fit_lem os few g = (omega (arith, few), each_append Word (outlet_words os) (replicate (160 - 5 * length os) 0) (outlets_fit_lem os g) (rest_fit (160 - 5 * length os)))

one_fit : (start : ℕ) (e : Entry) → EntryGiven e → Word (start + length (sheet_part e.call)) → Each Word (one_of start e)
unfolding one_of
one_fit start e g l =
    let c = e.call in
    each_append Word (call_words start c) (e.free.wants ++ lent_words (lent_by c)) (call_fit start c g.2 l)
    (each_append Word e.free.wants (lent_words (lent_by c)) g.1 (lent_fit_lem (lent_by c) (few_lent c g.2) (lent_stored c g.2)))

words_fit : (start : ℕ) (es : List Entry) → Each EntryGiven es → Word (start + sheets_size es) → Each Word (words_of start es)
unfolding Each words_of sheets_size
words_fit start [] g l = tt
words_fit start (e ∷ es) g l =
    let c = e.call in
    let at = start + length (sheet_part c) in
    each_append Word (one_of start e) (words_of at es) (one_fit start e g.0 (omega arith)) (words_fit at es g.1 (omega arith))

sheet_fit : (c : Call) → Given c → Each Byte (sheet_part c)
unfolding Each
sheet_fit (step_call t F) g = tt
sheet_fit transport_call g = tt
sheet_fit (boundaries_call es) g = tt
sheet_fit greatest_call g = tt
sheet_fit (write_call room) g = tt
sheet_fit (open_call sheet os) g = g.0

sheets_fit : (es : List Entry) → Each EntryGiven es → Each Byte (sheets_of es)
unfolding Each sheets_of
sheets_fit [] g = tt
sheets_fit (e ∷ es) g = each_append Byte (sheet_part e.call) (sheets_of es) (sheet_fit e.call g.0.2) (sheets_fit es g.1)

room_by_fits : (c : Call) → Given c → Word (room_by c)
unfolding room_by
room_by_fits (step_call t F) g = omega arith
room_by_fits transport_call g = omega arith
room_by_fits (boundaries_call es) g = omega arith
room_by_fits greatest_call g = omega arith
room_by_fits (write_call room) g = g
room_by_fits (open_call sheet os) g = omega arith

room_fits_lem : (es : List Entry) → Each EntryGiven es → Word (room_of es)
unfolding Each room_of
room_fits_lem [] g = omega arith
room_fits_lem (e ∷ es) g = omega (arith, room_by_fits e.call g.0.2, room_fits_lem es g.1)

sheets_length : (es : List Entry) → length (sheets_of es) ≡ sheets_size es
unfolding sheets_of sheets_size
sheets_length [] = refl
sheets_length (e ∷ es) = length-append (sheet_part e.call) (sheets_of es) ∙ omega (arith, sheets_length es)

pub every_list : EveryList
every_list es g l = record {
  words = words_of 0 es;
  sheets = sheets_of es;
  room = room_of es;
  words_fit = words_fit 0 es g (omega arith);
  sheets_fit = sheets_fit es g;
  room_fits_lem = room_fits_lem es g;
  words_long = words_length 0 es g;
  sheets_long = sheets_length es;
  read_back_lem = script_back es g;
}
