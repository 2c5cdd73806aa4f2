-- Demand 2, sentence by sentence, of the six functions of include/jemmyfern.h. (Names as in Demand1.antt.)
use Rattle.std.specs.Prelude.{◌≡◌, true, false, List, ◌++◌, ℕ, ◌+◌, ◌*◌, ◌≤◌, ◌<◌, pos, neg_ℤ, ◌+ℤ◌, length, get_or, take, drop}
use contract.Lifetimes.{Lfts}
use Rattle.std.specs.Borrow.{Bor, MutBor}
use Rattle.numbers.specs.Index.{sum}
use Rattle.numbers.specs.Signed.{positive}
use Rattle.outlet.specs.Outlets.{no_outlet, outlet_at, cleared, loaded}
use Rattle.reach.specs.Reach.{Reach, reach_of, cells, base_at, carried_at}
use Rattle.reach.specs.Grounds.{outlets_fit}
use Rattle.reach.specs.declared.boundary.Boundary.{Boundary}
use Rattle.reach.specs.declared.held.Held.{Held}
use Rattle.transport.specs.Calls.{after_transport, holding}
use Rattle.timestep.specs.GreatestStep.{greatest_time, greatest_place}
use Rattle.water.specs.Water.{net_at, draw_of}
use Rattle.update.specs.Step.{summed_drawn, after_step}
use Rattle.sheet.specs.Header.{beds_at, depths_at, discharges_at, masses_at}
use Rattle.sheet.specs.Opening.{sheet_record}
use Rattle.writing.specs.Writing.{sheet_bytes}
use Rattle.jemmyfern_c.specs.Answers.{given_held}
use Rattle.jemmyfern_c.specs.declared.answer.Answer.{Answer}
use Rattle.jemmyfern_c.specs.declared.answer.Opened.{Opened}
use Rattle.jemmyfern_c.specs.declared.answer.Stepped.{Stepped}
use Rattle.jemmyfern_c.specs.declared.answer.Greatest.{Greatest}
use Rattle.jemmyfern_c.proofs.Functions.{Lent, given, OpenLeft, StepLeft, TransportLeft, OpenEnsures, StepEnsures, TransportEnsures, SettingEnsures, GreatestEnsures, WriteEnsures}
use Rattle.demands.specs.Demand1.{zero_ledger}

-- what stands in the columns after a step, with X and what was handed back
abbrev pub stepped : Lent → ℕ → Stepped → StepLeft → Reach
stepped l X r e = reach_of l.bed.now e.depth e.discharge e.mass e.base e.carried X (given_held r.boundaries r.ledger e.outlets)

-- after a transport or a setting of boundaries
abbrev pub transported : Lent → ℕ → Answer → TransportLeft → Reach
transported l X r e = reach_of l.bed.now l.depth.now l.discharge.now e.mass e.base e.carried X (given_held r.boundaries r.ledger e.outlets)

-- after an opening
abbrev pub opened : Opened → OpenLeft → Reach
opened r e = reach_of e.bed e.depth e.discharge e.mass e.base e.carried r.cell_length (given_held r.boundaries r.ledger e.outlets)

-- 'add N to c. If max(c(i+1),0) + max(−c(i),0) ≤ b in each cell, keep the sums': at cell i, with what its outlets have drawn and draw in the step beside them
abbrev pub Covered : Reach → (t i : ℕ) → Type 0
Covered s t i =
    positive (carried_at s (i + 1) +ℤ net_at s t (i + 1)) + positive (neg_ℤ (carried_at s i +ℤ net_at s t i)) + sum (summed_drawn s t i) ≤ base_at s i

pub record Kept (s : Reach) (t : ℕ) (r : Stepped) (e : StepLeft) : Type 0 where
  pub said : r.transported ≡ false
  pub mass : e.mass ≡ s.mass
  pub base : e.base ≡ s.base
  pub carried : (i : ℕ) → i ≤ cells s → get_or e.carried i (pos 0) ≡ carried_at s i +ℤ net_at s t i
  pub drawn : (k : ℕ) → k < s.held.outlets.count → (get_or e.outlets k no_outlet).drawn ≡ (outlet_at s.held.outlets k).drawn + draw_of s t k

-- 'Otherwise settle with the old c first; then c is this step's N', and what is drawn is what this step gave
pub record NotKept (s : Reach) (t : ℕ) (r : Stepped) (e : StepLeft) : Type 0 where
  pub said : r.transported ≡ true
  pub mass : e.mass ≡ (after_transport s).mass
  pub base : e.base ≡ s.depth
  pub carried : (i : ℕ) → i ≤ cells s → get_or e.carried i (pos 0) ≡ net_at s t i
  pub drawn : (k : ℕ) → k < s.held.outlets.count → (get_or e.outlets k no_outlet).drawn ≡ draw_of s t k

-- 'After each accepted call, depth, discharge, nutrient, book totals and the moment of settling equal document 01's whole-number form ..'
pub record DigitForDigit : Type 0 where
  pub opening : (κs : Lfts 8) (sheet : Bor (List ℕ)) (l : Lent) (r : Opened) (e : OpenLeft) → OpenEnsures κs sheet l r e → r.refusal ≡ 0
      → opened r e ≡ sheet_record sheet.now (loaded l.outlets.now)
  pub step : (κs : Lfts 7) (l : Lent) (X : ℕ) (k : Held) (t F : ℕ) (r : Stepped) (e : StepLeft) → StepEnsures κs l X k t F r e → r.refusal ≡ 0
      → stepped l X r e ≡ after_step (given l X k) t F
  -- the moment of settling: a step transports where the sums of carried water cannot be kept in some cell, and says so
  pub kept : (κs : Lfts 7) (l : Lent) (X : ℕ) (k : Held) (t F : ℕ) (r : Stepped) (e : StepLeft) → StepEnsures κs l X k t F r e → r.refusal ≡ 0
      → ((i : ℕ) → i < length l.bed.now → Covered (given l X k) t i) → Kept (given l X k) t r e
  pub not_kept : (κs : Lfts 7) (l : Lent) (X : ℕ) (k : Held) (t F : ℕ) (r : Stepped) (e : StepLeft) → StepEnsures κs l X k t F r e → r.refusal ≡ 0
      → (i : ℕ) → i < length l.bed.now → (Covered (given l X k) t i → ⊥) → NotKept (given l X k) t r e
  pub transport : (κs : Lfts 7) (l : Lent) (X : ℕ) (k : Held) (r : Answer) (e : TransportLeft) → TransportEnsures κs l X k r e → r.refusal ≡ 0
      → transported l X r e ≡ after_transport (given l X k)
  pub set_boundaries_lem : (κs : Lfts 7) (l : Lent) (X : ℕ) (k : Held) (new : List Boundary) (r : Answer) (e : TransportLeft) → SettingEnsures κs l X k new r e → r.refusal ≡ 0
      → transported l X r e ≡ holding new (after_transport (given l X k))
  pub greatest_step_lem : (κs : Lfts 7) (l : Lent) (X : ℕ) (k : Held) (r : Greatest) → GreatestEnsures κs l X k r → r.refusal ≡ 0
      → r ≡ record { refusal = 0; boundaries = k.boundaries; ledger = k.ledger; time = greatest_time (given l X k); place = greatest_place (given l X k) }
  -- the sheet stands at the start of the output, whose other bytes keep their values
  pub write : (κs : Lfts 8) (l : Lent) (X : ℕ) (k : Held) (out : MutBor (List ℕ)) (r : Answer) (written : List ℕ) → WriteEnsures κs l X k out r written → r.refusal ≡ 0
      → (r.boundaries ≡ k.boundaries) × (r.ledger ≡ k.ledger) × (written ≡ sheet_bytes (given l X k) ++ drop (length (sheet_bytes (given l X k))) out.now)

-- columns that are lent for n cells
pub record LentCells (n : ℕ) (l : Lent) : Type 0 where
  pub bed : length l.bed.now ≡ n
  pub depth : length l.depth.now ≡ n
  pub discharge : length l.discharge.now ≡ n
  pub mass : length l.mass.now ≡ n
  pub base : length l.base.now ≡ n
  pub carried : length l.carried.now ≡ n + 1

-- 'a settled record written to a sheet reads back as that record with an empty book': whatever jemmyfern_write wrote, jemmyfern_open opens, in whatever columns are
-- lent for as many cells, however many these are, and with whatever outlets fit them: 'a record read back has the outlets lent to that opening', drawn water and totals 0. (A write that is not refused was of a settled record, by 14, and then b = h, by 8. The pair of boundaries is an array of two.)
abbrev pub ReadBack : Type 0
ReadBack =
    (κs κs' : Lfts 8) (l l' : Lent) (X : ℕ) (k : Held) (out : MutBor (List ℕ)) (sheet : Bor (List ℕ)) (w : Answer) (written : List ℕ) (r : Opened) (e : OpenLeft) →
    length k.boundaries ≡ 2 →
    WriteEnsures κs l X k out w written →
    w.refusal ≡ 0 →
    sheet.now ≡ take (80 + 24 * length l.bed.now) written →
    LentCells (length l.bed.now) l' →
    outlets_fit (length l.bed.now) (loaded l'.outlets.now) ≡ true →
    OpenEnsures κs' sheet l' r e →
    (r ≡ record { refusal = 0; cell_length = X; boundaries = k.boundaries; ledger = zero_ledger })
    × (e ≡ record { bed = l.bed.now; depth = l.depth.now; discharge = l.discharge.now; mass = l.mass.now; base = l.base.now; carried = l.carried.now; outlets = e.outlets })
    × (loaded e.outlets ≡ cleared (loaded l'.outlets.now))

-- 'and a sheet in the writer's column order is written again byte for byte': a sheet of bytes that jemmyfern_open opens, with its columns in the order bed levels, depths,
-- discharges, masses, is what jemmyfern_write writes of what was opened
abbrev pub WroteAgain : Type 0
WroteAgain =
    (κs κs' : Lfts 8) (sheet : Bor (List ℕ)) (out : MutBor (List ℕ)) (l l' : Lent) (r : Opened) (e : OpenLeft) (w : Answer) (written : List ℕ) →
    ((i : ℕ) → i < length sheet.now → get_or sheet.now i 0 < 256) →
    beds_at sheet.now < depths_at sheet.now →
    depths_at sheet.now < discharges_at sheet.now →
    discharges_at sheet.now < masses_at sheet.now →
    OpenEnsures κs sheet l r e →
    r.refusal ≡ 0 →
    given l' r.cell_length (given_held r.boundaries r.ledger e.outlets) ≡ opened r e →
    length sheet.now ≤ length out.now →
    WriteEnsures κs' l' r.cell_length (given_held r.boundaries r.ledger e.outlets) out w written →
    (w.refusal ≡ 0) × (written ≡ sheet.now ++ drop (length sheet.now) out.now)
