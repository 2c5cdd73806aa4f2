-- Demand 1, sentence by sentence, of the six functions of include/jemmyfern.h. (`StepEnsures` is the contract of jemmyfern_step: with the columns and the list of outlets l, X and what is held k
-- it answers r and leaves e in the columns and in the list. `given l X k` is the record that it is given, its outlets those of the list; `now` is what stands in a column at the call. κs are the lifetimes of the loans; nothing
-- depends on them.)
use Rattle.std.specs.Prelude.{◌≡◌, true, false, List, [], ◌∷◌, ℕ, pos, length}
use contract.Lifetimes.{Lfts}
use Rattle.std.specs.Borrow.{Bor, MutBor}
use Rattle.outlet.specs.Outlets.{loaded}
use Rattle.reach.specs.Refusals.{number}
use Rattle.reach.specs.Grounds.{Ground, record_grounds}
use Rattle.reach.specs.declared.boundary.Boundary.{Boundary}
use Rattle.reach.specs.declared.held.Held.{Held}
use Rattle.reach.specs.declared.ledger.Ledger.{Ledger}
use Rattle.transport.specs.Calls.{transport_grounds}
use Rattle.update.specs.Step.{step_grounds}
use Rattle.sheet.specs.Opening.{open_grounds}
use Rattle.writing.specs.Writing.{write_grounds}
use Rattle.jemmyfern_c.specs.declared.answer.Answer.{Answer}
use Rattle.jemmyfern_c.specs.declared.answer.Opened.{Opened}
use Rattle.jemmyfern_c.specs.declared.answer.Stepped.{Stepped}
use Rattle.jemmyfern_c.specs.declared.answer.Greatest.{Greatest}
use Rattle.jemmyfern_c.proofs.Functions.{Lent, given, OpenLeft, StepLeft, TransportLeft, OpenAsks, OpenEnsures, StepAsks, StepEnsures, TransportAsks, TransportEnsures, SettingAsks, SettingEnsures, GreatestAsks, GreatestEnsures, WriteAsks, WriteEnsures}

-- 'Every sheet, end setting, time step, settling, greatest-step call and write ..': no function asks anything of what it is given
pub record AsksNothing : Type 0 where
  pub opening : (κs : Lfts 8) (sheet : Bor (List ℕ)) (l : Lent) → OpenAsks κs sheet l
  pub step : (κs : Lfts 7) (l : Lent) (X : ℕ) (k : Held) (t F : ℕ) → StepAsks κs l X k t F
  pub transport : (κs : Lfts 7) (l : Lent) (X : ℕ) (k : Held) → TransportAsks κs l X k
  pub set_boundaries_lem : (κs : Lfts 7) (l : Lent) (X : ℕ) (k : Held) (new : List Boundary) → SettingAsks κs l X k new
  pub greatest_step_lem : (κs : Lfts 7) (l : Lent) (X : ℕ) (k : Held) → GreatestAsks κs l X k
  pub write : (κs : Lfts 8) (l : Lent) (X : ℕ) (k : Held) (out : MutBor (List ℕ)) → WriteAsks κs l X k out

-- n is the number of the first ground of a list that does not stand, 0 where all of them stand
unfoldable pub First : ℕ → List Ground → Type 0
First n [] = n ≡ 0
First n (g ∷ gs) = (g.stands ≡ true → First n gs) × (g.stands ≡ false → n ≡ number g.refusal)

-- '.. within document 01's limits is accepted .. Everything else is refused with the first number in its list that applies'
pub record RefusedByTheFirst : Type 0 where
  pub opening : (κs : Lfts 8) (sheet : Bor (List ℕ)) (l : Lent) (r : Opened) (e : OpenLeft) → OpenEnsures κs sheet l r e
      → First r.refusal (open_grounds sheet.now (length l.bed.now) (length l.depth.now) (length l.discharge.now) (length l.mass.now) (length l.base.now) (length l.carried.now) (loaded l.outlets.now))
  pub step : (κs : Lfts 7) (l : Lent) (X : ℕ) (k : Held) (t F : ℕ) (r : Stepped) (e : StepLeft) → StepEnsures κs l X k t F r e
      → First r.refusal (step_grounds (given l X k) t F)
  pub transport : (κs : Lfts 7) (l : Lent) (X : ℕ) (k : Held) (r : Answer) (e : TransportLeft) → TransportEnsures κs l X k r e
      → First r.refusal (transport_grounds (given l X k) k.boundaries)
  pub set_boundaries_lem : (κs : Lfts 7) (l : Lent) (X : ℕ) (k : Held) (new : List Boundary) (r : Answer) (e : TransportLeft) → SettingEnsures κs l X k new r e
      → First r.refusal (transport_grounds (given l X k) new)
  pub greatest_step_lem : (κs : Lfts 7) (l : Lent) (X : ℕ) (k : Held) (r : Greatest) → GreatestEnsures κs l X k r
      → First r.refusal (record_grounds (given l X k) k.boundaries)
  pub write : (κs : Lfts 8) (l : Lent) (X : ℕ) (k : Held) (out : MutBor (List ℕ)) (r : Answer) (written : List ℕ) → WriteEnsures κs l X k out r written
      → First r.refusal (write_grounds (given l X k) (length out.now))

abbrev pub IsRefused : ℕ → Type 0
IsRefused n = n ≡ 0 → ⊥

-- what an opening hands back to hold where it opened nothing: all zero
abbrev pub zero_boundary : Boundary
zero_boundary = record { kind = 0; reserved = 0; depth = 0; concentration = 0; discharge = pos 0 }

abbrev pub zero_ledger : Ledger
zero_ledger = record {
  left = record { water_in = 0; water_out = 0; mass_in = 0; mass_out = 0 };
  right = record { water_in = 0; water_out = 0; mass_in = 0; mass_out = 0 };
}

-- '.. and the record, the book of totals and the output stay as they came': the answer has the number, what was held as it came, and 0 in its other fields (an
-- opening was given nothing to hold); every column, the list of outlets and the output have the values that they had
pub record StaysAsItCame : Type 0 where
  pub opening : (κs : Lfts 8) (sheet : Bor (List ℕ)) (l : Lent) (r : Opened) (e : OpenLeft) → OpenEnsures κs sheet l r e → IsRefused r.refusal
      → (r ≡ record { refusal = r.refusal; cell_length = 0; boundaries = zero_boundary ∷ zero_boundary ∷ []; ledger = zero_ledger })
      × (e ≡ record { bed = l.bed.now; depth = l.depth.now; discharge = l.discharge.now; mass = l.mass.now; base = l.base.now; carried = l.carried.now; outlets = l.outlets.now })
  pub step : (κs : Lfts 7) (l : Lent) (X : ℕ) (k : Held) (t F : ℕ) (r : Stepped) (e : StepLeft) → StepEnsures κs l X k t F r e → IsRefused r.refusal
      → (r ≡ record { refusal = r.refusal; boundaries = k.boundaries; ledger = k.ledger; transported = false })
      × (e ≡ record { depth = l.depth.now; discharge = l.discharge.now; mass = l.mass.now; base = l.base.now; carried = l.carried.now; outlets = l.outlets.now })
  pub transport : (κs : Lfts 7) (l : Lent) (X : ℕ) (k : Held) (r : Answer) (e : TransportLeft) → TransportEnsures κs l X k r e → IsRefused r.refusal
      → (r ≡ record { refusal = r.refusal; boundaries = k.boundaries; ledger = k.ledger })
      × (e ≡ record { mass = l.mass.now; base = l.base.now; carried = l.carried.now; outlets = l.outlets.now })
  pub set_boundaries_lem : (κs : Lfts 7) (l : Lent) (X : ℕ) (k : Held) (new : List Boundary) (r : Answer) (e : TransportLeft) → SettingEnsures κs l X k new r e
      → IsRefused r.refusal
      → (r ≡ record { refusal = r.refusal; boundaries = k.boundaries; ledger = k.ledger })
      × (e ≡ record { mass = l.mass.now; base = l.base.now; carried = l.carried.now; outlets = l.outlets.now })
  pub greatest_step_lem : (κs : Lfts 7) (l : Lent) (X : ℕ) (k : Held) (r : Greatest) → GreatestEnsures κs l X k r → IsRefused r.refusal
      → r ≡ record { refusal = r.refusal; boundaries = k.boundaries; ledger = k.ledger; time = 0; place = 0 }
  pub write : (κs : Lfts 8) (l : Lent) (X : ℕ) (k : Held) (out : MutBor (List ℕ)) (r : Answer) (written : List ℕ) → WriteEnsures κs l X k out r written → IsRefused r.refusal
      → (r ≡ record { refusal = r.refusal; boundaries = k.boundaries; ledger = k.ledger }) × (written ≡ out.now)
