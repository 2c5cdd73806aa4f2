-- The six functions, by name, for what is stated of them above: what each asks of its arguments and what it ensures, as their contracts stand in
-- src/lib.rt. That they are those contracts is proved in Says.antt: `Pre` and `Post` of a function, its `requires` and its `ensures` as Rattle reads them, are
-- these, and so are the clauses at every model. A contract may not cite what Rattle makes for proofs, so that they are written out here. The arguments are
-- those of include/jemmyfern.h, in its order.
use mathlib.Core.Path.{◌≡◌}
use mathlib.Core.List.{List}
use Prim.Native.Nat.{ℕ}
use contract.Lifetimes.{Lfts}
use denote.Ref.{Bor, MutBor}
use lib.IntN.{ℤ}
use Rattle.outlet.specs.Outlets.{loaded}
use Rattle.reach.specs.Reach.{Reach, reach_of}
use Rattle.transport.specs.Calls.{transport, set_boundaries, CameTo}
use Rattle.timestep.specs.GreatestStep.{greatest}
use Rattle.stepping.specs.StepCall.{StepCameTo}
use Rattle.sheet.specs.Opening.{none_held, opening, OpenCameTo}
use Rattle.writing.specs.Writing.{WriteCameTo}
use Rattle.reach.specs.declared.boundary.Boundary.{Boundary}
use Rattle.reach.specs.declared.held.Held.{Held}
use Rattle.outlet.specs.declared.Outlet.{Outlet}
use Rattle.jemmyfern_c.specs.Answers.{given_held, RestKept, open_with, step_with, transport_with, greatest_with, write_with}
use Rattle.jemmyfern_c.specs.declared.answer.Boundaries.{Boundaries}
use Rattle.jemmyfern_c.specs.declared.answer.Answer.{Answer}
use Rattle.jemmyfern_c.specs.declared.answer.Opened.{Opened}
use Rattle.jemmyfern_c.specs.declared.answer.Stepped.{Stepped}
use Rattle.jemmyfern_c.specs.declared.answer.Greatest.{Greatest}

-- the columns as the caller lends them
pub record Lent : Type 0 where
  pub bed : MutBor (List ℤ)
  pub depth : MutBor (List ℕ)
  pub discharge : MutBor (List ℤ)
  pub mass : MutBor (List ℕ)
  pub base : MutBor (List ℕ)
  pub carried : MutBor (List ℤ)
  pub outlets : MutBor (List Outlet)

-- the record that a call is given: what stands in the lent columns when it is called, X, and the boundaries and the ledger
abbrev pub given : Lent → ℕ → Held → Reach
given l X k = reach_of l.bed.now l.depth.now l.discharge.now l.mass.now l.base.now l.carried.now X (given_held k.boundaries k.ledger l.outlets.now)

-- a pair of boundaries, as C passes it
abbrev pub pair : List Boundary → Boundaries
pair es = record { boundaries = es }

-- ---- what stands in the columns that a call may write when it has returned; the others it cannot write (a shared loan)

pub record OpenLeft : Type 0 where
  pub bed : List ℤ
  pub depth : List ℕ
  pub discharge : List ℤ
  pub mass : List ℕ
  pub base : List ℕ
  pub carried : List ℤ
  pub outlets : List Outlet

pub record StepLeft : Type 0 where
  pub depth : List ℕ
  pub discharge : List ℤ
  pub mass : List ℕ
  pub base : List ℕ
  pub carried : List ℤ
  pub outlets : List Outlet

pub record TransportLeft : Type 0 where
  pub mass : List ℕ
  pub base : List ℕ
  pub carried : List ℤ
  pub outlets : List Outlet

-- ---- jemmyfern_open

abbrev pub OpenAsks : Lfts 8 → (sheet : Bor (List ℕ)) → Lent → Type 0
OpenAsks κs sheet l = Unit {0}

abbrev pub OpenEnsures : Lfts 8 → (sheet : Bor (List ℕ)) → Lent → Opened → OpenLeft → Type 0
OpenEnsures κs sheet l r e =
    OpenCameTo (opening sheet.now (reach_of l.bed.now l.depth.now l.discharge.now l.mass.now l.base.now l.carried.now 0 (none_held (loaded l.outlets.now)))) (open_with r e.outlets) e.bed e.depth e.discharge e.mass e.base e.carried × RestKept l.outlets.now e.outlets

-- ---- jemmyfern_step

abbrev pub StepAsks : Lfts 7 → Lent → (X : ℕ) → Held → (t F : ℕ) → Type 0
StepAsks κs l X k t F = Unit {0}

abbrev pub StepEnsures : Lfts 7 → Lent → (X : ℕ) → Held → (t F : ℕ) → Stepped → StepLeft → Type 0
StepEnsures κs l X k t F r e =
    StepCameTo (given l X k) t F (step_with r e.outlets) e.depth e.discharge e.mass e.base e.carried × RestKept l.outlets.now e.outlets

-- ---- jemmyfern_transport

abbrev pub TransportAsks : Lfts 7 → Lent → (X : ℕ) → Held → Type 0
TransportAsks κs l X k = Unit {0}

abbrev pub TransportEnsures : Lfts 7 → Lent → (X : ℕ) → Held → Answer → TransportLeft → Type 0
TransportEnsures κs l X k r e =
    CameTo (transport (given l X k)) (transport_with r e.outlets) e.mass e.base e.carried × RestKept l.outlets.now e.outlets

-- ---- jemmyfern_set_boundaries

abbrev pub SettingAsks : Lfts 7 → Lent → (X : ℕ) → Held → (new : List Boundary) → Type 0
SettingAsks κs l X k new = Unit {0}

abbrev pub SettingEnsures : Lfts 7 → Lent → (X : ℕ) → Held → (new : List Boundary) → Answer → TransportLeft → Type 0
SettingEnsures κs l X k new r e =
    CameTo (set_boundaries (given l X k) new) (transport_with r e.outlets) e.mass e.base e.carried × RestKept l.outlets.now e.outlets

-- ---- jemmyfern_greatest_step

abbrev pub GreatestAsks : Lfts 7 → Lent → (X : ℕ) → Held → Type 0
GreatestAsks κs l X k = Unit {0}

abbrev pub GreatestEnsures : Lfts 7 → Lent → (X : ℕ) → Held → Greatest → Type 0
GreatestEnsures κs l X k r =
    greatest_with r l.outlets.now ≡ greatest (given l X k)

-- ---- jemmyfern_write

abbrev pub WriteAsks : Lfts 8 → Lent → (X : ℕ) → Held → (out : MutBor (List ℕ)) → Type 0
WriteAsks κs l X k out = Unit {0}

abbrev pub WriteEnsures : Lfts 8 → Lent → (X : ℕ) → Held → (out : MutBor (List ℕ)) → Answer → (written : List ℕ) → Type 0
WriteEnsures κs l X k out r written =
    WriteCameTo (given l X k) out.now (write_with r l.outlets.now) written
