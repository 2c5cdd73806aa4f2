-- What the contracts of the six C functions say: none asks anything of its caller, and each ensures its call's definition, of the record that it is given, in
-- every field of the answer and every column. A function with a `requires`, or with an `ensures` that says less, does not pass here.
use mathlib.Core.Path.{◌≡◌, refl}
use mathlib.Core.List.{List}
use Prim.Native.Nat.{ℕ}
use contract.Lifetimes.{Lfts}
use denote.Ref.{Bor, MutBor, at_last, as_bor}
use seplogic.Ra.Ura.{Ura}
use prog.Memory.{Memory}
use prog.Routine.{Routine}
use base.Logic.{SProp, emp}
use types.Logic.{Logic}
use contract.Monad.{Fun, fact}
use denote.Signature.{Signature}
use denote.Triple.Entry.{Args}
use denote.Triple.Spec.{Spec}
use Rattle.reach.specs.declared.boundary.Boundary.{Boundary}
use Rattle.reach.specs.declared.held.Held.{Held}
use Rattle.transport.specs.Calls.{transport, set_boundaries, CameTo}
use Rattle.timestep.specs.GreatestStep.{greatest}
use Rattle.stepping.specs.StepCall.{StepCameTo}
use Rattle.sheet.specs.Opening.{none_held, opening, OpenCameTo}
use Rattle.writing.specs.Writing.{WriteCameTo}
use Rattle.outlet.specs.Outlets.{loaded}
use Rattle.reach.specs.Reach.{reach_of}
use Rattle.jemmyfern_c.specs.Answers.{RestKept, open_with, step_with, transport_with, greatest_with, write_with}
use Rattle.jemmyfern_c.specs.declared.answer.Answer.{Answer}
use Rattle.jemmyfern_c.specs.declared.answer.Opened.{Opened}
use Rattle.jemmyfern_c.specs.declared.answer.Stepped.{Stepped}
use Rattle.jemmyfern_c.specs.declared.answer.Greatest.{Greatest}
use Rattle.jemmyfern_c.specs.contracts.jemmyfern_open as open-clauses
use Rattle.jemmyfern_c.specs.contracts.jemmyfern_step as step-clauses
use Rattle.jemmyfern_c.specs.contracts.jemmyfern_transport as transport-clauses
use Rattle.jemmyfern_c.specs.contracts.jemmyfern_set_boundaries as setting-clauses
use Rattle.jemmyfern_c.specs.contracts.jemmyfern_greatest_step as greatest-clauses
use Rattle.jemmyfern_c.specs.contracts.jemmyfern_write as write-clauses
use Rattle.jemmyfern_c.proofs.jemmyfern_open.Reads as open-reads
use Rattle.jemmyfern_c.proofs.jemmyfern_step.Reads as step-reads
use Rattle.jemmyfern_c.proofs.jemmyfern_transport.Reads as transport-reads
use Rattle.jemmyfern_c.proofs.jemmyfern_set_boundaries.Reads as setting-reads
use Rattle.jemmyfern_c.proofs.jemmyfern_greatest_step.Reads as greatest-reads
use Rattle.jemmyfern_c.proofs.jemmyfern_write.Reads as write-reads
use Rattle.jemmyfern_c.proofs.Functions.{pair, Lent, given, OpenLeft, StepLeft, TransportLeft, OpenAsks, OpenEnsures, StepAsks, StepEnsures, TransportAsks, TransportEnsures, SettingAsks, SettingEnsures, GreatestAsks, GreatestEnsures, WriteAsks, WriteEnsures}

-- ---- what Rattle reads in the contract of src/, as a caller meets it

-- ---- jemmyfern_open

abbrev OpenPre : Lfts 8 → (sheet : Bor (List ℕ)) → Lent → Type 0
OpenPre κs sheet l = open-reads.Pre κs (sheet, (l.bed, (l.depth, (l.discharge, (l.mass, (l.base, (l.carried, (l.outlets, tt))))))))

abbrev OpenPost : Lfts 8 → (sheet : Bor (List ℕ)) → Lent → Opened → OpenLeft → Type 0
OpenPost κs sheet l r e =
    open-reads.Post κs
    (sheet, (l.bed, (l.depth, (l.discharge, (l.mass, (l.base, (l.carried, (l.outlets, tt))))))))
    r
    (sheet, (at_last l.bed e.bed, (at_last l.depth e.depth, (at_last l.discharge e.discharge, (at_last l.mass e.mass, (at_last l.base e.base, (at_last l.carried e.carried, (at_last l.outlets e.outlets, tt))))))))

-- ---- jemmyfern_step

abbrev StepPre : Lfts 7 → Lent → (X : ℕ) → Held → (t F : ℕ) → Type 0
StepPre κs l X k t F = step-reads.Pre κs (as_bor l.bed, (l.depth, (l.discharge, (l.mass, (l.base, (l.carried, (l.outlets, (X, (pair k.boundaries, (k.ledger, (t, (F, tt))))))))))))

abbrev StepPost : Lfts 7 → Lent → (X : ℕ) → Held → (t F : ℕ) → Stepped → StepLeft → Type 0
StepPost κs l X k t F r e =
    step-reads.Post κs
    (as_bor l.bed, (l.depth, (l.discharge, (l.mass, (l.base, (l.carried, (l.outlets, (X, (pair k.boundaries, (k.ledger, (t, (F, tt))))))))))))
    r
    (as_bor l.bed, (at_last l.depth e.depth, (at_last l.discharge e.discharge, (at_last l.mass e.mass, (at_last l.base e.base, (at_last l.carried e.carried, (at_last l.outlets e.outlets, (X, (pair k.boundaries, (k.ledger, (t, (F, tt))))))))))))

-- ---- jemmyfern_transport

abbrev TransportPre : Lfts 7 → Lent → (X : ℕ) → Held → Type 0
TransportPre κs l X k = transport-reads.Pre κs (as_bor l.bed, (as_bor l.depth, (as_bor l.discharge, (l.mass, (l.base, (l.carried, (l.outlets, (X, (pair k.boundaries, (k.ledger, tt))))))))))

abbrev TransportPost : Lfts 7 → Lent → (X : ℕ) → Held → Answer → TransportLeft → Type 0
TransportPost κs l X k r e =
    transport-reads.Post κs
    (as_bor l.bed, (as_bor l.depth, (as_bor l.discharge, (l.mass, (l.base, (l.carried, (l.outlets, (X, (pair k.boundaries, (k.ledger, tt))))))))))
    r
    (as_bor l.bed, (as_bor l.depth, (as_bor l.discharge, (at_last l.mass e.mass, (at_last l.base e.base, (at_last l.carried e.carried, (at_last l.outlets e.outlets, (X, (pair k.boundaries, (k.ledger, tt))))))))))

-- ---- jemmyfern_set_boundaries

abbrev SettingPre : Lfts 7 → Lent → (X : ℕ) → Held → (new : List Boundary) → Type 0
SettingPre κs l X k new = setting-reads.Pre κs (as_bor l.bed, (as_bor l.depth, (as_bor l.discharge, (l.mass, (l.base, (l.carried, (l.outlets, (X, (pair k.boundaries, (k.ledger, (pair new, tt)))))))))))

abbrev SettingPost : Lfts 7 → Lent → (X : ℕ) → Held → (new : List Boundary) → Answer → TransportLeft → Type 0
SettingPost κs l X k new r e =
    setting-reads.Post κs
    (as_bor l.bed, (as_bor l.depth, (as_bor l.discharge, (l.mass, (l.base, (l.carried, (l.outlets, (X, (pair k.boundaries, (k.ledger, (pair new, tt)))))))))))
    r
    (as_bor l.bed, (as_bor l.depth, (as_bor l.discharge, (at_last l.mass e.mass, (at_last l.base e.base, (at_last l.carried e.carried, (at_last l.outlets e.outlets, (X, (pair k.boundaries, (k.ledger, (pair new, tt)))))))))))

-- ---- jemmyfern_greatest_step

abbrev GreatestPre : Lfts 7 → Lent → (X : ℕ) → Held → Type 0
GreatestPre κs l X k = greatest-reads.Pre κs (as_bor l.bed, (as_bor l.depth, (as_bor l.discharge, (as_bor l.mass, (as_bor l.base, (as_bor l.carried, (as_bor l.outlets, (X, (pair k.boundaries, (k.ledger, tt))))))))))

abbrev GreatestPost : Lfts 7 → Lent → (X : ℕ) → Held → Greatest → Type 0
GreatestPost κs l X k r =
    greatest-reads.Post κs
    (as_bor l.bed, (as_bor l.depth, (as_bor l.discharge, (as_bor l.mass, (as_bor l.base, (as_bor l.carried, (as_bor l.outlets, (X, (pair k.boundaries, (k.ledger, tt))))))))))
    r
    (as_bor l.bed, (as_bor l.depth, (as_bor l.discharge, (as_bor l.mass, (as_bor l.base, (as_bor l.carried, (as_bor l.outlets, (X, (pair k.boundaries, (k.ledger, tt))))))))))

-- ---- jemmyfern_write

abbrev WritePre : Lfts 8 → Lent → (X : ℕ) → Held → (out : MutBor (List ℕ)) → Type 0
WritePre κs l X k out = write-reads.Pre κs (as_bor l.bed, (as_bor l.depth, (as_bor l.discharge, (as_bor l.mass, (as_bor l.base, (as_bor l.carried, (as_bor l.outlets, (X, (pair k.boundaries, (k.ledger, (out, tt)))))))))))

abbrev WritePost : Lfts 8 → Lent → (X : ℕ) → Held → (out : MutBor (List ℕ)) → Answer → (written : List ℕ) → Type 0
WritePost κs l X k out r written =
    write-reads.Post κs
    (as_bor l.bed, (as_bor l.depth, (as_bor l.discharge, (as_bor l.mass, (as_bor l.base, (as_bor l.carried, (as_bor l.outlets, (X, (pair k.boundaries, (k.ledger, (out, tt)))))))))))
    r
    (as_bor l.bed, (as_bor l.depth, (as_bor l.discharge, (as_bor l.mass, (as_bor l.base, (as_bor l.carried, (as_bor l.outlets, (X, (pair k.boundaries, (k.ledger, (at_last out written, tt)))))))))))

-- ---- is what Functions.antt says: one type, so both ways

pub open_pre : (κs : Lfts 8) (sheet : Bor (List ℕ)) (l : Lent) → OpenPre κs sheet l ≡ OpenAsks κs sheet l
open_pre κs sheet l = refl

pub open_post : (κs : Lfts 8) (sheet : Bor (List ℕ)) (l : Lent) (r : Opened) (e : OpenLeft) → OpenPost κs sheet l r e ≡ OpenEnsures κs sheet l r e
open_post κs sheet l r e = refl

pub step_pre : (κs : Lfts 7) (l : Lent) (X : ℕ) (k : Held) (t F : ℕ) → StepPre κs l X k t F ≡ StepAsks κs l X k t F
step_pre κs l X k t F = refl

pub step_post : (κs : Lfts 7) (l : Lent) (X : ℕ) (k : Held) (t F : ℕ) (r : Stepped) (e : StepLeft) → StepPost κs l X k t F r e ≡ StepEnsures κs l X k t F r e
step_post κs l X k t F r e = refl

pub transport_pre : (κs : Lfts 7) (l : Lent) (X : ℕ) (k : Held) → TransportPre κs l X k ≡ TransportAsks κs l X k
transport_pre κs l X k = refl

pub transport_post : (κs : Lfts 7) (l : Lent) (X : ℕ) (k : Held) (r : Answer) (e : TransportLeft) → TransportPost κs l X k r e ≡ TransportEnsures κs l X k r e
transport_post κs l X k r e = refl

pub setting_pre : (κs : Lfts 7) (l : Lent) (X : ℕ) (k : Held) (new : List Boundary) → SettingPre κs l X k new ≡ SettingAsks κs l X k new
setting_pre κs l X k new = refl

pub setting_post : (κs : Lfts 7) (l : Lent) (X : ℕ) (k : Held) (new : List Boundary) (r : Answer) (e : TransportLeft) → SettingPost κs l X k new r e ≡ SettingEnsures κs l X k new r e
setting_post κs l X k new r e = refl

pub greatest_pre : (κs : Lfts 7) (l : Lent) (X : ℕ) (k : Held) → GreatestPre κs l X k ≡ GreatestAsks κs l X k
greatest_pre κs l X k = refl

pub greatest_post : (κs : Lfts 7) (l : Lent) (X : ℕ) (k : Held) (r : Greatest) → GreatestPost κs l X k r ≡ GreatestEnsures κs l X k r
greatest_post κs l X k r = refl

pub write_pre : (κs : Lfts 8) (l : Lent) (X : ℕ) (k : Held) (out : MutBor (List ℕ)) → WritePre κs l X k out ≡ WriteAsks κs l X k out
write_pre κs l X k out = refl

pub write_post : (κs : Lfts 8) (l : Lent) (X : ℕ) (k : Held) (out : MutBor (List ℕ)) (r : Answer) (written : List ℕ) → WritePost κs l X k out r written ≡ WriteEnsures κs l X k out r written
write_post κs l X k out r written = refl

pub open_asks_nothing : (κs : Lfts 8) (sheet : Bor (List ℕ)) (l : Lent) → OpenAsks κs sheet l
open_asks_nothing κs sheet l = tt

pub step_asks_nothing : (κs : Lfts 7) (l : Lent) (X : ℕ) (k : Held) (t F : ℕ) → StepAsks κs l X k t F
step_asks_nothing κs l X k t F = tt

pub transport_asks_nothing : (κs : Lfts 7) (l : Lent) (X : ℕ) (k : Held) → TransportAsks κs l X k
transport_asks_nothing κs l X k = tt

pub setting_asks_nothing : (κs : Lfts 7) (l : Lent) (X : ℕ) (k : Held) (new : List Boundary) → SettingAsks κs l X k new
setting_asks_nothing κs l X k new = tt

pub greatest_asks_nothing : (κs : Lfts 7) (l : Lent) (X : ℕ) (k : Held) → GreatestAsks κs l X k
greatest_asks_nothing κs l X k = tt

pub write_asks_nothing : (κs : Lfts 8) (l : Lent) (X : ℕ) (k : Held) (out : MutBor (List ℕ)) → WriteAsks κs l X k out
write_asks_nothing κs l X k out = tt

-- the contract as it is written in src/ is the definition: `Post` and the right hand side are one type, so both ways
pub open_says : (κs : Lfts 8) (sheet : Bor (List ℕ)) (l : Lent) (r : Opened) (e : OpenLeft)
    → OpenEnsures κs sheet l r e ≡ (OpenCameTo (opening sheet.now (reach_of l.bed.now l.depth.now l.discharge.now l.mass.now l.base.now l.carried.now 0 (none_held (loaded l.outlets.now)))) (open_with r e.outlets) e.bed e.depth e.discharge e.mass e.base e.carried × RestKept l.outlets.now e.outlets)
open_says κs sheet l r e = refl

pub step_says : (κs : Lfts 7) (l : Lent) (X : ℕ) (k : Held) (t F : ℕ) (r : Stepped) (e : StepLeft)
    → StepEnsures κs l X k t F r e ≡ (StepCameTo (given l X k) t F (step_with r e.outlets) e.depth e.discharge e.mass e.base e.carried × RestKept l.outlets.now e.outlets)
step_says κs l X k t F r e = refl

pub transport_says : (κs : Lfts 7) (l : Lent) (X : ℕ) (k : Held) (r : Answer) (e : TransportLeft)
    → TransportEnsures κs l X k r e ≡ (CameTo (transport (given l X k)) (transport_with r e.outlets) e.mass e.base e.carried × RestKept l.outlets.now e.outlets)
transport_says κs l X k r e = refl

pub setting_says : (κs : Lfts 7) (l : Lent) (X : ℕ) (k : Held) (new : List Boundary) (r : Answer) (e : TransportLeft)
    → SettingEnsures κs l X k new r e ≡ (CameTo (set_boundaries (given l X k) new) (transport_with r e.outlets) e.mass e.base e.carried × RestKept l.outlets.now e.outlets)
setting_says κs l X k new r e = refl

pub greatest_says : (κs : Lfts 7) (l : Lent) (X : ℕ) (k : Held) (r : Greatest)
    → GreatestEnsures κs l X k r ≡ (greatest_with r l.outlets.now ≡ greatest (given l X k))
greatest_says κs l X k r = refl

pub write_says : (κs : Lfts 8) (l : Lent) (X : ℕ) (k : Held) (out : MutBor (List ℕ)) (r : Answer) (written : List ℕ)
    → WriteEnsures κs l X k out r written ≡ WriteCameTo (given l X k) out.now (write_with r l.outlets.now) written
write_says κs l X k out r written = refl

-- a contract that asks nothing of the caller
abbrev pub AsksNothing : {M : Type 1} (𝓤 : Ura M) (S : Signature) → Spec 𝓤 S → Type 2
AsksNothing 𝓤 S c = (κs : Lfts S.lifetimes) (a : Args S κs) (g : (c κs a).ghost) → (c κs a).requires g ≡ emp 𝓤

-- What is cited of each above (proofs/lent, which is machine-made) is the contract of src/ itself, at every model: no `requires`, and the clause of its `ensures`
module _ {M : Type 1} {𝓤 : Ura M} (𝓛 : Logic 𝓤) (mem : Memory → SProp 𝓤) (run : Routine → Fun 𝓤) where
  pub open_owes_nothing : AsksNothing 𝓤 open-clauses.signature (open-clauses.spec 𝓛 mem run)
  open_owes_nothing κs a g = refl

  pub open_clause : (κs : Lfts 8) (sheet : Bor (List ℕ)) (l : Lent) (r : Opened) (e : OpenLeft) → open-clauses.ensures-1 𝓛 κs mem run sheet l.bed l.depth l.discharge l.mass l.base l.carried l.outlets (record { entry = sheet; exit = sheet }) (record { entry = l.bed; exit = at_last l.bed e.bed }) (record { entry = l.depth; exit = at_last l.depth e.depth }) (record { entry = l.discharge; exit = at_last l.discharge e.discharge }) (record { entry = l.mass; exit = at_last l.mass e.mass }) (record { entry = l.base; exit = at_last l.base e.base }) (record { entry = l.carried; exit = at_last l.carried e.carried }) (record { entry = l.outlets; exit = at_last l.outlets e.outlets }) r ≡ fact 𝓤 (OpenEnsures κs sheet l r e)
  open_clause κs sheet l r e = refl

  pub step_owes_nothing : AsksNothing 𝓤 step-clauses.signature (step-clauses.spec 𝓛 mem run)
  step_owes_nothing κs a g = refl

  pub step_clause : (κs : Lfts 7) (l : Lent) (X : ℕ) (k : Held) (t F : ℕ) (r : Stepped) (e : StepLeft) → step-clauses.ensures-1 𝓛 κs mem run (as_bor l.bed) l.depth l.discharge l.mass l.base l.carried l.outlets X (pair k.boundaries) k.ledger t F (record { entry = as_bor l.bed; exit = as_bor l.bed }) (record { entry = l.depth; exit = at_last l.depth e.depth }) (record { entry = l.discharge; exit = at_last l.discharge e.discharge }) (record { entry = l.mass; exit = at_last l.mass e.mass }) (record { entry = l.base; exit = at_last l.base e.base }) (record { entry = l.carried; exit = at_last l.carried e.carried }) (record { entry = l.outlets; exit = at_last l.outlets e.outlets }) (record { entry = X; exit = X }) (record { entry = pair k.boundaries; exit = pair k.boundaries }) (record { entry = k.ledger; exit = k.ledger }) (record { entry = t; exit = t }) (record { entry = F; exit = F }) r ≡ fact 𝓤 (StepEnsures κs l X k t F r e)
  step_clause κs l X k t F r e = refl

  pub transport_owes_nothing : AsksNothing 𝓤 transport-clauses.signature (transport-clauses.spec 𝓛 mem run)
  transport_owes_nothing κs a g = refl

  pub transport_clause : (κs : Lfts 7) (l : Lent) (X : ℕ) (k : Held) (r : Answer) (e : TransportLeft) → transport-clauses.ensures-1 𝓛 κs mem run (as_bor l.bed) (as_bor l.depth) (as_bor l.discharge) l.mass l.base l.carried l.outlets X (pair k.boundaries) k.ledger (record { entry = as_bor l.bed; exit = as_bor l.bed }) (record { entry = as_bor l.depth; exit = as_bor l.depth }) (record { entry = as_bor l.discharge; exit = as_bor l.discharge }) (record { entry = l.mass; exit = at_last l.mass e.mass }) (record { entry = l.base; exit = at_last l.base e.base }) (record { entry = l.carried; exit = at_last l.carried e.carried }) (record { entry = l.outlets; exit = at_last l.outlets e.outlets }) (record { entry = X; exit = X }) (record { entry = pair k.boundaries; exit = pair k.boundaries }) (record { entry = k.ledger; exit = k.ledger }) r ≡ fact 𝓤 (TransportEnsures κs l X k r e)
  transport_clause κs l X k r e = refl

  pub setting_owes_nothing : AsksNothing 𝓤 setting-clauses.signature (setting-clauses.spec 𝓛 mem run)
  setting_owes_nothing κs a g = refl

  pub setting_clause : (κs : Lfts 7) (l : Lent) (X : ℕ) (k : Held) (new : List Boundary) (r : Answer) (e : TransportLeft) → setting-clauses.ensures-1 𝓛 κs mem run (as_bor l.bed) (as_bor l.depth) (as_bor l.discharge) l.mass l.base l.carried l.outlets X (pair k.boundaries) k.ledger (pair new) (record { entry = as_bor l.bed; exit = as_bor l.bed }) (record { entry = as_bor l.depth; exit = as_bor l.depth }) (record { entry = as_bor l.discharge; exit = as_bor l.discharge }) (record { entry = l.mass; exit = at_last l.mass e.mass }) (record { entry = l.base; exit = at_last l.base e.base }) (record { entry = l.carried; exit = at_last l.carried e.carried }) (record { entry = l.outlets; exit = at_last l.outlets e.outlets }) (record { entry = X; exit = X }) (record { entry = pair k.boundaries; exit = pair k.boundaries }) (record { entry = k.ledger; exit = k.ledger }) (record { entry = pair new; exit = pair new }) r ≡ fact 𝓤 (SettingEnsures κs l X k new r e)
  setting_clause κs l X k new r e = refl

  pub greatest_owes_nothing : AsksNothing 𝓤 greatest-clauses.signature (greatest-clauses.spec 𝓛 mem run)
  greatest_owes_nothing κs a g = refl

  pub greatest_clause : (κs : Lfts 7) (l : Lent) (X : ℕ) (k : Held) (r : Greatest) → greatest-clauses.ensures-1 𝓛 κs mem run (as_bor l.bed) (as_bor l.depth) (as_bor l.discharge) (as_bor l.mass) (as_bor l.base) (as_bor l.carried) (as_bor l.outlets) X (pair k.boundaries) k.ledger (record { entry = as_bor l.bed; exit = as_bor l.bed }) (record { entry = as_bor l.depth; exit = as_bor l.depth }) (record { entry = as_bor l.discharge; exit = as_bor l.discharge }) (record { entry = as_bor l.mass; exit = as_bor l.mass }) (record { entry = as_bor l.base; exit = as_bor l.base }) (record { entry = as_bor l.carried; exit = as_bor l.carried }) (record { entry = as_bor l.outlets; exit = as_bor l.outlets }) (record { entry = X; exit = X }) (record { entry = pair k.boundaries; exit = pair k.boundaries }) (record { entry = k.ledger; exit = k.ledger }) r ≡ fact 𝓤 (GreatestEnsures κs l X k r)
  greatest_clause κs l X k r = refl

  pub write_owes_nothing : AsksNothing 𝓤 write-clauses.signature (write-clauses.spec 𝓛 mem run)
  write_owes_nothing κs a g = refl

  pub write_clause : (κs : Lfts 8) (l : Lent) (X : ℕ) (k : Held) (out : MutBor (List ℕ)) (r : Answer) (written : List ℕ) → write-clauses.ensures-1 𝓛 κs mem run (as_bor l.bed) (as_bor l.depth) (as_bor l.discharge) (as_bor l.mass) (as_bor l.base) (as_bor l.carried) (as_bor l.outlets) X (pair k.boundaries) k.ledger out (record { entry = as_bor l.bed; exit = as_bor l.bed }) (record { entry = as_bor l.depth; exit = as_bor l.depth }) (record { entry = as_bor l.discharge; exit = as_bor l.discharge }) (record { entry = as_bor l.mass; exit = as_bor l.mass }) (record { entry = as_bor l.base; exit = as_bor l.base }) (record { entry = as_bor l.carried; exit = as_bor l.carried }) (record { entry = as_bor l.outlets; exit = as_bor l.outlets }) (record { entry = X; exit = X }) (record { entry = pair k.boundaries; exit = pair k.boundaries }) (record { entry = k.ledger; exit = k.ledger }) (record { entry = out; exit = at_last out written }) r ≡ fact 𝓤 (WriteEnsures κs l X k out r written)
  write_clause κs l X k out r written = refl
