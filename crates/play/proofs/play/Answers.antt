-- `play::play` meets its contract, call by call. Assumes nothing.
use mathlib.Core.Path.{◌≡◌, sym, ap, ◌∙◌, subst}
use mathlib.Core.Bool.{true}
use mathlib.Core.List.{List}
use Prim.Native.Nat.{ℕ}
use Rattle.reach.specs.Reach.{Reach, reach_of}
use Rattle.reach.specs.Outcome.{Outcome}
use Rattle.reach.proofs.GroundsLaws.{passed, refused_by, refusal_of}
use Rattle.transport.specs.Calls.{transport}
use Rattle.outlet.specs.Outlets.{no_outlets}
use Rattle.outlet.specs.declared.Outlets.{Outlets}
use Rattle.sheet.specs.Opening.{lent, opening, OpenCameTo}
use Rattle.play.specs.Play.{steps, count_fits}
use Rattle.sheet.proofs.OpeningLaws.{left_by_opening}
use Rattle.transport.proofs.CallsLaws.{left_by_transport}
use Rattle.play.proofs.PlayLaws.{left, not_opened, too_many, not_stepped, transported}
use Rattle.reach.specs.Refusals.{number}
use Rattle.reach.specs.declared.refusal.Refusal.TheVariants as refusal
use Rattle.play.proofs.play.Goals as goal
use Rattle.play.proofs.play.Goals.{After-open_sheet-o, After-run_steps-r, Else-o-ne0, In_default, Start}

abbrev sheet : Start → List ℕ
sheet s = s.args.s.now

abbrev columns : Start → Reach
columns s = lent s.args.bed.now s.args.depth.now s.args.discharge.now s.args.mass.now s.args.base.now s.args.carried.now no_outlets

abbrev opened : After-open_sheet-o → Outcome
opened c = opening (sheet (goal.at.After-open_sheet-o c).Start) (columns (goal.at.After-open_sheet-o c).Start)

-- the opening was lent an empty list
opened-to : (c : After-open_sheet-o) →
    let l = c.open_sheet-o.new in
    OpenCameTo (opened c) c.open_sheet-o.result l.bed l.depth l.discharge l.mass l.base l.carried
opened-to c =
    let l = c.open_sheet-o.new in
    let a = c.args in
    subst
    (λ (os : Outlets). OpenCameTo (opening (sheet (goal.at.After-open_sheet-o c).Start) (lent a.bed.now a.depth.now a.discharge.now a.mass.now a.base.now a.carried.now os)) c.open_sheet-o.result l.bed l.depth l.discharge l.mass l.base l.carried)
    c.no_outlets-none.ensures
    c.open_sheet-o.ensures

accepted : (c : Else-o-ne0) → (opened (goal.at.Else-o-ne0 c).After-open_sheet-o).refusal ≡ 0
accepted c = sym (opened-to (goal.at.Else-o-ne0 c).After-open_sheet-o).refusal_is ∙ c.if-o-ne0.false

few : (c : In_default) → count_fits c.args.count ≡ true
few c = passed refusal.TimeStep _ _ c.check_count.ensures c.in_default.is

-- the steps from the record that the opening left
abbrev run : After-run_steps-r → Outcome
run c = let a = c.args in steps a.count a.t (opened (goal.at.After-run_steps-r c).After-open_sheet-o).reach

from-opening : (c : After-run_steps-r) →
    let w = c.open_sheet-o in
    let a = c.args in
    steps a.count a.t (reach_of w.new.bed w.new.depth w.new.discharge w.new.mass w.new.base w.new.carried w.result.cell_length w.result.held)
    ≡ run c
from-opening c = let a = c.args in ap (steps a.count a.t) (left_by_opening (opened-to (goal.at.After-run_steps-r c).After-open_sheet-o))

pub returns-then-o-ne0 : goal.returns-then-o-ne0
returns-then-o-ne0 c =
    let n : (opened (goal.at.returns-then-o-ne0 c).After-open_sheet-o).refusal ≡ 0 → ⊥ = λ z. c.if-o-ne0.true ((opened-to (goal.at.returns-then-o-ne0 c).After-open_sheet-o).refusal_is ∙ z) in
    rw (not_opened (sheet (goal.at.returns-then-o-ne0 c).Start) (columns (goal.at.returns-then-o-ne0 c).Start) c.args.count c.args.t n)
    (left _ _ _ _ _ _ _ (c.came_to.ensures.0 ∙ (opened-to (goal.at.returns-then-o-ne0 c).After-open_sheet-o).refusal_is) c.came_to.ensures.1 (left_by_opening (opened-to (goal.at.returns-then-o-ne0 c).After-open_sheet-o)))

pub returns-in-Err : goal.returns-in-Err
returns-in-Err c =
    let k = goal.at.returns-in-Err c in
    let f = refused_by refusal.TimeStep _ _ _ c.check_count.ensures c.in-Err.is in
    let n = c.came_to-in-Err.ensures.0 ∙ c.into.ensures ∙ ap number (refusal_of refusal.TimeStep _ _ _ c.check_count.ensures c.in-Err.is) in
    rw (too_many (sheet k.Start) (columns k.Start) c.args.count c.args.t (accepted k.Else-o-ne0) f)
    (left _ _ _ _ _ _ _ n c.came_to-in-Err.ensures.1 (left_by_opening (opened-to k.After-open_sheet-o)))

pub returns-then-r-ne0 : goal.returns-then-r-ne0
returns-then-r-ne0 c =
    let e = c.run_steps-r.ensures.refusal_is ∙ ap (λ (o : Outcome). o.refusal) (from-opening (goal.at.returns-then-r-ne0 c).After-run_steps-r) in
    let n : (run (goal.at.returns-then-r-ne0 c).After-run_steps-r).refusal ≡ 0 → ⊥ = λ z. c.if-r-ne0.true (e ∙ z) in
    rw (not_stepped (sheet (goal.at.returns-then-r-ne0 c).Start) (columns (goal.at.returns-then-r-ne0 c).Start) c.args.count c.args.t (accepted (goal.at.returns-then-r-ne0 c).Else-o-ne0) (few (goal.at.returns-then-r-ne0 c).In_default) n)
    (left _ _ _ _ _ _ _ (c.came_to-then-r-ne0.ensures.0 ∙ e) c.came_to-then-r-ne0.ensures.1 (c.run_steps-r.ensures.reach_is ∙ ap (λ (o : Outcome). o.reach) (from-opening (goal.at.returns-then-r-ne0 c).After-run_steps-r)))

pub returns : goal.returns
returns c =
    let e = c.run_steps-r.ensures.refusal_is ∙ ap (λ (o : Outcome). o.refusal) (from-opening (goal.at.returns c).After-run_steps-r) in
    let z : (run (goal.at.returns c).After-run_steps-r).refusal ≡ 0 = sym e ∙ c.if-r-ne0.false in
    let r = c.run_steps-r.ensures.reach_is ∙ ap (λ (o : Outcome). o.reach) (from-opening (goal.at.returns c).After-run_steps-r) in
    let a = c.transport-a.ensures in
    let o = transported (sheet (goal.at.returns c).Start) (columns (goal.at.returns c).Start) c.args.count c.args.t (accepted (goal.at.returns c).Else-o-ne0) (few (goal.at.returns c).In_default) z ∙ ap transport (sym r) in
    rw o (left _ _ _ _ _ _ _ (c.came_to-2.ensures.0 ∙ a.refusal_is) c.came_to-2.ensures.1 (left_by_transport _ a))
