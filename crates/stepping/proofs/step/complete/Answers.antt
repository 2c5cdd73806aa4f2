-- `stepping::step::complete` meets its contract: what was found of the step is what the definitions say (`StepCallLaws`). Assumes nothing.
use mathlib.Core.Path.{◌≡◌, sym, ap, ◌∙◌, subst}
use mathlib.Core.Bool.{not, cond}
use mathlib.Core.List.{List}
use Prim.Native.Nat.{ℕ, ◌-◌}
use native.Mathlib.Omega.{arith}
use lib.IntN.{ℤ}
use lib.ListN.{length, get_or}
use mir.Facts.{to_z-of_z}
use borrow.Author.Rules.{sfits_of}
use Rattle.numbers.specs.Index.{tabulate}
use Rattle.outlet.specs.declared.Outlets.{Outlets}
use Rattle.flux.specs.Ranges.{Mesh}
use Rattle.reach.specs.Ranges.{undrawn}
use Rattle.reach.specs.Reach.{Reach, reach_of, cells}
use Rattle.reach.specs.Grounds.{all_totals_fit}
use Rattle.reach.proofs.GroundsLaws.{passed, refused_by, refusal_of}
use Rattle.reach.proofs.Sound.{Sound, sound, outlets_few, ledger_fits_lem}
use Rattle.reach.specs.declared.held.Held.{Held}
use Rattle.mass.specs.Transport.{mass_columns}
use Rattle.mass.specs.Ranges.{Gained, gains, moved_mass}
use Rattle.transport.proofs.CallsLaws.{ready_with, outlets_ready}
use Rattle.update.specs.Step.{keeps_sums, transported_first, step_outlets, step_held, after_step}
use Rattle.update.proofs.StepLaws.{step_count}
use Rattle.stepping.specs.StepCall.{StepCameTo}
use Rattle.stepping.specs.Ranges.{StepFound}
use Rattle.stepping.proofs.StepCallLaws.{stays_by, mesh, sums_are, net_at_lem, summable, depth_written, discharge_written, carried_written, addable, room, room_when, small_when, ready_when, held_after, mass_none, gained_when, taken_when, base_when, carried_when, stopped_13, stepped_on, came_out}
use Rattle.reach.specs.declared.refusal.Refusal.TheVariants as refusal
use Rattle.stepping.proofs.step.complete.Goals as goal
use Rattle.stepping.proofs.step.complete.Goals.{After-book-booked, After-keeps_sums-transports, After-transport_when, After-write_step, Start}

abbrev reach : Start → Reach
reach s =
    reach_of s.args.bed.now s.args.depth.now s.args.discharge.now s.args.mass.now s.args.base.now s.args.carried.now s.args.x s.args.held

whole : (s : Start) → Sound (reach s)
whole s = sound (reach s) s.args.held.boundaries s.requires.boundaries_value

fine : (s : Start) → Mesh s.args.t s.args.x
fine s = mesh (reach s) (whole s) s.args.t s.requires.step_passes.time

found : (s : Start) → StepFound (reach s) s.args.t s.args.f s.args.net.now s.args.new_depth.now s.args.new_discharge.now s.args.got
found s = s.requires.step_found

-- the transport test
transporting : (c : After-keeps_sums-transports) → not c.keeps_sums-transports.result ≡ not (keeps_sums (reach (goal.at.After-keeps_sums-transports c).Start) c.args.t)
transporting c =
    ap not (c.keeps_sums-transports.ensures ∙ sums_are (reach (goal.at.After-keeps_sums-transports c).Start) (whole (goal.at.After-keeps_sums-transports c).Start) c.args.t c.requires.step_passes.cfl _ _ _ _ (found (goal.at.After-keeps_sums-transports c).Start))

-- what is held after the step
booked : (c : After-book-booked) → c.book-booked.result.held ≡ step_held (reach (goal.at.After-book-booked c).Start) c.args.t
booked c =
    let e = rw (to_z-of_z (sfits_of c.book-arg-1.given), to_z-of_z (sfits_of c.book-arg-2-1.given)) at c.book-booked.ensures.held_value in
    e
    ∙ held_after (reach (goal.at.After-book-booked c).Start) (whole (goal.at.After-book-booked c).Start) c.args.t c.requires.step_passes.cfl _ _ _ _ (found (goal.at.After-book-booked c).Start) _ (transporting (goal.at.After-book-booked c).After-keeps_sums-transports) _ _ _ _ c.book-booked.ensures.boundary_mass_when _ _
    ((found (goal.at.After-book-booked c).Start).nets 0 (omega arith)) ((found (goal.at.After-book-booked c).Start).nets (cells (reach (goal.at.After-book-booked c).Start)) (omega arith))

-- the carried water after the transport inside the step
abbrev carried : After-transport_when → List ℤ
carried c = c.transport_when.new.carried

carried-transported : (c : After-transport_when) → carried c ≡ (transported_first (reach (goal.at.After-transport_when c).Start) c.args.t).carried
carried-transported c =
    c.transport_when.ensures.carried_after ∙ carried_when (reach (goal.at.After-transport_when c).Start) (whole (goal.at.After-transport_when c).Start) c.args.t c.requires.step_passes.cfl _ _ _ _ (found (goal.at.After-transport_when c).Start) _ (transporting (goal.at.After-transport_when c).After-keeps_sums-transports)

-- the mass by what crossed the sides
abbrev mass : After-write_step → List ℕ
mass c = c.transport_when.new.mass

mass-found : (c : After-write_step) →
    let x = c.book-booked.result.crossed in
    let s = reach (goal.at.After-write_step c).Start in
    mass c ≡ cond (not c.keeps_sums-transports.result) (moved_mass (mass_columns s.mass s.base s.carried undrawn x.left_in x.right_in)) s.mass
mass-found c = c.transport_when.ensures.mass_after

came : (c : After-write_step) (l : List ℕ) →
    l ≡ (after_step (reach (goal.at.After-write_step c).Start) c.args.t c.args.f).mass
    → StepCameTo (reach (goal.at.After-write_step c).Start) c.args.t c.args.f (record { refusal = 0; held = c.book-booked.result.held; transported = not c.keeps_sums-transports.result })
    c.write_step.new.depth c.write_step.new.discharge l c.transport_when.new.base c.write_step.new.carried
came c l is =
    let k = whole (goal.at.After-write_step c).Start in
    let r = reach (goal.at.After-write_step c).Start in
    let t = c.args.t in
    let p = c.requires.step_passes in
    let w = found (goal.at.After-write_step c).Start in
    let e = transporting (goal.at.After-write_step c).After-keeps_sums-transports in
    let wrote = c.write_step.ensures in
    let fits = sym (ap all_totals_fit (booked (goal.at.After-write_step c).After-book-booked)) ∙ passed refusal.Total _ _ c.check_room.ensures c.in_default.is in
    came_out r t c.args.f
    (stepped_on r t c.args.f c.requires.boundaries_value p.time p.strickler p.cfl p.deep fits)
    (booked (goal.at.After-write_step c).After-book-booked)
    e
    (wrote.depth_after ∙ depth_written r k t p.cfl _ _ _ _ w)
    (wrote.discharge_after ∙ discharge_written r k t p.cfl _ _ _ _ w)
    is
    (c.transport_when.ensures.base_after ∙ base_when r k t p.cfl _ _ _ _ w _ e)
    (wrote.carried_after ∙ carried_written r k t p.cfl _ _ _ _ w (carried (goal.at.After-write_step c).After-transport_when) (carried-transported (goal.at.After-write_step c).After-transport_when))

-- the outlets after the step
outlets_are : (b : After-book-booked) → b.book-booked.result.held.outlets ≡ step_outlets (reach (goal.at.After-book-booked b).Start) b.args.t
unfolding step_held
outlets_are b = ap (λ (h : Held). h.outlets) (booked b)

pub keeps_sums-transports-requires : goal.keeps_sums-transports-requires
keeps_sums-transports-requires c =
    let k = whole (goal.at.keeps_sums-transports-requires c).Start in
    (summable (reach (goal.at.keeps_sums-transports-requires c).Start) k c.args.t c.requires.step_passes.cfl _ _ _ _ (found (goal.at.keeps_sums-transports-requires c).Start) (fine (goal.at.keeps_sums-transports-requires c).Start), (found (goal.at.keeps_sums-transports-requires c).Start).depth_long)

pub check_room-requires : goal.check_room-requires
check_room-requires c =
    rw (booked (goal.at.check_room-requires c).After-book-booked, step_count (reach (goal.at.check_room-requires c).Start) c.args.t) (outlets_few _ _ (whole (goal.at.check_room-requires c).Start).outlets)

pub returns-in-Err : goal.returns-in-Err
returns-in-Err c =
    let a = c.args in
    let s = reach (goal.at.returns-in-Err c).Start in
    let p = c.requires.step_passes in
    let f = sym (ap all_totals_fit (booked (goal.at.returns-in-Err c).After-book-booked)) ∙ refused_by refusal.Total _ _ _ c.check_room.ensures c.in-Err.is in
    stays_by s a.t a.f refusal.Total _ _ (refusal_of refusal.Total _ _ _ c.check_room.ensures c.in-Err.is) c.refused.ensures
    (stopped_13 s a.t a.f c.requires.boundaries_value p.time p.strickler p.cfl p.deep f)

pub returns-then-held-eq0 : goal.returns-then-held-eq0
returns-then-held-eq0 c =
    came (goal.at.returns-then-held-eq0 c).After-write_step _ (mass-found (goal.at.returns-then-held-eq0 c).After-write_step ∙ mass_none (reach (goal.at.returns-then-held-eq0 c).Start) (whole (goal.at.returns-then-held-eq0 c).Start) c.args.t c.requires.step_passes.cfl _ _ _ _ (found (goal.at.returns-then-held-eq0 c).Start) _ (transporting (goal.at.returns-then-held-eq0 c).After-keeps_sums-transports) _ _ _ _ c.book-booked.ensures.boundary_mass_when c.if-held-eq0.true)

pub take_gains-requires : goal.take_gains-requires
take_gains-requires c =
    subst (λ (os : Outlets). Gained (mass (goal.at.take_gains-requires c).After-write_step) c.args.held.outlets os) (sym (outlets_are (goal.at.take_gains-requires c).After-book-booked))
    (gained_when (reach (goal.at.take_gains-requires c).Start) (whole (goal.at.take_gains-requires c).Start) c.args.t c.requires.step_passes.cfl _ _ _ _ (found (goal.at.take_gains-requires c).Start) _ (transporting (goal.at.take_gains-requires c).After-keeps_sums-transports) _ _ _ _ c.book-booked.ensures.boundary_mass_when (mass (goal.at.take_gains-requires c).After-write_step) (mass-found (goal.at.take_gains-requires c).After-write_step))

pub returns : goal.returns
returns c =
    came (goal.at.returns c).After-write_step _
    (c.take_gains.ensures
    ∙ ap (λ (os : Outlets). tabulate (length (mass (goal.at.returns c).After-write_step)) (λ i. get_or (mass (goal.at.returns c).After-write_step) i 0 - gains c.args.held.outlets os i)) (outlets_are (goal.at.returns c).After-book-booked)
    ∙ taken_when (reach (goal.at.returns c).Start) (whole (goal.at.returns c).Start) c.args.t c.requires.step_passes.cfl _ _ _ _ (found (goal.at.returns c).Start) _ (transporting (goal.at.returns c).After-keeps_sums-transports) _ _ _ _ c.book-booked.ensures.boundary_mass_when (mass (goal.at.returns c).After-write_step) (mass-found (goal.at.returns c).After-write_step))

pub transport_when-requires-clause-ready : goal.transport_when-requires-clause-ready
transport_when-requires-clause-ready c =
    let k = whole (goal.at.transport_when-requires-clause-ready c).Start in
    ready_when (reach (goal.at.transport_when-requires-clause-ready c).Start) k c.args.t c.requires.step_passes.cfl _ _ _ _ (found (goal.at.transport_when-requires-clause-ready c).Start) _ (transporting (goal.at.transport_when-requires-clause-ready c).After-keeps_sums-transports) _ _ _ _ c.book-booked.ensures.boundary_mass_when

pub transport_when-requires-clause-base_len : goal.transport_when-requires-clause-base_len
transport_when-requires-clause-base_len c =
    let k = whole (goal.at.transport_when-requires-clause-base_len c).Start in
    k.bases ∙ sym k.depths

pub write_step-requires-clause-depth_in_bounds : goal.write_step-requires-clause-depth_in_bounds
write_step-requires-clause-depth_in_bounds c =
    let k = whole (goal.at.write_step-requires-clause-depth_in_bounds c).Start in
    let w = found (goal.at.write_step-requires-clause-depth_in_bounds c).Start in (
      omega (arith, w.depth_long, k.depths),
      (omega (arith, w.discharge_long, k.discharges), omega (arith, w.net_long, k.interfaces, c.transport_when.auto.carried)),
    )

pub write_step-requires-clause-by_index : goal.write_step-requires-clause-by_index
write_step-requires-clause-by_index c =
    let k = whole (goal.at.write_step-requires-clause-by_index c).Start in
    let w = found (goal.at.write_step-requires-clause-by_index c).Start in addable (reach (goal.at.write_step-requires-clause-by_index c).Start) k c.args.t c.requires.step_passes.cfl _ _ _ _ w (carried (goal.at.write_step-requires-clause-by_index c).After-transport_when) (carried-transported (goal.at.write_step-requires-clause-by_index c).After-transport_when) (fine (goal.at.write_step-requires-clause-by_index c).Start)

pub book-booked-requires : goal.book-booked-requires
book-booked-requires c =
    let k = whole (goal.at.book-booked-requires c).Start in
    let r = reach (goal.at.book-booked-requires c).Start in
    let t = c.args.t in
    let cfl = c.requires.step_passes.cfl in
    let w = found (goal.at.book-booked-requires c).Start in
    let e = transporting (goal.at.book-booked-requires c).After-keeps_sums-transports in
    let at = net_at_lem r k t cfl _ _ _ _ w (fine (goal.at.book-booked-requires c).Start) in
    record {
      ready = ready_with r k;
      in_bounds = (omega (arith, k.some, k.masses), outlets_ready r k);
      small = λ a b c o y. small_when r k t cfl _ _ _ _ w _ e a b c o y;
      room = (room r k t cfl _ _ _ _ w, room_when r k t cfl _ _ _ _ w _ e);
      ledger_value = rw (to_z-of_z (sfits_of c.book-arg-1.given), to_z-of_z (sfits_of c.book-arg-2-1.given)) (ledger_fits_lem _ k.totals, (at 0 (omega arith), at (cells r) (omega arith)));
    }
