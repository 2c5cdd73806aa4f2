-- `transport::transport_under` meets its contract: `full` and `accepted` say what each outcome is. Assumes nothing.
use mathlib.Core.Path.{◌≡◌, refl, sym, ap, ap₂, ◌∙◌}
use mathlib.Core.Bool.{true}
use mathlib.Core.List.{List}
use Prim.Native.Nat.{ℕ, ◌+◌, ◌<◌}
use native.Mathlib.Omega.{arith}
use Rattle.outlet.specs.Outlets.{outlet_at}
use Rattle.outlet.specs.declared.Outlets.{Outlets}
use Rattle.outlet.proofs.OutletLaws.{each_count}
use Rattle.mass.specs.Transport.{outlet_share, moved_outlet, moved_outlets}
use Rattle.mass.specs.Ranges.{moved_mass}
use Rattle.reach.specs.Reach.{Reach, reach_of}
use Rattle.reach.specs.Grounds.{all_totals_fit}
use Rattle.reach.specs.declared.boundary.Boundary.{Boundary}
use Rattle.reach.specs.declared.held.Held.{Held}
use Rattle.reach.specs.declared.ledger.Ledger.{Ledger}
use Rattle.reach.proofs.GroundsLaws.{passed, refused_by, refusal_of}
use Rattle.reach.proofs.Sound.{Sound, sound, outlets_few, ledger_fits_lem}
use Rattle.transport.specs.Calls.{mass_columns_of, transport_ledger, transport_outlets, transport_held, after_transport, holding, set_boundaries, CameTo}
use Rattle.transport.specs.Ranges.{BoundaryMassOf, answer}
use Rattle.transport.proofs.CallsLaws.{ready_with, crossed_with, ready_entering, moved_none, gained_entering, taken_entering, outlets_ready, outlets_are, shares_moved, small, ledger_is, full, accepted}
use Rattle.reach.specs.Refusals.{number}
use Rattle.reach.specs.declared.refusal.Refusal.{Refusal}
use Rattle.reach.specs.declared.refusal.Refusal.TheVariants as refusal
use Rattle.transport.proofs.transport_under.Goals as goal
use Rattle.transport.proofs.transport_under.Goals.{After-boundary_mass_of-crossed, After-commit, After-move_outlets-moved, Start}

abbrev reach : Start → Reach
reach s =
    reach_of s.args.bed.now s.args.depth.now s.args.discharge.now s.args.mass.now s.args.base.now s.args.carried.now s.args.x s.args.held

checked : (s : Start) → Sound (reach s)
checked s = sound (reach s) s.args.given s.requires

crossed : (c : After-boundary_mass_of-crossed) →
    let x = c.boundary_mass_of-crossed.result in
    BoundaryMassOf (mass_columns_of (reach (goal.at.After-boundary_mass_of-crossed c).Start)) x.left_in x.left_out x.right_in x.right_out
crossed c = crossed_with (reach (goal.at.After-boundary_mass_of-crossed c).Start) (checked (goal.at.After-boundary_mass_of-crossed c).Start) c.boundary_mass_of-crossed.ensures

-- the totals that the call would leave
next-ledger : (c : After-move_outlets-moved) → c.entered-next.result ≡ transport_ledger (reach (goal.at.After-move_outlets-moved c).Start)
next-ledger c =
    c.entered-next.ensures ∙ ledger_is (reach (goal.at.After-move_outlets-moved c).Start) (checked (goal.at.After-move_outlets-moved c).Start) _ _ _ _ (crossed (goal.at.After-move_outlets-moved c).After-boundary_mass_of-crossed)

next-outlets : (c : After-move_outlets-moved) → c.move_outlets-moved.result ≡ transport_outlets (reach (goal.at.After-move_outlets-moved c).Start)
next-outlets c = c.move_outlets-moved.ensures ∙ outlets_are (reach (goal.at.After-move_outlets-moved c).Start) (checked (goal.at.After-move_outlets-moved c).Start)

abbrev with : List Boundary → Ledger → Outlets → Held
with es k os = record { boundaries = es; ledger = k; outlets = os }

-- a pair of boundaries has no total
no_total : (s : Reach) (es : List Boundary) → all_totals_fit (with es (transport_ledger s) (transport_outlets s)) ≡ all_totals_fit (transport_held s)
unfolding all_totals_fit transport_held
no_total s es = refl

room_is : (c : After-move_outlets-moved) →
    all_totals_fit (with c.args.given c.entered-next.result c.move_outlets-moved.result) ≡ all_totals_fit (transport_held (reach (goal.at.After-move_outlets-moved c).Start))
room_is c = ap₂ (λ (k : Ledger) (os : Outlets). all_totals_fit (with c.args.given k os)) (next-ledger c) (next-outlets c) ∙ no_total (reach (goal.at.After-move_outlets-moved c).Start) c.args.given

-- each outlet has gained its share
shared : (c : After-move_outlets-moved) (k : ℕ) →
    let s = reach (goal.at.After-move_outlets-moved c).Start in
    let os = s.held.outlets in
    k < os.count → (outlet_at c.move_outlets-moved.result k).mass ≡ (outlet_at os k).mass + outlet_share (mass_columns_of s) (outlet_at os k).cell k
shared c k l = ap (λ (os : Outlets). (outlet_at os k).mass) (next-outlets c) ∙ shares_moved (reach (goal.at.After-move_outlets-moved c).Start) (checked (goal.at.After-move_outlets-moved c).Start) k l

fits : (c : After-commit) → all_totals_fit (transport_held (reach (goal.at.After-commit c).Start)) ≡ true
fits c = sym (room_is (goal.at.After-commit c).After-move_outlets-moved) ∙ passed refusal.Total _ _ c.check_room.ensures c.in_default.is

came : (c : After-commit) (mass : List ℕ) →
    let a = c.args in
    mass ≡ moved_mass (mass_columns_of (reach (goal.at.After-commit c).Start))
    → CameTo (set_boundaries (reach (goal.at.After-commit c).Start) a.given) (answer 0 (with a.given c.entered-next.result c.move_outlets-moved.result))
    mass c.commit.new.base c.commit.new.carried
unfolding after_transport holding transport_held
came c mass e =
    rw (accepted (reach (goal.at.After-commit c).Start) c.args.given c.requires (fits c))
    (record {
      refusal_is = refl;
      held_is = ap₂ (with c.args.given) (next-ledger (goal.at.After-commit c).After-move_outlets-moved) (next-outlets (goal.at.After-commit c).After-move_outlets-moved);
      mass_is = e;
      base_is = c.commit.ensures.base_after;
      carried_is = c.commit.ensures.carried_after;
    })

pub entered-next-requires : goal.entered-next-requires
entered-next-requires c =
    (ledger_fits_lem _ (checked (goal.at.entered-next-requires c).Start).totals, small (reach (goal.at.entered-next-requires c).Start) (checked (goal.at.entered-next-requires c).Start) _ _ _ _ (crossed (goal.at.entered-next-requires c).After-boundary_mass_of-crossed))

pub move_outlets-moved-requires : goal.move_outlets-moved-requires
move_outlets-moved-requires c = outlets_ready (reach (goal.at.move_outlets-moved-requires c).Start) (checked (goal.at.move_outlets-moved-requires c).Start)

pub check_room-requires : goal.check_room-requires
unfolding transport_outlets moved_outlets
check_room-requires c =
    rw (next-outlets (goal.at.check_room-requires c).After-move_outlets-moved, each_count (moved_outlet (mass_columns_of (reach (goal.at.check_room-requires c).Start)) c.args.held.outlets) c.args.held.outlets) (outlets_few _ _ (checked (goal.at.check_room-requires c).Start).outlets)

pub returns-in-Err : goal.returns-in-Err
returns-in-Err c =
    let t = refused_by refusal.Total _ _ _ c.check_room.ensures c.in-Err.is in
    let a = c.refused.ensures ∙ ap (λ (r : Refusal). answer (number r) c.args.held) (refusal_of refusal.Total _ _ _ c.check_room.ensures c.in-Err.is) in
    rw (full (reach (goal.at.returns-in-Err c).Start) c.args.given c.requires (sym (room_is (goal.at.returns-in-Err c).After-move_outlets-moved) ∙ t), a)
    (record { refusal_is = refl; held_is = refl; mass_is = refl; base_is = refl; carried_is = refl })

pub returns-then-outlets-eq0 : goal.returns-then-outlets-eq0
returns-then-outlets-eq0 c =
    let x = crossed (goal.at.returns-then-outlets-eq0 c).After-boundary_mass_of-crossed in
    came (goal.at.returns-then-outlets-eq0 c).After-commit _ (c.commit.ensures.mass_after ∙ moved_none (reach (goal.at.returns-then-outlets-eq0 c).Start) (checked (goal.at.returns-then-outlets-eq0 c).Start) x.left_in x.right_in c.if-outlets-eq0.true)

pub take_gains-requires : goal.take_gains-requires
take_gains-requires c =
    let x = crossed (goal.at.take_gains-requires c).After-boundary_mass_of-crossed in
    gained_entering (reach (goal.at.take_gains-requires c).Start) (checked (goal.at.take_gains-requires c).Start) x.left_in x.right_in c.move_outlets-moved.result (shared (goal.at.take_gains-requires c).After-move_outlets-moved) _ c.commit.ensures.mass_after

pub returns : goal.returns
returns c =
    let x = crossed (goal.at.returns c).After-boundary_mass_of-crossed in
    came (goal.at.returns c).After-commit _ (c.take_gains.ensures ∙ taken_entering (reach (goal.at.returns c).Start) (checked (goal.at.returns c).Start) x.left_in x.right_in c.move_outlets-moved.result (shared (goal.at.returns c).After-move_outlets-moved) _ c.commit.ensures.mass_after)

pub boundary_mass_of-crossed-requires-clause-ready : goal.boundary_mass_of-crossed-requires-clause-ready
boundary_mass_of-crossed-requires-clause-ready c =
    let k = checked (goal.at.boundary_mass_of-crossed-requires-clause-ready c).Start in
    ready_with (reach (goal.at.boundary_mass_of-crossed-requires-clause-ready c).Start) k

pub boundary_mass_of-crossed-requires-clause-in_bounds : goal.boundary_mass_of-crossed-requires-clause-in_bounds
boundary_mass_of-crossed-requires-clause-in_bounds c =
    let k = checked (goal.at.boundary_mass_of-crossed-requires-clause-in_bounds c).Start in
    omega (arith, k.some, k.masses)

pub commit-requires-clause-ready : goal.commit-requires-clause-ready
commit-requires-clause-ready c =
    let k = checked (goal.at.commit-requires-clause-ready c).Start in
    let x = crossed (goal.at.commit-requires-clause-ready c).After-boundary_mass_of-crossed in
    ready_entering (reach (goal.at.commit-requires-clause-ready c).Start) k x.left_in x.right_in

pub commit-requires-clause-base_len : goal.commit-requires-clause-base_len
commit-requires-clause-base_len c =
    let k = checked (goal.at.commit-requires-clause-base_len c).Start in
    let x = crossed (goal.at.commit-requires-clause-base_len c).After-boundary_mass_of-crossed in
    omega (arith, k.bases, k.depths)
