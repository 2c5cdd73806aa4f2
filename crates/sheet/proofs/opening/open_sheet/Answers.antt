-- `sheet::opening::open_sheet` meets its contract. Assumes nothing.
use mathlib.Core.Path.{◌≡◌, refl, sym, ap, ap₂, ◌∙◌}
use Prim.Native.Nat.{ℕ, ◌≤◌}
use lib.IntN.{pos}
use lib.ListN.{length, replicate}
use Rattle.reach.specs.Reach.{Reach}
use Rattle.reach.specs.Grounds.{first_refusal}
use Rattle.reach.specs.Grounds.{Verdict}
use Rattle.reach.proofs.GroundsLaws.{stood}
use Rattle.reach.proofs.Sound.{outlets_few}
use Rattle.encoding.specs.FromBytes.{twos, column_at}
use Rattle.sheet.specs.Header.{header_size, count_of}
use Rattle.sheet.specs.Opening.{sheet_record, lent, open_grounds}
use Rattle.sheet.proofs.OpeningLaws.{edition_long, within, Lent, lent_are, accepted, stayed}
use Rattle.std.specs.Prelude.{Ok}
use Rattle.sheet.proofs.opening.open_sheet.Goals as goal
use Rattle.sheet.proofs.opening.open_sheet.Goals.{In_default, Start}

abbrev columns : Start → Reach
columns s = lent s.args.bed.now s.args.depth.now s.args.discharge.now s.args.mass.now s.args.base.now s.args.carried.now s.args.outlets

abbrev grounds : Start → Verdict
grounds s =
    let l = columns s in
    first_refusal (open_grounds s.args.s.now (length l.bed) (length l.depth) (length l.discharge) (length l.mass) (length l.base) (length l.carried) s.args.outlets)

checked : (c : In_default) → grounds (goal.at.In_default c).Start ≡ Ok tt
checked c = sym c.check_opening.ensures ∙ c.in_default.is

long : (c : In_default) → header_size ≤ length c.args.s.now
long c = edition_long _ (stood _ (checked c) 0)

lengths : (c : In_default) →
    let l = columns (goal.at.In_default c).Start in
    Lent (count_of c.args.s.now) (length l.bed) (length l.depth) (length l.discharge) (length l.mass) (length l.base) (length l.carried)
lengths c = lent_are _ _ _ _ _ _ _ (stood _ (checked c) 3)

pub returns-in-Err : goal.returns-in-Err
returns-in-Err c = stayed c.args.s.now (columns (goal.at.returns-in-Err c).Start) c.in-Err.r refl (sym c.check_opening.ensures ∙ c.in-Err.is) c.unopened.ensures

pub layout_of-requires : goal.layout_of-requires
layout_of-requires c = long (goal.at.layout_of-requires c).In_default

pub fill-requires-clause-within : goal.fill-requires-clause-within
fill-requires-clause-within c =
    let g = stood _ (checked (goal.at.fill-requires-clause-within c).In_default) in
    rw (lengths (goal.at.fill-requires-clause-within c).In_default).beds (within _ c.layout_of.result c.layout_of.ensures (g 1) (g 2))

pub fill-requires-clause-depth_len : goal.fill-requires-clause-depth_len
fill-requires-clause-depth_len c =
    let n = lengths (goal.at.fill-requires-clause-depth_len c).In_default in
    (n.depths ∙ sym n.beds, (n.discharges ∙ sym n.beds, (n.masses ∙ sym n.beds, n.bases ∙ sym n.beds)))

pub cell_length_of-requires : goal.cell_length_of-requires
cell_length_of-requires c = long (goal.at.cell_length_of-requires c).In_default

pub held_of-requires : goal.held_of-requires
held_of-requires c =
    let k = (goal.at.held_of-requires c).In_default in
    record { header_size_in_bounds = long k; count_le_outlets_most = outlets_few _ _ (stood _ (checked k) 7) }

pub returns : goal.returns
unfolding sheet_record
returns c =
    let sheet = c.args.s.now in
    let n = lengths (goal.at.returns c).In_default in
    let l = c.layout_of.ensures in
    let f = c.fill.ensures in
    let depths = f.depth_after ∙ ap₂ (column_at (λ v. v) 4 sheet) l.depths_are n.beds in
    rw (accepted sheet (columns (goal.at.returns c).Start) (checked (goal.at.returns c).In_default))
    (record {
      refusal_is = refl;
      length_is = c.cell_length_of.ensures;
      held_is = c.held_of.ensures;
      bed_is = f.bed_after ∙ ap₂ (column_at (twos 4) 4 sheet) l.beds_are n.beds;
      depth_is = depths;
      discharge_is = f.discharge_after ∙ ap₂ (column_at (twos 8) 8 sheet) l.discharges_are n.beds;
      mass_is = f.mass_after ∙ ap₂ (column_at (λ v. v) 8 sheet) l.masses_are n.beds;
      base_is = f.base_after ∙ ap₂ (column_at (λ v. v) 4 sheet) l.depths_are n.beds;
      carried_is = f.carried_after ∙ ap (λ (k : ℕ). replicate k (pos 0)) n.carried;
    })
