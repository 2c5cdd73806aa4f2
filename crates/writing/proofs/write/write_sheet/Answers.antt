-- `writing::write::write_sheet` meets its contract: `refused_write` and `accepted_write` say what each outcome is. Assumes nothing.
use mathlib.Core.Path.{◌≡◌, sym, ◌∙◌}
use native.Mathlib.Omega.{arith}
use lib.ListN.{length}
use Rattle.reach.specs.Reach.{Reach, reach_of}
use Rattle.writing.specs.Writing.{sheet_bytes, write_refusal}
use Rattle.writing.proofs.WritingLaws.{write_sound, write_room, refused_write, accepted_write}
use Rattle.std.specs.Prelude.{Ok}
use Rattle.writing.proofs.write.write_sheet.Goals as goal
use Rattle.writing.proofs.write.write_sheet.Goals.{In_default, Start}

abbrev reach : Start → Reach
reach s =
    reach_of s.args.bed.now s.args.depth.now s.args.discharge.now s.args.mass.now s.args.base.now s.args.carried.now s.args.x s.args.held

checked : (c : In_default) → write_refusal (reach (goal.at.In_default c).Start) (length c.args.out.now) ≡ Ok tt
checked c = sym c.check_write.ensures ∙ c.in_default.is

pub returns-in-Err : goal.returns-in-Err
returns-in-Err c = refused_write (reach (goal.at.returns-in-Err c).Start) c.args.out.now c.in-Err.r _ (sym c.check_write.ensures ∙ c.in-Err.is) c.refused.ensures

pub returns : goal.returns
unfolding sheet_bytes
returns c =
    accepted_write (reach (goal.at.returns c).Start) c.args.out.now _ (checked (goal.at.returns c).In_default) c.put_sheet.ensures

pub put_sheet-requires-clause-bed_len_bound : goal.put_sheet-requires-clause-bed_len_bound
put_sheet-requires-clause-bed_len_bound c =
    let room = length c.args.out.now in
    let k = write_sound (reach (goal.at.put_sheet-requires-clause-bed_len_bound c).Start) room (checked (goal.at.put_sheet-requires-clause-bed_len_bound c).In_default) in (k.few, write_room (reach (goal.at.put_sheet-requires-clause-bed_len_bound c).Start) room (checked (goal.at.put_sheet-requires-clause-bed_len_bound c).In_default))

pub put_sheet-requires-clause-depth_len : goal.put_sheet-requires-clause-depth_len
put_sheet-requires-clause-depth_len c =
    let room = length c.args.out.now in
    let k = write_sound (reach (goal.at.put_sheet-requires-clause-depth_len c).Start) room (checked (goal.at.put_sheet-requires-clause-depth_len c).In_default) in (k.depths, (k.discharges, k.masses))

pub put_sheet-requires-clause-boundaries_bound : goal.put_sheet-requires-clause-boundaries_bound
put_sheet-requires-clause-boundaries_bound c =
    let room = length c.args.out.now in
    let k = write_sound (reach (goal.at.put_sheet-requires-clause-boundaries_bound c).Start) room (checked (goal.at.put_sheet-requires-clause-boundaries_bound c).In_default) in (omega (arith, k.left.depth, k.left.discharge), omega (arith, k.right.depth, k.right.discharge))

pub put_sheet-requires-clause-by_index : goal.put_sheet-requires-clause-by_index
put_sheet-requires-clause-by_index c =
    let room = length c.args.out.now in
    let k = write_sound (reach (goal.at.put_sheet-requires-clause-by_index c).Start) room (checked (goal.at.put_sheet-requires-clause-by_index c).In_default) in (λ i l. omega (arith, (k.cell i l).bed))

pub put_sheet-requires-clause-by_index_2 : goal.put_sheet-requires-clause-by_index_2
put_sheet-requires-clause-by_index_2 c =
    let room = length c.args.out.now in
    let k = write_sound (reach (goal.at.put_sheet-requires-clause-by_index_2 c).Start) room (checked (goal.at.put_sheet-requires-clause-by_index_2 c).In_default) in (λ i l. let v = k.cell i (omega (arith, l, k.discharges)) in omega (arith, v.depth, v.discharge))
