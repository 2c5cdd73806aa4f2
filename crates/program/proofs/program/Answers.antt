-- `program::program` meets its contract. Assumes nothing.
use mathlib.Core.Path.{◌≡◌, ap, ◌∙◌}
use mathlib.Core.Bool.{true}
use mathlib.Core.List.{List}
use Prim.Native.Nat.{ℕ, ◌≤◌}
use native.Mathlib.Omega.{arith}
use lib.ListN.{length}
use Rattle.reach.proofs.GroundsLaws.{passed, refused_by, refusal_of}
use Rattle.program.specs.Program.{trailer_fits, input_fits}
use Rattle.program.proofs.ProgramLaws.{blank_is, too_short, too_long, program_is, trailer_there, input_short}
use Rattle.reach.specs.Refusals.{number}
use Rattle.reach.specs.declared.refusal.Refusal.TheVariants as refusal
use Rattle.program.proofs.program.Goals as goal
use Rattle.program.proofs.program.Goals.{In_default, In_default-check_input}

abbrev input : In_default → List ℕ
input c = c.args.input.now

trailer : (c : In_default) → trailer_fits (length (input c)) ≡ true
trailer c = passed refusal.Edition _ _ c.check_trailer.ensures c.in_default.is

short : (c : In_default-check_input) → input_fits (length (input (goal.at.In_default-check_input c).In_default)) ≡ true
short c = passed refusal.Size _ _ c.check_input.ensures c.in_default-check_input.is

least : (c : In_default-check_input) → 8 ≤ length (input (goal.at.In_default-check_input c).In_default)
least c = trailer_there _ (trailer (goal.at.In_default-check_input c).In_default)

pub overflow_sub-k : goal.overflow_sub-k
overflow_sub-k c = omega (arith, least (goal.at.overflow_sub-k c).In_default-check_input)

pub read_number-count-requires : goal.read_number-count-requires
read_number-count-requires c = let l = least (goal.at.read_number-count-requires c).In_default-check_input in (omega arith, omega (arith, l))

pub read_number-t-requires : goal.read_number-t-requires
read_number-t-requires c = let l = least (goal.at.read_number-t-requires c).In_default-check_input in (omega arith, omega (arith, l))

pub cells_in-n-requires : goal.cells_in-n-requires
cells_in-n-requires c = omega (arith, input_short _ (short (goal.at.cells_in-n-requires c).In_default-check_input))

pub returns-in-Err-clause-value : goal.returns-in-Err-clause-value
returns-in-Err-clause-value c =
    let n = c.into.ensures ∙ ap number (refusal_of refusal.Edition _ _ _ c.check_trailer.ensures c.in-Err.is) in
    let f = rw n at c.put_refused.ensures.value in
    rw (← too_short c.args.input.now (refused_by refusal.Edition _ _ _ c.check_trailer.ensures c.in-Err.is)) (f.0, omega (arith, f.1))

pub returns-in-Err-clause-put : goal.returns-in-Err-clause-put
returns-in-Err-clause-put c =
    let n = c.into.ensures ∙ ap number (refusal_of refusal.Edition _ _ _ c.check_trailer.ensures c.in-Err.is) in
    rw (← too_short c.args.input.now (refused_by refusal.Edition _ _ _ c.check_trailer.ensures c.in-Err.is)) (rw n at c.put_refused.ensures.put)

pub returns-in-Err-check_input-clause-value : goal.returns-in-Err-check_input-clause-value
returns-in-Err-check_input-clause-value c =
    let n = c.into-in-Err-check_input.ensures ∙ ap number (refusal_of refusal.Size _ _ _ c.check_input.ensures c.in-Err-check_input.is) in
    let f = rw n at c.put_refused-in-Err-check_input.ensures.value in
    let k = (goal.at.returns-in-Err-check_input-clause-value c).In_default in
    rw (← too_long (input k) (trailer k) (refused_by refusal.Size _ _ _ c.check_input.ensures c.in-Err-check_input.is)) (f.0, omega (arith, f.1))

pub returns-in-Err-check_input-clause-put : goal.returns-in-Err-check_input-clause-put
returns-in-Err-check_input-clause-put c =
    let n = c.into-in-Err-check_input.ensures ∙ ap number (refusal_of refusal.Size _ _ _ c.check_input.ensures c.in-Err-check_input.is) in
    let k = (goal.at.returns-in-Err-check_input-clause-put c).In_default in
    rw (← too_long (input k) (trailer k) (refused_by refusal.Size _ _ _ c.check_input.ensures c.in-Err-check_input.is)) (rw n at c.put_refused-in-Err-check_input.ensures.put)

pub returns-clause-value : goal.returns-clause-value
returns-clause-value c =
    let k = goal.at.returns-clause-value c in
    let n = c.cells_in-n in
    let e = program_is (input k.In_default) (trailer k.In_default) (short k.In_default-check_input) n.result c.read_number-count.result c.read_number-t.result _ n.ensures.0 (blank_is n.result n.ensures.1) c.read_number-count.ensures.0 c.read_number-t.ensures.0 in
    rw (← e) c.answer.ensures.value

pub returns-clause-put : goal.returns-clause-put
returns-clause-put c =
    let k = goal.at.returns-clause-put c in
    let n = c.cells_in-n in
    let e = program_is (input k.In_default) (trailer k.In_default) (short k.In_default-check_input) n.result c.read_number-count.result c.read_number-t.result _ n.ensures.0 (blank_is n.result n.ensures.1) c.read_number-count.ensures.0 c.read_number-t.ensures.0 in
    rw (← e) c.answer.ensures.put
