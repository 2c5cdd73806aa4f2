-- What the checks of `sheet::opening::check_opening` ask is what those before them have found. Assumes nothing.
use mathlib.Core.Path.{◌≡◌}
use mathlib.Core.List.{List}
use Prim.Native.Nat.{ℕ, ◌≤◌}
use native.Mathlib.Omega.{arith}
use lib.ListN.{length}
use borrow.Author.Rules.{rules}
use Rattle.std.specs.Prelude.{Ok}
use Rattle.reach.specs.Grounds.{Verdict, first_refusal, pass_or}
use Rattle.reach.proofs.GroundsLaws.{passed}
use Rattle.sheet.specs.Header.{header_size, edition_fits}
use Rattle.sheet.proofs.OpeningLaws.{edition_long, size_few, within, values_are}
use Rattle.reach.specs.declared.refusal.Refusal.TheVariants as refusal
use Rattle.sheet.proofs.opening.check_opening.Goals as goal

-- a sheet that stood ground 1 has its header
long : (s : List ℕ) {k : Verdict} → k ≡ pass_or refusal.Edition (edition_fits s) → k ≡ Ok tt → header_size ≤ length s
long s p q = edition_long s (passed refusal.Edition _ _ p q)

pub check_size-requires : goal.check_size-requires
check_size-requires c = long _ c.check_edition.ensures c.in_ok-check_edition.was

pub check_columns-requires : goal.check_columns-requires
check_columns-requires c = (long _ c.check_edition.ensures c.in_ok-check_edition.was, size_few _ (passed refusal.Size _ _ c.check_size.ensures c.in_ok-check_size.was))

pub count_of-n-requires : goal.count_of-n-requires
count_of-n-requires c = long _ c.check_edition.ensures c.in_ok-check_edition.was

pub check_lent-requires : goal.check_lent-requires
check_lent-requires c = omega (arith, size_few _ (passed refusal.Size _ _ c.check_size.ensures c.in_ok-check_size.was), c.count_of-n.ensures.0)

pub cell_length_of-requires : goal.cell_length_of-requires
cell_length_of-requires c = long _ c.check_edition.ensures c.in_ok-check_edition.was

pub read_boundaries-requires : goal.read_boundaries-requires
read_boundaries-requires c = long _ c.check_edition.ensures c.in_ok-check_edition.was

pub layout_of-requires : goal.layout_of-requires
layout_of-requires c = long _ c.check_edition.ensures c.in_ok-check_edition.was

pub check_values-requires : goal.check_values-requires
check_values-requires c =
    let e = c.count_of-n.ensures.0 in
    rw e (within _ c.layout_of.result c.layout_of.ensures (passed refusal.Size _ _ c.check_size.ensures c.in_ok-check_size.was) (passed refusal.Layout _ _ c.check_columns.ensures c.in_ok-check_columns.was))

-- ground 7 is of the sheet's record
pub returns-in_err-check_values : goal.returns-in_err-check_values
unfolding first_refusal
returns-in_err-check_values c = rw (← values_are c.args.s.now c.args.outlets c.layout_of.result c.layout_of.ensures) (search rules)

pub returns : goal.returns
unfolding first_refusal
returns c = rw (← values_are c.args.s.now c.args.outlets c.layout_of.result c.layout_of.ensures) (search rules)
