-- `reach::carried::check_carried` meets its contract: ground 8 says the same of what was drawn and of its sums by cell. Assumes nothing.
use mathlib.Core.Path.{◌≡◌, ap, sym, ◌∙◌}
use mathlib.Core.List.{List}
use Prim.Native.Nat.{ℕ}
use native.Mathlib.Omega.{arith}
use lib.ListN.{length}
use Rattle.numbers.specs.Index.{tabulate}
use Rattle.numbers.proofs.IndexLaws.{zeros, length_tabulate, on, off}
use Rattle.reach.specs.Grounds.{pass_or, carried_fit}
use Rattle.reach.specs.Parts.{drawn_from}
use Rattle.reach.specs.Ranges.{alone, cut_drawn}
use Rattle.reach.proofs.Sound.{outlets_few, outlet_sound}
use Rattle.reach.proofs.GroundsLaws.{passed, refused_by}
use Rattle.reach.proofs.OutletLaws.{cut_most, at_cell, same_ground}
use borrow.Author.Rules.{rules}
use Rattle.reach.specs.declared.refusal.Refusal.TheVariants as refusal
use Rattle.reach.proofs.carried.check_carried.Goals as goal
use Rattle.reach.proofs.carried.check_carried.Goals.{After-drawn_by_cell}

-- the column, added up
abbrev column : After-drawn_by_cell → List ℕ
column c = c.drawn_by_cell.new.column

summed : (c : After-drawn_by_cell) → column c ≡ tabulate 512 (cut_drawn c.args.outlets)
summed c = c.drawn_by_cell.ensures

ground-is : (c : After-drawn_by_cell) →
    (let a = c.args in
    carried_fit a.depth.now a.base.now a.carried.now (alone (column c)) a.left_kind a.right_kind ≡ carried_fit a.depth.now a.base.now a.carried.now (drawn_from a.outlets) a.left_kind a.right_kind)
ground-is c = same_ground _ _ _ c.args.outlets _ _ _ c.requires.carried_columns c.requires.outlets_value (summed c)

pub check_carried_cells-requires : goal.check_carried_cells-requires
check_carried_cells-requires c =
    let d = summed (goal.at.check_carried_cells-requires c).After-drawn_by_cell in
    let k = c.requires.carried_columns in
    record {
      columns = k;
      long = omega (arith, k.few, ap length d ∙ length_tabulate 512 (cut_drawn c.args.outlets));
      drawn_most = λ i l. rw (at_cell c.args.outlets _ d i (omega (arith, l, k.few))) (cut_most c.args.outlets (outlets_few _ _ c.requires.outlets_value) i);
    }

pub returns-in_err-check_carried_cells : goal.returns-in_err-check_carried_cells
unfolding carried_fit
returns-in_err-check_carried_cells c =
    let e = sym (ground-is (goal.at.returns-in_err-check_carried_cells c).After-drawn_by_cell) ∙ off _ _ (refused_by refusal.Carried _ _ _ c.check_carried_cells.ensures c.in_err-check_carried_cells.was) in
    rw e (search rules)

pub returns : goal.returns
unfolding carried_fit
returns c =
    let e = sym (ground-is (goal.at.returns c).After-drawn_by_cell) ∙ on _ _ (passed refusal.Carried _ _ c.check_carried_cells.ensures c.in_ok-check_carried_cells.was) (sym c.walls_fit.ensures) in
    c.unless.ensures ∙ ap (pass_or refusal.Carried) (sym e)

pub drawn_by_cell-requires-clause-count_le_outlets_most : goal.drawn_by_cell-requires-clause-count_le_outlets_most
drawn_by_cell-requires-clause-count_le_outlets_most c =
    let f = c.requires.outlets_value in
    outlets_few _ _ f

pub drawn_by_cell-requires-clause-by_index : goal.drawn_by_cell-requires-clause-by_index
drawn_by_cell-requires-clause-by_index c =
    let f = c.requires.outlets_value in
    (λ k l. omega (arith, (outlet_sound _ _ f k l).cell, c.requires.carried_columns.few))

pub drawn_by_cell-requires-clause-by_index_2 : goal.drawn_by_cell-requires-clause-by_index_2
drawn_by_cell-requires-clause-by_index_2 c =
    let f = c.requires.outlets_value in
    zeros 512
