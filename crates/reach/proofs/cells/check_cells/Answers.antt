-- `reach::cells::check_cells` meets its contract. The loop: the cells passed fit. Assumes nothing.
use mathlib.Core.Path.{◌≡◌, sym, ◌∙◌}
use native.Mathlib.Omega.{arith}
use lib.IntN.{pos}
use lib.ListN.{length, get_or}
use mir.Syntax.{w64}
use mir.Facts.{to_z-of_z}
use borrow.Author.Rules.{rules, sfits_of}
use Rattle.numbers.proofs.IndexLaws.{all_none, all_more, all_fails}
use Rattle.reach.specs.Grounds.{cells_fit}
use Rattle.reach.specs.declared.refusal.Refusal.TheVariants as refusal
use Rattle.reach.proofs.GroundsLaws.{passes, refuses}
use Rattle.reach.proofs.Sound.{cell_fits_at}
use Rattle.reach.proofs.cells.check_cells.Goals as goal
use Rattle.reach.proofs.cells.check_cells.Goals.{After-cell_fits}

cell-is : (c : After-cell_fits) → (let s = c.args in
    c.cell_fits.result ≡ cell_fits_at s.bed.now s.depth.now s.discharge.now s.mass.now s.base.now c.loop-i.i)
cell-is c =
    let s = c.args in
    let i = c.loop-i.i in
    let bed = to_z-of_z {w = w64} {z = get_or s.bed.now i (pos 0)} (sfits_of c.cell_fits-arg-1.given) in
    let discharge = to_z-of_z {w = w64} {z = get_or s.discharge.now i (pos 0)} (sfits_of c.cell_fits-arg-in-loop-i-1.given) in
    rw (bed, discharge) at c.cell_fits.ensures

pub loop-i-init : goal.loop-i-init
loop-i-init c = all_none _

pub returns-then-not-cell_fits : goal.returns-then-not-cell_fits
unfolding cells_fit
returns-then-not-cell_fits c =
    refuses refusal.Values (all_fails _ _ c.loop-i.i (search rules)
    (sym (cell-is (goal.at.returns-then-not-cell_fits c).After-cell_fits) ∙ c.if-not-cell_fits.true))

pub loop-i-preserved : goal.loop-i-preserved
loop-i-preserved c =
    let l = c.loop-i in
    all_more _ l.i l.invariant (sym (cell-is (goal.at.loop-i-preserved c).After-cell_fits) ∙ c.if-not-cell_fits.false)

pub returns : goal.returns
unfolding cells_fit
returns c =
    let e : c.loop-i.i ≡ length c.args.bed.now = omega arith in
    passes refusal.Values (rw e at c.loop-i.invariant)
