-- `reach::carried::check_carried_cells` meets its contract. The loop: the cells passed keep the rules, and what the last of them has at its right is in
-- range. Assumes nothing.
use mathlib.Core.Path.{◌≡◌, sym, ◌∙◌}
use Prim.Native.Nat.{◌+◌}
use native.Mathlib.Omega.{arith}
use lib.IntN.{pos, nat_abs}
use lib.Dec.{leb}
use lib.ListN.{length, get_or}
use mir.Syntax.{w64}
use mir.Facts.{to_z-of_z}
use borrow.Author.Rules.{rules, sfits_of}
use borrow.Author.Tests.{leb-true}
use Rattle.numbers.proofs.IndexLaws.{all_none, all_more, all_fails, off}
use Rattle.reach.specs.Grounds.{carried_fits, carried_cells_fit}
use Rattle.reach.specs.Ranges.{alone}
use Rattle.reach.specs.Limits.{carried_most}
use Rattle.reach.specs.declared.refusal.Refusal.TheVariants as refusal
use Rattle.reach.proofs.GroundsLaws.{passes, refuses}
use Rattle.reach.proofs.Sound.{carried_sound}
use Rattle.reach.proofs.CarriedLaws.{carried_fits_at}
use Rattle.reach.proofs.carried.check_carried_cells.Goals as goal
use Rattle.reach.proofs.carried.check_carried_cells.Goals.{After-carried_fits, After-within}

first_fits : (c : After-within) → c.within.result ≡ leb (nat_abs (get_or c.args.carried.now 0 (pos 0))) carried_most
first_fits c = rw (to_z-of_z (sfits_of c.within-arg-1.given)) at c.within.ensures

cell-is : (c : After-carried_fits) → (let s = c.args in
    c.carried_fits.result ≡ carried_fits_at s.depth.now s.base.now s.carried.now (alone s.drawn.now) c.loop-i.i)
cell-is c =
    let s = c.args in
    let i = c.loop-i.i in
    let left = to_z-of_z {w = w64} {z = get_or s.carried.now i (pos 0)} (sfits_of c.carried_fits-arg-1.given) in
    let right = to_z-of_z {w = w64} {z = get_or s.carried.now (i + 1) (pos 0)} (sfits_of c.carried_fits-arg-in-loop-i-1.given) in
    rw (left, right) at c.carried_fits.ensures

pub loop-i-init : goal.loop-i-init
loop-i-init c = (all_none _, leb-true _ _ (sym (first_fits (goal.at.loop-i-init c).After-within) ∙ c.if-not-within.false))

pub returns-then-not-within : goal.returns-then-not-within
unfolding carried_cells_fit carried_fits
returns-then-not-within c =
    refuses refusal.Carried (all_fails _ _ 0 c.requires.columns.some (off _ _ (sym (first_fits (goal.at.returns-then-not-within c).After-within) ∙ c.if-not-within.true)))

pub returns-then-not-carried_fits : goal.returns-then-not-carried_fits
unfolding carried_cells_fit
returns-then-not-carried_fits c =
    refuses refusal.Carried (all_fails _ _ c.loop-i.i (search rules)
    (sym (cell-is (goal.at.returns-then-not-carried_fits c).After-carried_fits) ∙ c.if-not-carried_fits.true))

pub loop-i-preserved : goal.loop-i-preserved
loop-i-preserved c =
    let l = c.loop-i in
    let e = sym (cell-is (goal.at.loop-i-preserved c).After-carried_fits) ∙ c.if-not-carried_fits.false in
    (all_more _ l.i l.invariant.0 e, (carried_sound _ _ _ _ _ e).right)

pub returns : goal.returns
unfolding carried_cells_fit
returns c =
    let e : c.loop-i.i ≡ length c.args.depth.now = omega arith in
    passes refusal.Carried (rw e at c.loop-i.invariant.0)
