-- `stepping::step::check_depths` meets its contract. The loop: the depths passed fit. Assumes nothing.
use mathlib.Core.Bool.{Bool}
use mathlib.Core.List.{List}
use Prim.Native.Nat.{ℕ}
use lib.Dec.{leb}
use lib.ListN.{get_or}
use borrow.Author.Rules.{rules}
use borrow.Author.Tests.{le-leb, lt-leb}
use Rattle.numbers.proofs.IndexLaws.{all_none, all_more, all_fails}
use Rattle.flux.specs.Limits.{depth_most}
use Rattle.reach.proofs.GroundsLaws.{refuses}
use Rattle.reach.specs.declared.refusal.Refusal.TheVariants as refusal
use Rattle.stepping.proofs.step.check_depths.Goals as goal

abbrev depth_fits : List ℕ → ℕ → Bool
depth_fits d i = leb (get_or d i 0) depth_most

pub loop-i-init : goal.loop-i-init
loop-i-init c = all_none _

pub returns-then-depth-i-gt4000000 : goal.returns-then-depth-i-gt4000000
returns-then-depth-i-gt4000000 c = refuses refusal.Depth (all_fails _ _ c.loop-i.i (search rules) (lt-leb _ _ c.if-depth-i-gt4000000.true))

pub loop-i-preserved : goal.loop-i-preserved
loop-i-preserved c =
    let l = c.loop-i in
    all_more _ l.i l.invariant (le-leb _ _ c.if-depth-i-gt4000000.false)
