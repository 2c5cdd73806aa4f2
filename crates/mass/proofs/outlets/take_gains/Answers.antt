-- `mass::outlets::take_gains` meets its contract: what the outlets passed have gained is taken off. Assumes nothing.
use mathlib.Core.Path.{◌≡◌, refl, ap, ◌∙◌}
use Prim.Native.Nat.{ℕ, ◌<◌}
use native.Mathlib.Omega.{arith}
use borrow.Author.Rules.{rules}
use lib.ListN.{length, get_or, take}
use Rattle.numbers.specs.Index.{tabulate}
use Rattle.outlet.specs.Outlets.{no_outlet, outlet_at}
use Rattle.outlet.proofs.OutletLaws.{counted, at_hand}
use Rattle.mass.specs.Ranges.{gains}
use Rattle.mass.proofs.GainsLaws.{taken_at, taken_none, gain_there, taken_more}
use Rattle.mass.proofs.outlets.take_gains.Goals as goal
use Rattle.mass.proofs.outlets.take_gains.Goals.{Start, In-loop-k}

abbrev at : In-loop-k → ℕ
at c = c.loop-k.k

counts : (s : Start) → length (take s.args.old.count s.args.old.list) ≡ s.args.old.count
counts s = counted s.args.old (search rules) s.requires.few

module _ (c : In-loop-k) where
  passes : at c < c.args.old.count
  passes = omega (arith, c.loop-k-test.true, counts (goal.at.In-loop-k c).Start)

  here : get_or (take c.args.old.count c.args.old.list) (at c) no_outlet ≡ outlet_at c.args.old (at c)
  here = at_hand c.args.old (at c) passes

  -- the cell of the outlet at hand
  inside : (outlet_at c.args.old (at c)).cell < length c.args.mass.now
  inside = c.requires.inside (at c) passes

pub loop-k-init : goal.loop-k-init
loop-k-init c = taken_none c.args.mass.now c.args.old c.args.new

pub overflow_sub-mass-in-loop-k : goal.overflow_sub-mass-in-loop-k
overflow_sub-mass-in-loop-k c =
    let i = (goal.at.overflow_sub-mass-in-loop-k c).In-loop-k in
    rw (here i) (gain_there c.args.mass.now c.args.old c.args.new (at i) c.loop-k.mass c.loop-k.invariant c.requires (passes i))

pub loop-k-preserved : goal.loop-k-preserved
loop-k-preserved c =
    let i = (goal.at.loop-k-preserved c).In-loop-k in
    rw (here i) (taken_more c.args.mass.now c.args.old c.args.new (at i) c.loop-k.mass c.loop-k.invariant _ (inside i) refl)

pub returns : goal.returns
unfolding gains
returns c =
    let a = c.args in
    let all : c.loop-k.k ≡ a.old.count = omega (arith, c.loop-k-test.false, c.loop-k.auto.k-end, counts (goal.at.returns c).Start) in
    c.loop-k.invariant ∙ ap (λ (k : ℕ). tabulate (length a.mass.now) (taken_at a.mass.now a.old a.new k)) all
