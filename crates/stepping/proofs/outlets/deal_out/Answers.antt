-- `stepping::outlets::deal_out` meets its contract. Assumes nothing.
use mathlib.Core.Path.{◌≡◌, refl, sym, ap, ◌∙◌}
use mathlib.Core.Bool.{cond}
use Prim.Native.Nat.{ℕ}
use native.Mathlib.Omega.{arith}
use lib.Dec.{ltb}
use lib.ListN.{replicate}
use borrow.Author.Tests.{le-ltb}
use Rattle.numbers.specs.Index.{sum, tabulate}
use Rattle.numbers.proofs.IndexLaws.{zeros, by_index, length_tabulate}
use Rattle.water.specs.Water.{wants_from}
use Rattle.stepping.proofs.outlets.deal_out.Goals as goal

-- no outlet has anything where there is none
none_has : (count : ℕ) (f : ℕ → ℕ) → count ≡ 0 → replicate 32 0 ≡ tabulate 32 (λ k. cond (ltb k count) (f k) 0)
none_has count f e = by_index 32 _ 0 (replicate 32 0) refl (λ k l. zeros 32 k ∙ sym (ap (λ b. cond b (f k) 0) (le-ltb k count (omega (arith, e)))))

pub returns-then-held-eq0 : goal.returns-then-held-eq0
returns-then-held-eq0 c = none_has _ _ c.if-held-eq0.true

pub wants_by_cell-requires-clause-by_index : goal.wants_by_cell-requires-clause-by_index
wants_by_cell-requires-clause-by_index c =
    let g = c.requires in
    let long = length_tabulate 512 (λ i. sum (wants_from c.args.held.outlets i)) in
    (λ k l. (omega (arith, g.within k l, long), g.small k l))

pub wants_by_cell-requires-clause-by_index_2 : goal.wants_by_cell-requires-clause-by_index_2
wants_by_cell-requires-clause-by_index_2 c = zeros 512
