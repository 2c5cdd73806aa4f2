-- `numbers::root::SquareRoots::new` keeps the invariant: one test over the whole table. Assumes nothing.
use mathlib.Core.Path.{◌≡◌, refl}
use mathlib.Core.Bool.{Bool, true}
use mathlib.Core.List.{List, [], ◌∷◌}
use Prim.Native.Nat.{ℕ, ◌*◌, ◌≤◌}
use native.Mathlib.Omega.{arith}
use borrow.Author.Tests.{leb-true}
use lib.Dec.{leb}
use lib.ListN.{get_or}
use Rattle.numbers.specs.Index.{all_of, all_below}
use Rattle.numbers.specs.Table.{RootTable}
use Rattle.numbers.proofs.IndexLaws.{all_of_lem, all_at}
use Rattle.numbers.proofs.root.SquareRoots.new.Goals as goal

-- the entry r of k is at most 4,096·√k
fits : ℕ → ℕ → Bool
fits k r = all_of (leb (r * r) (k * 16_777_216) ∷ leb r 32_768 ∷ [])

rule : (roots : List ℕ) → all_below 64 (λ k. fits k (get_or roots k 0)) ≡ true → RootTable roots
unfolding fits
rule roots all_fit =
    let at-k : (k : ℕ) → k ≤ 63 → fits k (get_or roots k 0) ≡ true = λ k l. all_at (λ k. fits k (get_or roots k 0)) 64 k all_fit (omega (arith, l)) in
    record {
      below = λ k l. leb-true _ _ (all_of_lem _ (at-k k l) 0);
      most = λ k l. leb-true _ _ (all_of_lem _ (at-k k l) 1);
    }

pub invariant_of-result : goal.invariant_of-result
unfolding fits all_below all_of
invariant_of-result c = record { fits = rule _ refl }
