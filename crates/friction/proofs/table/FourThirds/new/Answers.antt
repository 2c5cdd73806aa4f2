-- `friction::table::FourThirds::new` keeps the invariant: the cube inequality, by one test over the whole table. Assumes nothing.
use mathlib.Core.Path.{◌≡◌, refl, sym}
use mathlib.Core.Bool.{Bool, true}
use mathlib.Core.List.{List, [], ◌∷◌}
use Prim.Native.Nat.{ℕ, ◌+◌, ◌*◌}
use native.Mathlib.Omega.{arith}
use borrow.Author.Tests.{leb-true, ltb-true}
use lib.Dec.{leb, ltb}
use lib.ListN.{get_or}
use Rattle.numbers.specs.Index.{all_of, all_below}
use Rattle.numbers.proofs.IndexLaws.{all_of_lem, all_at}
use Rattle.friction.specs.Friction.{Roots}
use Rattle.friction.proofs.FrictionLaws.{four_thirds_is}
use Rattle.friction.proofs.table.FourThirds.new.Goals as goal

-- the entry r of k has r³ ≤ 1,000·k⁴ < (r+1)³
fits : ℕ → ℕ → Bool
fits k r = all_of (leb (r * r * r) (1_000 * (k * k * k * k)) ∷ ltb (1_000 * (k * k * k * k)) ((r + 1) * (r + 1) * (r + 1)) ∷ [])

-- one test over the whole table
rule : (list : List ℕ) → all_below 401 (λ k. fits k (get_or list k 0)) ≡ true → Roots list
unfolding fits
rule list all =
    record {
      root = λ k l.
          let f = all_of_lem _ (all_at (λ k. fits k (get_or list k 0)) 401 k all (omega (arith, l))) in
          sym (four_thirds_is k (get_or list k 0) (leb-true _ _ (f 0)) (ltb-true _ _ (f 1)));
    }

pub invariant_of-result : goal.invariant_of-result
unfolding fits all_below all_of
invariant_of-result c = record { roots = rule _ refl }
