-- `mass::shares_at` meets its contract. Assumes nothing.
use mathlib.Core.Path.{◌≡◌, ap, ap₂, ◌∙◌}
use mathlib.Core.List.{[], ◌∷◌}
use Prim.Native.Nat.{ℕ, ◌+◌}
use native.Mathlib.Omega.{arith}
use lib.IntN.{ℤ, pos}
use lib.ListN.{get_or}
use mir.Facts.{to_z-of_z}
use borrow.Author.Rules.{sfits_of}
use Rattle.numbers.specs.Shares.{shares, rest}
use Rattle.reach.specs.Parts.{parts}
use Rattle.reach.specs.Ranges.{undrawn}
use Rattle.reach.proofs.PartsLaws.{outflow_is}
use Rattle.mass.specs.Transport.{MassColumns, mass_columns, cell_shares}
use Rattle.mass.proofs.TransportLaws.{water_rightwards, water_leftwards, sum_empty}
use Rattle.mass.proofs.shares_at.Goals as goal
use Rattle.mass.proofs.shares_at.Goals.{After-left_part, After-shares_of, Start}

abbrev col : Start → MassColumns
col s = mass_columns s.args.mass.now s.args.base.now s.args.carried.now undrawn 0 0

right_is : (c : After-left_part) → c.right_part.result ≡ water_rightwards (col (goal.at.After-left_part c).Start) (c.args.i + 1)
right_is c = rw (to_z-of_z (sfits_of c.right_part-arg-1.given)) at c.right_part.ensures

left_is : (c : After-left_part) → c.left_part.result ≡ water_leftwards (col (goal.at.After-left_part c).Start) c.args.i
left_is c = rw (to_z-of_z (sfits_of c.left_part-arg-1.given)) at c.left_part.ensures

shares-are : (c : After-shares_of) → c.shares_of.result.right ∷ c.shares_of.result.left ∷ [] ≡ cell_shares (col (goal.at.After-shares_of c).Start) c.args.i
unfolding cell_shares parts
shares-are c =
    let x = col (goal.at.After-shares_of c).Start in
    let i = c.args.i in
    c.shares_of.ensures.left_value ∙ ap₂ (λ (r l : ℕ). shares (get_or x.mass i 0) (get_or x.base i 0) 0 (r ∷ l ∷ [])) (right_is (goal.at.After-shares_of c).After-left_part) (left_is (goal.at.After-shares_of c).After-left_part)

pub shares_of-requires : goal.shares_of-requires
shares_of-requires c =
    let g = c.requires.ready_at.giving c.requires.i_in_bounds in
    let carried : ℕ → ℤ = λ i. get_or (col (goal.at.shares_of-requires c).Start).carried i (pos 0) in
    let e = outflow_is (carried c.args.i) (carried (c.args.i + 1)) [] in
    record { deep = g.deep; rich = g.rich; covered = omega (arith, right_is (goal.at.shares_of-requires c).After-left_part, left_is (goal.at.shares_of-requires c).After-left_part, e, sum_empty, g.covered) }

pub returns-clause-left_value : goal.returns-clause-left_value
returns-clause-left_value c = shares-are (goal.at.returns-clause-left_value c).After-shares_of

pub returns-clause-rest_value : goal.returns-clause-rest_value
returns-clause-rest_value c =
    let x = col (goal.at.returns-clause-rest_value c).Start in
    let i = c.args.i in
    let e = outflow_is (get_or x.carried i (pos 0)) (get_or x.carried (i + 1) (pos 0)) [] in
    c.shares_of.ensures.rest_value ∙ ap (rest (get_or x.mass i 0) (get_or x.base i 0)) (omega (arith, right_is (goal.at.returns-clause-rest_value c).After-left_part, left_is (goal.at.returns-clause-rest_value c).After-left_part, e, sum_empty))
