-- `drawing::dealing::deal` meets its contract: both passes together. Assumes nothing.
use mathlib.Core.Path.{◌≡◌, ap, ◌∙◌}
use Prim.Native.Nat.{ℕ}
use lib.ListN.{length, get_or}
use Rattle.numbers.specs.Index.{tabulate}
use Rattle.numbers.specs.Deal.{units_left}
use Rattle.outlet.specs.Outlets.{from_cell}
use Rattle.drawing.proofs.DrawingLaws.{as_long}
use Rattle.drawing.proofs.DealingLaws.{floors_small, dealt_both}
use Rattle.drawing.proofs.dealing.deal.Goals as goal
use Rattle.drawing.proofs.dealing.deal.Goals.{After-floors_of-floors}

-- what the floors leave in each cell
units : (c : After-floors_of-floors) →
    let a = c.args in
    c.floors_of-floors.new.left ≡ tabulate (length a.wanted.now) (λ i. units_left (get_or a.granted.now i 0) (from_cell (λ o. o.want) a.outlets i))
units c =
    let a = c.args in
    c.floors_of-floors.ensures.left_after
    ∙ ap (λ (n : ℕ). tabulate n (λ i. units_left (get_or a.granted.now i 0) (from_cell (λ o. o.want) a.outlets i)))
    (ap length c.copy_from_slice.ensures.after ∙ c.requires.granted.long)

pub returns : goal.returns
returns c =
    let a = c.args in
    c.hand_out.ensures
    ∙ dealt_both a.outlets a.wanted.now a.granted.now c.requires.granted c.floors_of-floors.result c.floors_of-floors.ensures.value _ (units (goal.at.returns c).After-floors_of-floors)

pub hand_out-requires-clause-by_index : goal.hand_out-requires-clause-by_index
hand_out-requires-clause-by_index c =
    let a = c.args in
    let g = c.requires.granted in
    let left = c.floors_of-floors.new.left in λ k l. (
      rw (as_long _ _ left (units (goal.at.hand_out-requires-clause-by_index c).After-floors_of-floors)) (g.within k l),
      floors_small a.outlets a.wanted.now a.granted.now g c.floors_of-floors.result c.floors_of-floors.ensures.value k l,
    )
