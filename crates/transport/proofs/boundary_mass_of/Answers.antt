-- `transport::boundary_mass_of` meets its contract. Assumes nothing.
use mathlib.Core.Path.{◌≡◌, sym, ap, ◌∙◌}
use Prim.Native.Nat.{ℕ, ◌+◌, ◌-◌, ◌*◌}
use native.Mathlib.Omega.{arith}
use lib.ListN.{length}
use mir.Facts.{to_z-of_z}
use borrow.Author.Rules.{sfits_of}
use Rattle.mass.specs.Transport.{MassColumns, rightwards}
use Rattle.mass.proofs.TransportLaws.{shares_inside, leftwards_cell, rightwards_next}
use Rattle.reach.specs.Parts.{left_of, right_of}
use Rattle.reach.specs.Ranges.{undrawn}
use Rattle.reach.specs.Reach.{left_boundary, right_boundary}
use Rattle.transport.specs.Ranges.{mass_columns_with}
use Rattle.transport.proofs.boundary_mass_of.Goals as goal
use Rattle.transport.proofs.boundary_mass_of.Goals.{After-left_part, After-right_part, Start}

abbrev col : Start → MassColumns
col s = mass_columns_with s.args.mass.now s.args.base.now s.args.carried.now undrawn s.args.boundaries

left_in : (c : After-right_part) → c.right_part.result * (left_boundary c.args.boundaries).concentration ≡ (col (goal.at.After-right_part c).Start).left_inflow
left_in c =
    ap (λ (k : ℕ). k * (left_boundary c.args.boundaries).concentration)
    (rw (to_z-of_z (sfits_of c.right_part-arg-1.given)) at c.right_part.ensures)

right_in : (c : After-left_part) →
    c.left_part.result * (right_boundary c.args.boundaries).concentration
    ≡ (col (goal.at.After-left_part c).Start).right_inflow
right_in c =
    ap (λ (k : ℕ). k * (right_boundary c.args.boundaries).concentration)
    (rw (to_z-of_z (sfits_of c.left_part-arg-1.given)) at c.left_part.ensures)

pub returns : goal.returns
returns c =
    let x = col (goal.at.returns c).Start in
    let n = length c.args.mass.now in
    let last : n - 1 + 1 ≡ n = omega arith in
    record {
      left_in = left_in (goal.at.returns c).After-right_part;
      left_out = ap left_of (c.shares_at-first.ensures.left_value ∙ shares_inside x 0) ∙ sym (leftwards_cell x 0 (omega arith));
      right_in = right_in (goal.at.returns c).After-left_part;
      right_out = ap right_of (c.shares_at-last.ensures.left_value ∙ shares_inside x (n - 1)) ∙ sym (rightwards_next x (n - 1)) ∙ ap (rightwards x) last;
    }
