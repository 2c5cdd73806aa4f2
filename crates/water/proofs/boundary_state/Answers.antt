-- `water::boundary_state` meets its contract. Assumes nothing.
use mathlib.Core.Path.{◌≡◌, refl, sym, ◌∙◌}
use mir.Facts.{to_z-of_z}
use lib.IntN.{sub_ℕ}
use Rattle.numbers.proofs.SignedLaws.{sub_neg}
use Rattle.flux.specs.Interface.{Side, mirrored}
use Rattle.water.specs.Ranges.{side_of}
use Rattle.water.specs.declared.sides.SideState.{SideState}
use Rattle.water.proofs.WaterLaws.{boundary_wall, boundary_open, boundary_fed}
use Rattle.water.proofs.boundary_state.Goals as goal

-- the mirror image of a cell
turned_side : (c : SideState) → ◌≡◌ {A = Side} (record { bed = c.bed; depth = c.depth; velocity = sub_ℕ c.left c.right }) (mirrored (side_of c))
unfolding mirrored
turned_side c = rw (sub_neg c.right c.left) refl

pub returns-then-e-eq-WALL : goal.returns-then-e-eq-WALL
returns-then-e-eq-WALL c =
    rw (to_z-of_z (record { sfits = c.struct_told-1.given.0.1 })) (turned_side c.args.c ∙ sym (boundary_wall c.args.p c.args.e (side_of c.args.c) c.if-e-eq-WALL.true))

pub returns-then-e-eq-OPEN : goal.returns-then-e-eq-OPEN
returns-then-e-eq-OPEN c = sym (boundary_open c.args.p c.args.e (side_of c.args.c) c.if-e-eq-WALL.false c.if-e-eq-OPEN.true)

pub returns : goal.returns
returns c =
    let f =
    rw (to_z-of_z (record { sfits = c.struct_told-2-1.given.0.1 }), to_z-of_z (record { sfits = c.struct_told-3-1.given.1.1.1.1.0.1 })) at c.cell_state.ensures in
    f ∙ sym (boundary_fed c.args.p c.args.e (side_of c.args.c) c.if-e-eq-WALL.false c.if-e-eq-OPEN.false)
