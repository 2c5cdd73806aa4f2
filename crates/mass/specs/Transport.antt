-- Document 01, 'Settling', the transport step of report 4529: the mass (the paper's 'nutrient') that moves with the water carried since
-- the last transport.
use Rattle.std.specs.Prelude.{cond, List, ℕ, zero, suc, ◌+◌, ltb, ℤ, pos, length, get_or}
use Rattle.numbers.specs.Shares.{shares, rest}
use Rattle.outlet.specs.Outlets.{outlet_at, each_outlet}
use Rattle.outlet.specs.declared.Outlet.{Outlet}
use Rattle.outlet.specs.declared.Outlets.{Outlets}
use Rattle.reach.specs.Parts.{parts, outflow, right_of, left_of, outlet_of}

-- mass and base depth of each cell, carried water of each interface, what the outlets of each cell have drawn, in list order, and the mass that
-- enters over the left and the right boundary
pub record MassColumns : Type 0 where
  pub mass : List ℕ
  pub base : List ℕ
  pub carried : List ℤ
  pub drawn : (i : ℕ) → List ℕ
  pub left_inflow : ℕ
  pub right_inflow : ℕ

abbrev pub mass_columns : List ℕ → List ℕ → List ℤ → (ℕ → List ℕ) → ℕ → ℕ → MassColumns
mass_columns m b c drawn left_inflow right_inflow = record { mass = m; base = b; carried = c; drawn = drawn; left_inflow = left_inflow; right_inflow = right_inflow }

-- the water that left cell i: R and L and what was drawn, and all of it
abbrev pub cell_parts : MassColumns → ℕ → List ℕ
cell_parts s i = parts (get_or s.carried i (pos 0)) (get_or s.carried (i + 1) (pos 0)) (s.drawn i)

abbrev pub cell_outflow : MassColumns → ℕ → ℕ
cell_outflow s i = outflow (get_or s.carried i (pos 0)) (get_or s.carried (i + 1) (pos 0)) (s.drawn i)

-- the shares of cell i by running floors, one for each part
unfoldable pub cell_shares : MassColumns → ℕ → List ℕ
cell_shares s i = shares (get_or s.mass i 0) (get_or s.base i 0) 0 (cell_parts s i)

-- right share = floor(m·R/b); left share = floor(m·(R+L)/b) − right share; 0 if b = 0 (`right_share_floor`, `left_share_floor`)
abbrev pub right_share : MassColumns → ℕ → ℕ
right_share s i = right_of (cell_shares s i)

abbrev pub left_share : MassColumns → ℕ → ℕ
left_share s i = left_of (cell_shares s i)

-- the share of outlet k: 'shares follow right, left, then outlets in list order, by the same running floors' (document 02, point 1)
abbrev pub outlet_share : MassColumns → (i k : ℕ) → ℕ
outlet_share s i k = outlet_of k (cell_shares s i)

-- the mass that crosses interface i rightwards, and leftwards
unfoldable pub rightwards : MassColumns → ℕ → ℕ
rightwards s zero = s.left_inflow
rightwards s (suc i) = right_of (cell_shares s i)

unfoldable pub leftwards : MassColumns → ℕ → ℕ
leftwards s i = cond (ltb i (length s.mass)) (left_of (cell_shares s i)) s.right_inflow

-- shares move: the mass of cell i afterwards is what stays and what comes from both sides
unfoldable pub moved_cell : MassColumns → ℕ → ℕ
moved_cell s i = rest (get_or s.mass i 0) (get_or s.base i 0) (cell_outflow s i) + rightwards s i + leftwards s (i + 1)

-- 'its nutrient at the settling' (document 02, point 1): an outlet's share goes into its total, and nothing is drawn any more
unfoldable pub moved_outlet : MassColumns → Outlets → (k : ℕ) → Outlet
moved_outlet s os k =
    let o = outlet_at os k in
    record { cell = o.cell; want = o.want; drawn = 0; water = o.water; mass = o.mass + outlet_share s o.cell k }

unfoldable pub moved_outlets : MassColumns → Outlets → Outlets
moved_outlets s os = each_outlet (moved_outlet s os) os
