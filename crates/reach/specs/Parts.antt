-- Document 01, 'Settling': the water that has left a cell since the last transport, in parts. Ground 8, the transport test of a step and
-- the shares of a cell's mass all read them here.
use Rattle.std.specs.Prelude.{List, ◌∷◌, ℕ, suc, ℤ, neg_ℤ, get_or}
use Rattle.numbers.specs.Index.{sum}
use Rattle.numbers.specs.Signed.{positive}
use Rattle.outlet.specs.Outlets.{from_cell}
use Rattle.outlet.specs.declared.Outlets.{Outlets}

-- R = max(r, 0), then L = max(−l, 0), of a cell with l carried over its left and r over its right, then what its outlets have drawn, in list
-- order (document 02, point 1: 'shares follow right, left, then outlets')
unfoldable pub parts : (l r : ℤ) (drawn : List ℕ) → List ℕ
parts l r drawn = positive r ∷ positive (neg_ℤ l) ∷ drawn

-- all that left: R + L and what was drawn
unfoldable pub outflow : (l r : ℤ) (drawn : List ℕ) → ℕ
outflow l r drawn = sum (parts l r drawn)

-- what each outlet has drawn of cell i since the last transport, in list order
abbrev pub drawn_from : Outlets → (i : ℕ) → List ℕ
drawn_from = from_cell (λ o. o.drawn)

-- of a list that goes by the parts, what it has for the right, for the left and for outlet k
abbrev pub right_of : List ℕ → ℕ
right_of ps = get_or ps 0 0

abbrev pub left_of : List ℕ → ℕ
left_of ps = get_or ps 1 0

abbrev pub outlet_of : (k : ℕ) → List ℕ → ℕ
outlet_of k ps = get_or ps (suc (suc k)) 0
