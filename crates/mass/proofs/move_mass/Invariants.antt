use mathlib.Core.Path.{◌≡◌}
use Prim.Native.Nat.{◌+◌}
use Rattle.numbers.proofs.IndexLaws.{Written}
use Rattle.reach.specs.Ranges.{undrawn}
use Rattle.mass.specs.Transport.{mass_columns, right_share, rightwards, moved_cell}
use Rattle.mass.proofs.TransportLaws.{stayed}
use Rattle.mass.proofs.move_mass.Given as goal

abbrev pub invariant-loop-i : goal.invariant-loop-i
invariant-loop-i l = let s = mass_columns l.initial.mass l.base l.carried undrawn l.left_in l.right_in in
    Written 0 (moved_cell s) l.initial.mass l.i l.mass × (l.held ≡ stayed s l.i + rightwards s l.i) × (l.right ≡ right_share s l.i)
