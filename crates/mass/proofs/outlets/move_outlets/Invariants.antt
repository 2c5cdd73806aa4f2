use mathlib.Core.Path.{◌≡◌}
use mathlib.Core.List.{List}
use Prim.Native.Nat.{ℕ}
use lib.ListN.{get_or, replicate}
use Rattle.numbers.specs.Index.{tabulate}
use Rattle.numbers.proofs.IndexLaws.{Written}
use Rattle.outlet.specs.Outlets.{no_outlet}
use Rattle.outlet.specs.declared.Outlet.{Outlet}
use Rattle.drawing.proofs.DrawingLaws.{added}
use Rattle.reach.specs.Parts.{drawn_from}
use Rattle.mass.specs.Transport.{mass_columns, moved_outlet}
use Rattle.mass.proofs.outlets.move_outlets.Given as goal

-- what each outlet of a list has drawn, and a column of zeros
abbrev amounts : List Outlet → List ℕ
amounts l = tabulate 32 (λ k. (get_or l k no_outlet).drawn)

abbrev none : List ℕ
none = replicate 512 0

abbrev pub invariant-loop-o : goal.invariant-loop-o
invariant-loop-o l = let os = l.fn.outlets in
    Written no_outlet (moved_outlet (mass_columns l.mass l.base l.carried (drawn_from os) 0 0) os) l.initial.o-items l.o-index l.o-items
    × (l.before ≡ tabulate 512 (added os.list (amounts os.list) none l.o-index))
