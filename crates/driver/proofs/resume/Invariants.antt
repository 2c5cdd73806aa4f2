use mathlib.Core.Path.{◌≡◌}
use Prim.Native.Nat.{◌/◌}
use lib.ListN.{length}
use Rattle.reach.specs.Reach.{reach_of}
use Rattle.script.specs.Script.{script}
use Rattle.driver.specs.Replay.{world, played_from}
use Rattle.driver.proofs.DriverLaws.{played_on}
use Rattle.driver.proofs.resume.Given as goal

abbrev pub invariant-loop-j : goal.invariant-loop-j
invariant-loop-j l = (l.n ≡ length l.words / 206)
    × (played_on l.words l.sheets (length l.initial.out) l.n l.j (world (reach_of l.bed l.depth l.discharge l.mass l.base l.carried l.cell_length l.current) l.out l.answers) ≡ played_from (world (reach_of l.initial.bed l.initial.depth l.initial.discharge l.initial.mass l.initial.base l.initial.carried l.initial.cell_length l.initial.current) l.initial.out l.initial.answers) 0 (script l.words l.sheets (length l.initial.out)))
