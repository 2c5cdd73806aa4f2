-- `cfl::is_above` meets its contract. Assumes nothing.
use mathlib.Core.Path.{◌≡◌, refl, sym}
use mathlib.Core.Bool.{Bool, true, false}
use Prim.Native.Nat.{ℕ, ◌+◌, ◌-◌, ◌≤◌, ◌<◌}
use native.Mathlib.Omega.{arith}
use lib.Dec.{ltb}
use borrow.Author.Tests.{ltb-true, ltb-false, leb-true, leb-false, lt-ltb, le-ltb}
use Rattle.flux.specs.Wave.{wave_speed}
use Rattle.flux.proofs.WaveLaws.{wave_speed_above, wave_speed_least}
use Rattle.cfl.proofs.is_above.Goals as goal

-- a test that holds where c is below d, and only there
told : (t : Bool) (c d : ℕ) → (t ≡ true → c < d) → (t ≡ false → d ≤ c) → t ≡ ltb c d
told true c d f g = sym (lt-ltb c d (f refl))
told false c d f g = sym (le-ltb c d (g refl))

pub returns : goal.returns
returns c =
    let a = c.args in
    told _ a.least (a.v + wave_speed a.h)
    (λ e. omega (arith, wave_speed_above a.h (a.least - a.v) (omega (arith, ltb-true, leb-true))))
    (λ e. omega (arith, wave_speed_least a.h (a.least - a.v) (omega (arith, ltb-false, leb-false))))
