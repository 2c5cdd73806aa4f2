-- `water::thrust_lost` meets its contract. Assumes nothing.
use native.Mathlib.Omega.{arith}
use Rattle.flux.proofs.CrossingLaws.{still_thrust_mono}
use Rattle.water.proofs.thrust_lost.Goals as goal

pub overflow_sub-result : goal.overflow_sub-result
overflow_sub-result c =
    omega (arith, c.still_thrust-2.ensures, c.still_thrust.ensures, still_thrust_mono c.args.t c.args.x c.args.reduced c.args.h c.requires.flow.1.1)
