-- `friction::kept` meets its contract. Assumes nothing.
use native.Mathlib.Omega.{arith}
use Rattle.friction.proofs.FrictionLaws.{kept_is}
use Rattle.friction.proofs.kept.Goals as goal

pub returns : goal.returns
returns c = omega (arith, kept_is c.args.s c.args.d c.args.e c.requires.1.0)
