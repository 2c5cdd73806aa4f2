-- `numbers::quotient::upper_half` meets its contract: `upper_half_is` in base 2^32. Assumes nothing.
use native.Mathlib.Omega.{arith}
use Rattle.numbers.proofs.QuotientLaws.{upper_half_is}
use Rattle.numbers.proofs.quotient.upper_half.Goals as goal

pub returns : goal.returns
returns c = upper_half_is 4_294_967_296 c.args.u c.args.v (omega arith)
