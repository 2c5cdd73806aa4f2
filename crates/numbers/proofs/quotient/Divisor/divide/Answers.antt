-- `numbers::quotient::Divisor::divide` meets its contract: `falls_short`. Assumes nothing.
use Prim.Native.Nat.{◌+◌, ◌*◌, ◌≤◌, ◌<◌}
use native.Mathlib.Omega.{arith}
use Rattle.numbers.proofs.QuotientLaws.{falls_short, one_more, none_more}
use Rattle.numbers.proofs.quotient.Divisor.divide.Goals as goal
use Rattle.numbers.proofs.quotient.Divisor.divide.Goals.{After-upper_half-q}

-- the bounds of the product
short : (c : After-upper_half-q) →
    let s = c.args in
    (c.upper_half-q.result * s.self.value ≤ s.n) × (s.n < (c.upper_half-q.result + 2) * s.self.value)
short c =
    let s = c.args in
    falls_short 18_446_744_073_709_551_615 s.self.value s.self.reciprocal s.n c.upper_half-q.result c.args.self.fits.some c.args.self.fits.reciprocal_is (omega arith) c.upper_half-q.ensures.0 c.upper_half-q.ensures.1

pub overflow_sub-n : goal.overflow_sub-n
overflow_sub-n c = (short (goal.at.overflow_sub-n c).After-upper_half-q).0

pub returns-then-self-n : goal.returns-then-self-n
returns-then-self-n c =
    let s = c.args in
    (one_more s.n s.self.value c.upper_half-q.result c.args.self.fits.some (short (goal.at.returns-then-self-n c).After-upper_half-q) (omega (arith, c.if-self-n.true))).0

pub returns-else-self-n : goal.returns-else-self-n
returns-else-self-n c =
    let s = c.args in
    none_more s.n s.self.value c.upper_half-q.result c.args.self.fits.some (short (goal.at.returns-else-self-n c).After-upper_half-q) c.if-self-n.false
