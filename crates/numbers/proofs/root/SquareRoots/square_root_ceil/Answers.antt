-- `numbers::root::SquareRoots::square_root_ceil` meets its contract. What is raised keeps its square below x. Assumes nothing.
use native.Mathlib.Omega.{arith}
use Rattle.numbers.proofs.RootLaws.{square_root_least, square_root_is}
use Rattle.numbers.proofs.root.SquareRoots.square_root_ceil.Goals as goal

-- of 0
pub returns-then-x-eq0 : goal.returns-then-x-eq0
returns-then-x-eq0 c = omega (arith, square_root_least 0 c.args.x (omega arith))

pub returns : goal.returns
returns c = omega (arith, square_root_is _ _ c.loop-next.invariant (omega arith))
