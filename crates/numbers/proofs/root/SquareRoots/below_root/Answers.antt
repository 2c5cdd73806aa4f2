-- `numbers::root::SquareRoots::below_root` meets its contract: a point of the chord, divided by its scale. Assumes nothing.
use native.Mathlib.Omega.{arith}
use Rattle.numbers.proofs.RootLaws.{scaled_below}
use Rattle.numbers.proofs.root.SquareRoots.below_root.Goals as goal

pub returns-then-x-ge16515072 : goal.returns-then-x-ge16515072
returns-then-x-ge16515072 c = scaled_below c.chord.result 4_194_304 c.args.x (omega arith) (omega (arith, c.chord.ensures))

pub returns-then-x-ge1032192 : goal.returns-then-x-ge1032192
returns-then-x-ge1032192 c = scaled_below c.chord-then-x-ge1032192.result 2_097_152 c.args.x (omega arith) (omega (arith, c.chord-then-x-ge1032192.ensures))

pub returns-then-x-ge16128 : goal.returns-then-x-ge16128
returns-then-x-ge16128 c = scaled_below c.chord-then-x-ge16128.result 524_288 c.args.x (omega arith) (omega (arith, c.chord-then-x-ge16128.ensures))

pub returns : goal.returns
returns c = scaled_below c.chord-2.result 65_536 c.args.x (omega arith) (omega (arith, c.chord-2.ensures))
