-- `cfl::longest_step` meets its contract. Assumes nothing.
use mathlib.Core.Path.{sym, ◌∙◌}
use native.Mathlib.Nat.{pos_of_ne-zero}
use native.Mathlib.Omega.{arith}
use Rattle.cfl.proofs.CflLaws.{step_for_slow, step_for_is}
use Rattle.cfl.proofs.longest_step.Goals as goal

pub returns-then-speed-eq0 : goal.returns-then-speed-eq0
returns-then-speed-eq0 c = sym (step_for_slow _ _ (omega arith))

pub returns : goal.returns
returns c = c.min.ensures ∙ sym (step_for_is _ _ (pos_of_ne-zero c.if-speed-eq0.false))
