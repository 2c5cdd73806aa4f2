-- `flux::crossing::momentum_of` meets its contract. Assumes nothing.
use mathlib.Core.Path.{ap, ◌∙◌}
use Prim.Native.Nat.{ℕ, ◌*◌, ◌/◌}
use Rattle.flux.specs.Crossing.{momentum_of}
use Rattle.flux.proofs.crossing.momentum_of.Goals as goal

pub returns : goal.returns
unfolding momentum_of
returns c =
    let s = c.args in c.divide.ensures ∙ ap (λ (d : ℕ). s.h * s.t * s.k / d) c.requires.1.0.value_is
