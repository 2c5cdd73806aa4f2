-- `flux::wave::wave_speed` meets its contract. Assumes nothing.
use mathlib.Core.Path.{ap, sym, ◌∙◌}
use native.Mathlib.Omega.{arith}
use Rattle.flux.specs.Wave.{wave_speed}
use Rattle.flux.proofs.WaveLaws.{wave_speed_dry, wave_speed_root}
use Rattle.flux.proofs.wave.wave_speed.Goals as goal

pub returns-then-h-eq0 : goal.returns-then-h-eq0
returns-then-h-eq0 c = sym (ap wave_speed c.if-h-eq0.true ∙ wave_speed_dry)

pub returns : goal.returns
returns c = c.square_root_ceil.ensures ∙ sym (wave_speed_root c.args.h _ (omega arith) (omega arith))
