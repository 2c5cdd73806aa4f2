-- `script::words::outlet_from` meets its contract. Assumes nothing.
use mathlib.Core.Path.{refl}
use Rattle.script.specs.Script.{outlet_from}
use Rattle.script.proofs.words.outlet_from.Goals as goal

pub returns : goal.returns
unfolding outlet_from
returns c = refl
