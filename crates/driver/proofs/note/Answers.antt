-- `driver::note` meets its contract: one word after the other. Assumes nothing.
use mathlib.Core.Path.{◌≡◌, refl, ◌∙◌}
use mathlib.Core.Bool.{Bool, true, false}
use Rattle.std.specs.Int.{from_bool}
use Rattle.driver.specs.Replay.{flag, noted}
use Rattle.driver.proofs.note.Goals as goal

flag_is : (b : Bool) → from_bool b ≡ flag b
flag_is true = refl
flag_is false = refl

pub returns : goal.returns
unfolding noted
returns c =
    let e : c.from-2.result ≡ flag c.args.transported = c.from-2.ensures ∙ flag_is c.args.transported in
    rw (c.put-4.ensures, c.put-3.ensures, c.put-2.ensures, c.put.ensures, c.from.ensures, e) refl
