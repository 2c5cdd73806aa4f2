-- `text::Writer::byte` meets its contract: a text of one byte. Assumes nothing.
use mathlib.Core.Path.{refl}
use native.Mathlib.Omega.{arith}
use Rattle.text.proofs.TextLaws.{put_one}
use Rattle.text.proofs.Writer.byte.Goals as goal

pub returns : goal.returns
returns c = record { same = refl; next_is = omega arith; put = put_one c.args.self.now.out.now c.args.self.now.at c.args.b (omega arith) }
