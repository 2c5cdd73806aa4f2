-- `script::words::outlets_from` meets its contract: the outlets passed are read, and no others stand there. Assumes nothing.
use Rattle.std.proofs.Common.{◌≡◌, refl, replicate, arith, rules}
use Rattle.outlet.specs.Outlets.{no_outlet, outlets_most}
use Rattle.outlet.proofs.OutletLaws.{written_front}
use Rattle.script.proofs.WordsLaws.{outlets_read}
use Rattle.script.proofs.words.outlets_from.Goals as goal

pub returns : goal.returns
returns c =
    let none : c.default-room.result ≡ no_outlet = search rules in
    rw none
    (outlets_read c.args.words.now c.args.at _ c.min-n.result _ refl
    (written_front _ (replicate outlets_most no_outlet) c.min-n.result _ c.loop-k.k (omega (arith, c.min-n.ensures)) (rw none at c.loop-k-test.false) (rw none at c.loop-k.invariant))
    c.min-n.ensures)
