-- `script::words::wanting_from` meets its contract: the outlets passed have their wants. Assumes nothing.
use Rattle.std.proofs.Common.{◌≡◌, length, arith, rules}
use Rattle.outlet.proofs.OutletLaws.{written_front}
use Rattle.script.proofs.WordsLaws.{wants_given}
use Rattle.script.proofs.words.wanting_from.Goals as goal

pub returns : goal.returns
returns c =
    let os = c.args.outlets in
    let full : length os.list ≡ 32 = search rules in
    wants_given c.args.words.now c.args.at os c.min-n.result _ full
    (written_front _ os.list c.min-n.result _ c.loop-k.k (omega (arith, c.min-n.ensures, full)) c.loop-k-test.false c.loop-k.invariant)
    c.min-n.ensures
