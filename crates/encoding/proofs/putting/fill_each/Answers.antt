-- `encoding::putting::fill_each` meets its contract. The loop: the numbers passed are written. Assumes nothing.
use mathlib.Core.Path.{◌≡◌, sym, ap, ◌∙◌}
use mathlib.Core.List.{map}
use native.Mathlib.Omega.{arith}
use lib.ListN.{get_or, length-map}
use Rattle.std.proofs.lemmas.List.{get_or-map}
use Rattle.encoding.proofs.ToBytesLaws.{filling_none, filling_more}
use Rattle.encoding.proofs.putting.fill_each.Goals as goal

pub loop-i-init : goal.loop-i-init
loop-i-init g c = λ f h. filling_none c.args.w (map f c.args.column.now) _

pub loop-i-preserved : goal.loop-i-preserved
loop-i-preserved g c =
    λ f h.
    let l = c.loop-i in
    let n = c.put_number in
    let z = c.index-column-i in
    let e : c.bits.result ≡ get_or (map f c.args.column.now) l.i 0 =
    h z.result c.bits.result (rw (← z.is) at (c.requires.callable l.i z.result (omega arith))) c.bits.ensures ∙ ap f z.is
    ∙ sym (get_or-map f c.args.column.now l.i z.result 0 (omega arith)) in
    filling_more _ _ _ _ _ l.i (omega (arith, length-map c.args.column.now f)) (l.invariant f h) (rw e at n.ensures) n.auto.out
