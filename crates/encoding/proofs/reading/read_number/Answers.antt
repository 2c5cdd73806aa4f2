-- `encoding::reading::read_number` meets its contract: the loop has the bytes from i on. Assumes nothing.
use mathlib.Core.Path.{◌≡◌, refl, ap, ◌∙◌}
use Prim.Native.Nat.{ℕ, ◌+◌, ◌-◌, ◌*◌, ◌^◌, ◌<◌}
use native.Mathlib.Omega.{arith}
use Rattle.encoding.specs.FromBytes.{number_at}
use Rattle.encoding.proofs.FromBytesLaws.{number_more, bound_more, room_more}
use Rattle.encoding.proofs.reading.read_number.Goals as goal
use Rattle.encoding.proofs.reading.read_number.Goals.{After-from}

-- the byte that a turn takes is the one before those it has
place : (c : After-from) →
    let l = c.loop-i in
    let a = c.args in
    (l.i - 1 < a.w) × (l.v ≡ number_at (a.w - (l.i - 1 + 1)) a.s.now (a.at + (l.i - 1 + 1))) × (l.v < 256 ^ (a.w - (l.i - 1 + 1)))
place c =
    let l = c.loop-i in
    let e : l.i ≡ l.i - 1 + 1 = omega arith in
    (omega arith, rw (← e) l.invariant.0, rw (← e) l.invariant.1)

room : (c : After-from) → 256 * c.loop-i.v + 255 < 18_446_744_073_709_551_616
room c =
    let p = place c in
    room_more c.args.w (c.loop-i.i - 1) c.loop-i.v p.0 c.requires.0 p.2

pub loop-i-init : goal.loop-i-init
unfolding number_at
loop-i-init c =
    let w = c.args.w in
    let n : w - w ≡ 0 = omega arith in
    (rw n refl, rw n (omega arith))

pub overflow_mul-v : goal.overflow_mul-v
overflow_mul-v c = omega (arith, room (goal.at.overflow_mul-v c).After-from)

pub overflow_add-v : goal.overflow_add-v
overflow_add-v c = omega (arith, room (goal.at.overflow_add-v c).After-from)

pub loop-i-preserved : goal.loop-i-preserved
loop-i-preserved c =
    let p = place (goal.at.loop-i-preserved c).After-from in
    let a = c.args in
    let l = c.loop-i in (
      ap (λ (b : ℕ). b + 256 * l.v) c.from.ensures ∙ number_more a.s.now a.at a.w (l.i - 1) l.v p.0 p.1,
      bound_more a.w (l.i - 1) c.from.result l.v p.0 (omega arith) p.2,
    )
