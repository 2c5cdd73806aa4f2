use mathlib.Core.Path.{◌≡◌}
use mathlib.Core.Bool.{true, ◌&&◌}
use Prim.Native.Nat.{◌+◌, ◌≤◌}
use lib.IntN.{pos}
use lib.ListN.{get_or}
use Rattle.numbers.specs.Index.{all_below}
use Rattle.numbers.specs.Signed.{positive}
use Rattle.numbers.proofs.IndexLaws.{Written}
use Rattle.water.specs.Sides.{left_side, right_side}
use Rattle.water.specs.Water.{net_at}
use Rattle.water.specs.Ranges.{side_of, ExchangeOf, flow_of, side_meets, granted, granted_depth, granted_discharge}
use Rattle.sweeping.proofs.sweep.Given as goal

abbrev pub invariant-loop-i : goal.invariant-loop-i
invariant-loop-i l = let s = flow_of l.bed l.depth l.discharge l.x l.boundaries in
    (l.i ≤ l.n)
    × Written (pos 0) (net_at s l.t) l.initial.net (l.i + 1) l.net
    × Written 0 (λ k. positive (granted_depth s l.t (get_or l.initial.given k 0) k)) l.initial.new_depth l.i l.new_depth
    × Written (pos 0) (λ k. granted_discharge s l.t l.f (get_or l.initial.given k 0) k) l.initial.new_discharge l.i l.new_discharge
    × (side_of l.cell ≡ right_side s l.i)
    × ExchangeOf l.t l.x (left_side s l.i) (right_side s l.i) l.left.rightward l.left.leftward l.left.momentum l.left.lost_left l.left.lost_right
    × (l.met ≡ (side_meets l.t l.x (left_side s 0) && all_below (l.i + 1) (λ k. side_meets l.t l.x (right_side s k))))
    × Written 0 (λ k. granted s l.t (get_or l.initial.given k 0) k) l.initial.given l.i l.given
    × (l.dry ≡ true → ((left_side s l.i).depth ≡ 0) × ((right_side s l.i).depth ≡ 0))
