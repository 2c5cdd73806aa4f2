-- `stepping::transporting::keeps_sums` meets its contract. The loop: the cells passed cover what came into them. Assumes nothing.
use mathlib.Core.Path.{◌≡◌, sym, ap₂, ◌∙◌}
use mathlib.Core.Bool.{Bool}
use mathlib.Core.List.{List}
use Prim.Native.Nat.{ℕ, ◌+◌, ◌≤◌, ◌<◌}
use native.Mathlib.Omega.{arith}
use lib.Dec.{leb}
use lib.IntN.{ℤ, pos, ◌+ℤ◌, neg_ℤ, nat_abs}
use lib.ListN.{length, get_or}
use mir.Syntax.{w64}
use mir.Facts.{to_z-of_z}
use borrow.Author.Rules.{sfits_of}
use Rattle.numbers.specs.Signed.{positive}
use Rattle.numbers.proofs.IndexLaws.{all_none, all_more, all_fails}
use Rattle.numbers.proofs.SignedLaws.{abs_add}
use Rattle.stepping.specs.Ranges.{sums_kept}
use Rattle.stepping.proofs.transporting.keeps_sums.Goals as goal
use Rattle.stepping.proofs.transporting.keeps_sums.Goals.{After-covers, After-sum_of, After-sum_of-in-loop-i, In-loop-i}

-- the carried water with N added, at an interface
abbrev sum_at : List ℤ → List ℤ → ℕ → ℤ
sum_at c net i = get_or c i (pos 0) +ℤ get_or net i (pos 0)

abbrev covered_at : List ℤ → List ℤ → List ℕ → ℕ → Bool
covered_at c net h i = leb (positive (sum_at c net i) + positive (neg_ℤ (sum_at c net (i + 1)))) (get_or h i 0)

index : (c : In-loop-i) → (c.loop-i.i < c.args.n) × (c.loop-i.i < 1_000_000)
index c = let f = c.requires.0.few in let l = c.loop-i-test.true in (l, omega (arith, l, f))

-- both columns have an entry at the right of the cell at hand
interfaces : (c : In-loop-i) →
    (c.loop-i.i + 1 < length c.args.carried.now) × (c.loop-i.i + 1 < length c.args.net.now)
interfaces c =
    let p = c.requires.0 in
    let l = (index c).0 in
    (omega (arith, l, p.interfaces), omega (arith, l, p.long))

-- the sum at an interface of a cell is far from the ends of its type
sum-most : (c : In-loop-i) (i : ℕ) → i ≤ c.args.n → nat_abs (sum_at c.args.carried.now c.args.net.now i) ≤ 2_000_000_000
sum-most c i l =
    let p = c.requires.0 in
    omega (arith, abs_add (get_or c.args.carried.now i (pos 0)) (get_or c.args.net.now i (pos 0)), p.carried i l, p.crossed i l)

left-sum : (c : After-sum_of) →
    c.sum_of.result ≡ sum_at c.args.carried.now c.args.net.now c.loop-i.i
left-sum c = rw (to_z-of_z {w = w64} (sfits_of c.sum_of-arg-1.given), to_z-of_z {w = w64} (sfits_of c.sum_of-arg-in-loop-i-1.given)) at c.sum_of.ensures

right-sum : (c : After-sum_of-in-loop-i) →
    c.sum_of-in-loop-i.result ≡ sum_at c.args.carried.now c.args.net.now (c.loop-i.i + 1)
right-sum c = rw (to_z-of_z {w = w64} (sfits_of c.sum_of-arg-in-loop-i-2-1.given), to_z-of_z {w = w64} (sfits_of c.sum_of-arg-in-loop-i-3-1.given)) at c.sum_of-in-loop-i.ensures

cell-is : (c : After-covers) →
    c.covers.result ≡ covered_at c.args.carried.now c.args.net.now c.args.new_depth.now c.loop-i.i
cell-is c =
    let i = c.loop-i.i in
    let e = rw (to_z-of_z {w = w64} (sfits_of c.sum_of.type_inv), to_z-of_z {w = w64} (sfits_of c.sum_of-in-loop-i.type_inv)) at c.covers.ensures in
    e ∙ ap₂ (λ (y z : ℤ). leb (positive y + positive (neg_ℤ z)) (get_or c.args.new_depth.now i 0)) (left-sum (goal.at.After-covers c).After-sum_of) (right-sum (goal.at.After-covers c).After-sum_of-in-loop-i)

pub loop-i-init : goal.loop-i-init
loop-i-init c = all_none _

pub sum_of-requires : goal.sum_of-requires
sum_of-requires c =
    let p = c.requires.0 in
    let i = c.loop-i.i in
    let l : i ≤ c.args.n = omega (arith, (index (goal.at.sum_of-requires c).In-loop-i).0) in
    rw (to_z-of_z {w = w64} (sfits_of c.sum_of-arg-1.given), to_z-of_z {w = w64} (sfits_of c.sum_of-arg-in-loop-i-1.given)) (p.carried i l, p.crossed i l)

pub sum_of-requires-in-loop-i : goal.sum_of-requires-in-loop-i
sum_of-requires-in-loop-i c =
    let p = c.requires.0 in
    let i = c.loop-i.i + 1 in
    let l : i ≤ c.args.n = omega (arith, (index (goal.at.sum_of-requires-in-loop-i c).In-loop-i).0) in
    rw (to_z-of_z {w = w64} (sfits_of c.sum_of-arg-in-loop-i-2-1.given), to_z-of_z {w = w64} (sfits_of c.sum_of-arg-in-loop-i-3-1.given)) (p.carried i l, p.crossed i l)

pub covers-requires : goal.covers-requires
covers-requires c =
    let i = c.loop-i.i in
    let l = (index (goal.at.covers-requires c).In-loop-i).0 in
    rw (to_z-of_z {w = w64} (sfits_of c.sum_of.type_inv), to_z-of_z {w = w64} (sfits_of c.sum_of-in-loop-i.type_inv), left-sum (goal.at.covers-requires c).After-sum_of, right-sum (goal.at.covers-requires c).After-sum_of-in-loop-i)
    (sum-most (goal.at.covers-requires c).In-loop-i i (omega (arith, l)), sum-most (goal.at.covers-requires c).In-loop-i (i + 1) (omega (arith, l)))

pub returns-then-not-covers : goal.returns-then-not-covers
unfolding sums_kept
returns-then-not-covers c =
    sym (all_fails _ _ c.loop-i.i (index (goal.at.returns-then-not-covers c).In-loop-i).0 (sym (cell-is (goal.at.returns-then-not-covers c).After-covers) ∙ c.if-not-covers.true))

pub loop-i-preserved : goal.loop-i-preserved
loop-i-preserved c =
    let l = c.loop-i in
    all_more _ l.i l.invariant (sym (cell-is (goal.at.loop-i-preserved c).After-covers) ∙ c.if-not-covers.false)

pub returns : goal.returns
unfolding sums_kept
returns c =
    let e : c.loop-i.i ≡ c.args.n = omega arith in
    sym (rw e at c.loop-i.invariant)
