-- `mass::outlets::move_outlets` meets its contract: a column has what the outlets passed have drawn of each cell. Assumes nothing.
use mathlib.Core.Path.{◌≡◌, refl, sym, ap, ap₂, ◌∙◌}
use mathlib.Core.Bool.{cond}
use mathlib.Core.List.{List}
use Prim.Native.Nat.{ℕ, ◌+◌, ◌≤◌, ◌<◌}
use native.Mathlib.Omega.{arith}
use borrow.Author.Rules.{rules}
use lib.Dec.{eqb}
use lib.IntN.{ℤ, pos, neg_ℤ}
use lib.ListN.{length, get_or, take, replicate}
use borrow.Author.Tests.{eq-eqb}
use Rattle.numbers.specs.Index.{sum_below, tabulate}
use Rattle.numbers.specs.Shares.{share}
use Rattle.numbers.specs.Signed.{positive}
use Rattle.numbers.proofs.IndexLaws.{written_none, written_more, get_or_tabulate, zeros, sum_same}
use Rattle.outlet.specs.Outlets.{no_outlet, outlet_at}
use Rattle.outlet.proofs.OutletLaws.{counted, at_hand, each_none, each_written}
use Rattle.outlet.specs.declared.Outlet.{Outlet}
use Rattle.outlet.specs.declared.Outlets.{Outlets}
use Rattle.drawing.proofs.DrawingLaws.{there, added, added_none, added_more}
use Rattle.reach.specs.Parts.{drawn_from}
use Rattle.reach.proofs.PartsLaws.{outflow_is}
use Rattle.mass.specs.Transport.{mass_columns, outlet_share, moved_outlet, moved_outlets}
use Rattle.mass.specs.Ranges.{Giving, OutletsReady}
use Rattle.mass.proofs.TransportLaws.{outlet_share_at, drawn_before, outlet_share_small}
use Rattle.mass.proofs.outlets.move_outlets.Goals as goal
use Rattle.mass.proofs.outlets.move_outlets.Goals.{After-share_at-share, In-loop-o, Start}

-- what each outlet of a list has drawn, and a column of zeros
abbrev amounts : List Outlet → List ℕ
amounts l = tabulate 32 (λ k. (get_or l k no_outlet).drawn)

abbrev none : List ℕ
none = replicate 512 0

-- the column at a cell: what the outlets before k have drawn of it
before_at : (os : Outlets) (column : List ℕ) (k : ℕ) → column ≡ tabulate 512 (added os.list (amounts os.list) none k) → os.count ≤ 32 → k ≤ os.count → (i : ℕ) → i < 512
    → get_or column i 0 ≡ sum_below k (λ j. cond (eqb (outlet_at os j).cell i) (outlet_at os j).drawn 0)
unfolding added there
before_at os column k e few le i l =
    ap (λ (c : List ℕ). get_or c i 0) e
    ∙ get_or_tabulate 512 (added os.list (amounts os.list) none k) i 0 l
    ∙ ap₂ (λ (x y : ℕ). x + y) (zeros 512 i)
    (sum_same k _ _ (λ j q. ap (λ (x : ℕ). cond (eqb (outlet_at os j).cell i) x 0) (get_or_tabulate 32 (λ n. (get_or os.list n no_outlet).drawn) j 0 (omega (arith, q, le, few)))))
    ∙ omega arith

-- outlet k of a list that is ready: what it gives is covered, and its share
module _ (m b : List ℕ) (c : List ℤ) (os : Outlets) (r : OutletsReady m b c os) (k : ℕ) (l : k < os.count) where
  abbrev cell : ℕ
  cell = (outlet_at os k).cell

  abbrev before : ℕ
  before = sum_below k (λ j. cond (eqb (outlet_at os j).cell cell) (outlet_at os j).drawn 0)

  own : cond (eqb (outlet_at os k).cell cell) (outlet_at os k).drawn 0 ≡ (outlet_at os k).drawn
  own = rw (eq-eqb cell cell refl) refl

  giving : Giving (get_or m cell 0) (get_or b cell 0) (positive (get_or c (cell + 1) (pos 0)) + positive (neg_ℤ (get_or c cell (pos 0))) + before + (outlet_at os k).drawn)
  giving =
      let g = (r.each cell).giving (r.inside k l) in
      record {
        deep = g.deep;
        rich = g.rich;
        covered = omega (arith, g.covered, outflow_is (get_or c cell (pos 0)) (get_or c (cell + 1) (pos 0)) (drawn_from os cell), drawn_before m b c os 0 0 cell k l, own);
      }

  share_is : (v : ℕ) → v ≡ share (get_or m cell 0) (get_or b cell 0) (positive (get_or c (cell + 1) (pos 0)) + positive (neg_ℤ (get_or c cell (pos 0))) + before) (outlet_at os k).drawn
      → v ≡ outlet_share (mass_columns m b c (drawn_from os) 0 0) cell k
  share_is v e = e ∙ ap (λ (x : ℕ). share (get_or m cell 0) (get_or b cell 0) (positive (get_or c (cell + 1) (pos 0)) + positive (neg_ℤ (get_or c cell (pos 0))) + before) x) (sym own) ∙ sym (outlet_share_at m b c os 0 0 cell k l)

counts : (s : Start) → length (take s.args.outlets.count s.args.outlets.list) ≡ s.args.outlets.count
counts s = counted s.args.outlets (search rules) s.requires.few

abbrev at : In-loop-o → ℕ
at c = c.loop-o.o-index

module _ (c : In-loop-o) where
  passes : at c < c.args.outlets.count
  passes = omega (arith, c.loop-o-test.true, c.loop-o.auto.o-items, counts (goal.at.In-loop-o c).Start)

  -- the outlet at hand has not been written yet
  here : get_or c.loop-o.o-items (at c) no_outlet ≡ outlet_at c.args.outlets (at c)
  here = c.loop-o.invariant.0.same (at c) (omega arith) ∙ at_hand c.args.outlets (at c) passes

  inside : ((outlet_at c.args.outlets (at c)).cell < length c.args.mass.now) × ((outlet_at c.args.outlets (at c)).cell < 512)
  inside =
      let l = c.requires.inside (at c) passes in
      (l, omega (arith, l, c.requires.cells))

  -- what the column has at the cell at hand
  column_at_lem : (let a = c.args in
      get_or c.loop-o.before (outlet_at a.outlets (at c)).cell 0 ≡ before a.mass.now a.base.now a.carried.now a.outlets c.requires (at c) passes)
  column_at_lem = before_at c.args.outlets c.loop-o.before (at c) c.loop-o.invariant.1 c.requires.few (omega (arith, passes)) _ inside.1

  covered : (let a = c.args in let o = outlet_at a.outlets (at c) in
      Giving (get_or a.mass.now o.cell 0) (get_or a.base.now o.cell 0) (positive (get_or a.carried.now (o.cell + 1) (pos 0)) + positive (neg_ℤ (get_or a.carried.now o.cell (pos 0))) + get_or c.loop-o.before o.cell 0 + o.drawn))
  covered = let a = c.args in rw column_at_lem (giving a.mass.now a.base.now a.carried.now a.outlets c.requires (at c) passes)

-- the share of the outlet at hand
share-now : (c : After-share_at-share) → (let a = c.args in
    c.share_at-share.result ≡ outlet_share (mass_columns a.mass.now a.base.now a.carried.now (drawn_from a.outlets) 0 0) (outlet_at a.outlets c.loop-o.o-index).cell c.loop-o.o-index)
share-now c =
    let a = c.args in
    let i = (goal.at.After-share_at-share c).In-loop-o in
    share_is a.mass.now a.base.now a.carried.now a.outlets c.requires (at i) (passes i) c.share_at-share.result (rw (here i, column_at_lem i) at c.share_at-share.ensures)

pub loop-o-init : goal.loop-o-init
loop-o-init c = (written_none _ _ _, added_none _ _ _)

pub share_at-share-requires-clause-i_in_bounds : goal.share_at-share-requires-clause-i_in_bounds
share_at-share-requires-clause-i_in_bounds c =
    let r = c.requires.each 0 in
    let i = (goal.at.share_at-share-requires-clause-i_in_bounds c).In-loop-o in
    rw (here i) ((inside i).0, (r.bases, r.interfaces))

pub share_at-share-requires-clause-giving : goal.share_at-share-requires-clause-giving
share_at-share-requires-clause-giving c =
    let i = (goal.at.share_at-share-requires-clause-giving c).In-loop-o in
    rw (here i) (covered i)

pub overflow_add-before : goal.overflow_add-before
overflow_add-before c =
    let i = (goal.at.overflow_add-before c).In-loop-o in
    let g = covered i in
    rw (here i) (omega (arith, g.covered, g.deep))

pub outlet_after-requires : goal.outlet_after-requires
outlet_after-requires c =
    let a = c.args in
    let i = (goal.at.outlet_after-requires c).In-loop-o in
    let s = share-now (goal.at.outlet_after-requires c).After-share_at-share in
    rw (here i) (c.requires.totals (at i) (passes i), rw s (outlet_share_small a.mass.now a.base.now a.carried.now a.outlets _ (at i) (inside i).0 (c.requires.each _) (passes i)))

pub loop-o-preserved : goal.loop-o-preserved
unfolding moved_outlet
loop-o-preserved c =
    let a = c.args in
    let i = (goal.at.loop-o-preserved c).In-loop-o in
    let w = c.loop-o.invariant in
    let s = share-now (goal.at.loop-o-preserved c).After-share_at-share in
    let o = outlet_at a.outlets (at i) in
    let drawn : get_or (amounts a.outlets.list) (at i) 0 ≡ o.drawn = get_or_tabulate 32 (λ n. (get_or a.outlets.list n no_outlet).drawn) (at i) 0 (omega (arith, passes i, c.requires.few)) in (
      written_more no_outlet (moved_outlet (mass_columns a.mass.now a.base.now a.carried.now (drawn_from a.outlets) 0 0) a.outlets) _ (at i) _ _ w.0 (omega (arith, c.loop-o-test.true, c.loop-o.auto.o-items))
          (rw (here i) at c.outlet_after.ensures ∙ ap (λ (x : ℕ). record { cell = o.cell; want = o.want; drawn = 0; water = o.water; mass = o.mass + x }) s),
      rw (here i) (added_more a.outlets.list (amounts a.outlets.list) none (at i) c.loop-o.before _ w.1 (inside i).1 (ap (λ (x : ℕ). get_or c.loop-o.before o.cell 0 + x) (sym drawn))),
    )

pub returns-then-outlets-eq0 : goal.returns-then-outlets-eq0
unfolding moved_outlets
returns-then-outlets-eq0 c = each_none _ c.args.outlets (search rules) c.if-outlets-eq0.true

pub returns : goal.returns
unfolding moved_outlets
returns c = each_written _ c.args.outlets _ _ (search rules) c.requires.few c.loop-o-test.false c.loop-o.invariant.0
