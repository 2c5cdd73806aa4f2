-- `mass::move_mass` meets its contract: what crosses the next interface is known before a cell is written, and a cell that is not
-- written yet is read as it came. Assumes nothing.
use mathlib.Core.Path.{◌≡◌, sym, ap, ◌∙◌}
use mathlib.Core.List.{[], ◌∷◌}
use Prim.Native.Nat.{ℕ, ◌+◌, ◌-◌, ◌≤◌, ◌<◌}
use native.Mathlib.Omega.{arith}
use lib.ListN.{length, get_or}
use Rattle.numbers.proofs.IndexLaws.{written_none, written_more, written_all}
use Rattle.reach.specs.Parts.{right_of, left_of}
use Rattle.reach.specs.Ranges.{undrawn}
use Rattle.mass.specs.Transport.{MassColumns, mass_columns, cell_shares, right_share, leftwards, rightwards, moved_cell}
use Rattle.mass.proofs.TransportLaws.{stayed, moved_by, stayed_small, rightwards_next, leftwards_cell, leftwards_end, leftwards_small, rightwards_small, ready_same, ready_inside, shares_same, shares_inside}
use Rattle.mass.proofs.move_mass.Goals as goal
use Rattle.mass.proofs.move_mass.Goals.{Start, After-shares_at-first, At-loop-i, After-shares_at-next}

abbrev col : Start → MassColumns
col s = mass_columns s.args.mass.now s.args.base.now s.args.carried.now undrawn s.args.left_in s.args.right_in

-- ---- the first cell

abbrev first : After-shares_at-first → Start
first c = (goal.at.After-shares_at-first c).Start

some : (c : After-shares_at-first) → 0 < length (col (first c)).mass
some c = let e = c.if-n-eq0.false in omega arith

first_right : (c : After-shares_at-first) → c.shares_at-first.result.right ≡ right_share (col (first c)) 0
first_right c = ap right_of (c.shares_at-first.ensures.left_value ∙ shares_inside (col (first c)) 0)

pub returns-then-n-eq0 : goal.returns-then-n-eq0
returns-then-n-eq0 c =
    let s = col (goal.at.returns-then-n-eq0 c).Start in
    written_all 0 (moved_cell s) s.mass 0 s.mass (written_none _ _ _) (sym c.if-n-eq0.true)

pub shares_at-first-requires-clause-ready_at : goal.shares_at-first-requires-clause-ready_at
shares_at-first-requires-clause-ready_at c = ready_inside (col (goal.at.shares_at-first-requires-clause-ready_at c).Start) 0 (c.requires.each 0)

pub with_share-held-requires : goal.with_share-held-requires
with_share-held-requires c =
    let r = c.requires in
    let b = (goal.at.with_share-held-requires c).After-shares_at-first in
    (omega (arith, c.shares_at-first.ensures.rest_value, stayed_small (col (first b)) 0 (r.each 0) (some b)), r.entering)

pub loop-i-init : goal.loop-i-init
unfolding rightwards
loop-i-init c =
    let b = (goal.at.loop-i-init c).After-shares_at-first in
    (written_none _ _ _, c.with_share-held.ensures ∙ ap (λ (x : ℕ). x + c.args.left_in) b.shares_at-first.ensures.rest_value, first_right b)

-- ---- a turn: cell i is written, and the next one is at hand

module _ (c : At-loop-i) where
  abbrev s : MassColumns
  s = col (goal.at.At-loop-i c).Start

  abbrev at : ℕ
  at = c.loop-i.i

  inside : at < length s.mass
  inside = let e = c.if-n-eq0.false in omega (arith, c.loop-i.auto.i-end)

  held_small : c.loop-i.held ≤ 4_000_000_000_000
  held_small =
      let r = c.requires in
      omega (arith, c.loop-i.invariant.1, stayed_small s at (r.each at) inside, rightwards_small s r at (omega (arith, inside)))

  right_small : c.loop-i.right ≤ 2_000_000_000_000
  right_small = omega (arith, c.loop-i.invariant.2, rightwards_next s at, rightwards_small s c.requires (at + 1) (omega (arith, inside)))

abbrev turn : After-shares_at-next → At-loop-i
turn c = (goal.at.After-shares_at-next c).At-loop-i

module _ (c : After-shares_at-next) where
  abbrev next : ℕ
  next = at (turn c) + 1

  there : next < length (s (turn c)).mass
  there = omega (arith, c.loop-i-test.true)

  as_it_came : get_or (turn c).loop-i.mass next 0 ≡ get_or (s (turn c)).mass next 0
  as_it_came = (turn c).loop-i.invariant.0.same next (omega arith)

  next_shares : c.shares_at-next.result.right ∷ c.shares_at-next.result.left ∷ [] ≡ cell_shares (s (turn c)) next
  next_shares =
      c.shares_at-next.ensures.left_value
      ∙ shares_same _ _ _ _ _ 0 0 0 (turn c).loop-i.invariant.0.long next as_it_came
      ∙ shares_inside (s (turn c)) next

  next_left : c.shares_at-next.result.left ≡ leftwards (s (turn c)) next
  next_left = ap left_of next_shares ∙ sym (leftwards_cell (s (turn c)) next there)

  next_stays : c.shares_at-next.result.rest ≡ stayed (s (turn c)) next
  next_stays = rw as_it_came at c.shares_at-next.ensures.rest_value

pub shares_at-next-requires-clause-ready_at : goal.shares_at-next-requires-clause-ready_at
shares_at-next-requires-clause-ready_at c =
    let b = (goal.at.shares_at-next-requires-clause-ready_at c).At-loop-i in
    let w = b.loop-i.invariant.0 in
    let j = at b + 1 in
    let l : j < length (s b).mass = omega (arith, c.loop-i-test.true) in
    ready_same _ _ _ _ _ _ _ _ w.long j (w.same j (omega arith)) (ready_inside (s b) j (c.requires.each j))

pub with_share-requires : goal.with_share-requires
with_share-requires c =
    let b = turn c in
    (held_small b, omega (arith, next_left c, leftwards_small (s b) (next c) (c.requires.each (next c)) (omega (arith, there c))))

pub with_share-held-requires-in-loop-i : goal.with_share-held-requires-in-loop-i
with_share-held-requires-in-loop-i c =
    let n = (goal.at.with_share-held-requires-in-loop-i c).After-shares_at-next in
    let b = turn n in
    (omega (arith, next_stays n, stayed_small (s b) (next n) (c.requires.each (next n)) (there n)), right_small b)

pub loop-i-preserved : goal.loop-i-preserved
loop-i-preserved c =
    let n = (goal.at.loop-i-preserved c).After-shares_at-next in
    let b = turn n in
    let w = b.loop-i.invariant in (
      written_more 0 (moved_cell (s b)) (s b).mass (at b) _ _ w.0 (inside b) (moved_by (s b) (at b) _ _ _ c.with_share.ensures w.1 (next_left n)),
      omega (arith, c.with_share-held-in-loop-i.ensures, next_stays n, w.2, rightwards_next (s b) (at b)),
      ap right_of (next_shares n),
    )

-- ---- the last cell

pub with_share-requires-2 : goal.with_share-requires-2
with_share-requires-2 c = (held_small (goal.at.with_share-requires-2 c).At-loop-i, (c.requires.each 0).entering)

pub returns : goal.returns
returns c =
    let b = (goal.at.returns c).At-loop-i in
    let w = b.loop-i.invariant in
    let e : at b + 1 ≡ length (s b).mass = omega (arith, inside b, c.loop-i-test.false) in
    let last : length (s b).mass - 1 ≡ at b = omega (arith, e) in
    rw last
    (written_all 0 (moved_cell (s b)) (s b).mass (at b + 1) _
    (written_more 0 (moved_cell (s b)) (s b).mass (at b) _ _ w.0 (inside b) (moved_by (s b) (at b) _ _ _ c.with_share-2.ensures w.1 (sym (leftwards_end (s b) (at b + 1) (omega (arith, e))))))
    e)
