-- `numbers::root::SquareRoots::chord` meets its contract: the table's rule at k and k + 1, and `chord_below`. Assumes nothing.
use mathlib.Core.Path.{◌≡◌}
use mathlib.Core.List.{List}
use Prim.Native.Nat.{ℕ, ◌+◌, ◌*◌, ◌-◌, ◌≤◌}
use native.Mathlib.Omega.{arith}
use lib.ListN.{get_or}
use Rattle.numbers.specs.Table.{RootTable}
use Rattle.numbers.proofs.RootLaws.{chord_below}
use Rattle.numbers.proofs.root.SquareRoots.chord.Goals as goal
use Rattle.numbers.proofs.root.SquareRoots.chord.Goals.{After-from, After-from-2}

rule : {list : List ℕ} → RootTable list → (k r : ℕ) → k ≤ 63 → r ≡ get_or list k 0 → (r * r ≤ k * 16_777_216) × (r ≤ 32_768)
rule t k r l e = rw e (t.below k l, t.most k l)

first : (c : After-from) →
    let r = c.from.result in (r * r ≤ c.args.k * 16_777_216) × (r ≤ 32_768)
first c =
    rule c.args.self.now.fits c.args.k c.from.result (omega arith) c.from.ensures

second : (c : After-from-2) →
    let r = c.from-2.result in (r * r ≤ (c.args.k + 1) * 16_777_216) × (r ≤ 32_768)
second c =
    rule c.args.self.now.fits (c.args.k + 1) c.from-2.result (omega arith) c.from-2.ensures

pub returns : goal.returns
returns c =
    let s = c.args in
    let whole : s.span - s.rest + s.rest ≡ s.span = omega arith in
    rw whole at
    (chord_below 16_777_216 s.k c.from.result c.from-2.result (s.span - s.rest) s.rest (first (goal.at.returns c).After-from).0 (second (goal.at.returns c).After-from-2).0)
