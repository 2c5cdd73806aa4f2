-- `mass::outlets::share_at` meets its contract: the floor up to its end less the floor before. Assumes nothing.
use mathlib.Core.Path.{◌≡◌, refl, ap, ap₂, ◌∙◌}
use Prim.Native.Nat.{ℕ, ◌+◌, ◌-◌, ◌*◌, ◌/◌}
use native.Mathlib.Nat.{zero-add}
use lib.IntN.{pos, neg_ℤ}
use lib.ListN.{get_or}
use mir.Facts.{to_z-of_z}
use borrow.Author.Rules.{sfits_of}
use Rattle.numbers.specs.Shares.{share}
use Rattle.numbers.specs.Signed.{positive}
use Rattle.mass.proofs.outlets.share_at.Goals as goal
use Rattle.mass.proofs.outlets.share_at.Goals.{After-floor_after-low, After-left_part}

-- what comes before the part
start_is : (c : After-left_part) →
    (let a = c.args in
    c.right_part.result + c.left_part.result + a.before
    ≡ positive (get_or a.carried.now (a.i + 1) (pos 0)) + positive (neg_ℤ (get_or a.carried.now a.i (pos 0))) + a.before)
start_is c =
    let r = rw (to_z-of_z (sfits_of c.right_part-arg-1.given)) at c.right_part.ensures in
    let l = rw (to_z-of_z (sfits_of c.left_part-arg-1.given)) at c.left_part.ensures in
    ap₂ (λ (x y : ℕ). x + y + c.args.before) r l

low : (c : After-floor_after-low) →
    (let a = c.args in
    c.floor_after-low.result ≡ get_or a.mass.now a.i 0 * (c.right_part.result + c.left_part.result + a.before) / get_or a.base.now a.i 0)
low c = let a = c.args in c.floor_after-low.ensures ∙ ap (λ (p : ℕ). get_or a.mass.now a.i 0 * p / get_or a.base.now a.i 0) (zero-add _)

by_floors : (m b P p x y P' : ℕ) → x ≡ m * P / b → y ≡ m * (P + p) / b → P ≡ P' → y - x ≡ share m b P' p
unfolding share
by_floors m b P p x y P' e f g = rw (e, f, g) refl

pub returns : goal.returns
returns c = by_floors _ _ _ _ _ _ _ (low (goal.at.returns c).After-floor_after-low) c.floor_after.ensures (start_is (goal.at.returns c).After-left_part)
