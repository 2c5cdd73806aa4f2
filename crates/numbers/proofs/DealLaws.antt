-- Laws of a whole dealt out by weights: nothing is lost, and nobody has more than its weight where the whole is at most their sum. Assumes nothing.
use mathlib.Core.Path.{◌≡◌, refl, sym, ◌∙◌, ap}
use mathlib.Core.Bool.{Bool, true, false, cond, ◌&&◌, and-false}
use mathlib.Core.Logic.{⊎_elim}
use mathlib.Core.List.{List, [], ◌∷◌}
use Prim.Native.Nat.{ℕ, zero, suc, ◌+◌, ◌-◌, ◌*◌, ◌/◌, ◌≤◌, ◌<◌}
use native.Mathlib.Omega.{arith}
use native.Mathlib.Nat.{mul-div_cancel, eq-or-lt_of_le, div-lt_iff_lt-mul, mul-lt-mul_of_pos_right, div-mul-le_self, lt-div-mul-add, zero-div, zero-mul, mul_comm, sub-zero, le_of_mul-le-mul_left, zero-lt-suc, not-suc-le-zero, le_of_suc-le-suc}
use lib.Dec.{ltb}
use lib.ListN.{length, get_or}
use borrow.Author.Tests.{ltb-true, ltb-false, lt-ltb, le-ltb}
use Rattle.numbers.specs.Index.{sum, sum_below, tabulate}
use Rattle.numbers.specs.Deal.{floors, units_left, has_unit, handed, dealt, weighing_below}
use Rattle.numbers.proofs.IndexLaws.{sum_first}
use Rattle.numbers.proofs.SharesLaws.{floor_none}

-- ---- what the floors leave

-- the floors are no more than the whole, each by its weight
floors_low : (whole W : ℕ) (ws : List ℕ) → W * sum (floors whole W ws) ≤ whole * sum ws
unfolding sum floors
floors_low whole W [] = omega arith
floors_low whole W (w ∷ ws) = omega (arith, floors_low whole W ws, div-mul-le_self (whole * w) W)

-- how many weigh something
unfoldable weighing : List ℕ → ℕ
weighing [] = 0
weighing (w ∷ ws) = cond (ltb 0 w) 1 0 + weighing ws

-- a floor is less than one short where there is a weight
one_short : (whole W w : ℕ) → 0 < W → whole * w ≤ W * (whole * w / W + cond (ltb 0 w) 1 0)
one_short whole W zero p = omega arith
one_short whole W (suc w) p = rw (lt-ltb 0 (suc w) (zero-lt-suc w)) (omega (arith, lt-div-mul-add {a = whole * suc w} p))

floors_high : (whole W : ℕ) (ws : List ℕ) → 0 < W → whole * sum ws ≤ W * (sum (floors whole W ws) + weighing ws)
unfolding sum floors weighing
floors_high whole W [] p = omega arith
floors_high whole W (w ∷ ws) p = omega (arith, floors_high whole W ws p, one_short whole W w p)

-- the floors by index
pub floors_tabulate : (whole W n : ℕ) (f : ℕ → ℕ) → floors whole W (tabulate n f) ≡ tabulate n (λ k. whole * f k / W)
unfolding floors tabulate
floors_tabulate whole W zero f = refl
floors_tabulate whole W (suc n) f = ap (λ (l : List ℕ). (whole * f 0 / W) ∷ l) (floors_tabulate whole W n (λ k. f (suc k)))

floors_none : (W : ℕ) (ws : List ℕ) → sum (floors 0 W ws) ≡ 0
unfolding sum floors
floors_none W [] = refl
floors_none W (w ∷ ws) = let q : 0 * w / W ≡ 0 = rw (zero-mul w) (zero-div W) in omega (arith, q, floors_none W ws)

-- and together they are at most the whole, also where nothing weighs anything
pub floors_most : (whole : ℕ) (ws : List ℕ) → (sum ws ≡ 0 → whole ≡ 0) → sum (floors whole (sum ws) ws) ≤ whole
floors_most whole ws z = go (sum ws) refl
  where
    turn : (W f whole : ℕ) → W * f ≤ whole * W → W * f ≤ W * whole
    turn W f whole h = omega arith

    go : (W : ℕ) → sum ws ≡ W → sum (floors whole (sum ws) ws) ≤ whole
    go zero e = rw (z e) (omega (arith, floors_none (sum ws) ws))
    go (suc W) e = le_of_mul-le-mul_left {k = sum ws} (turn (sum ws) (sum (floors whole (sum ws) ws)) whole (floors_low whole (sum ws) ws)) (omega (arith, e))

-- so at most one unit is left for each that weighs something
left_few : (whole : ℕ) (ws : List ℕ) → (sum ws ≡ 0 → whole ≡ 0) → units_left whole ws ≤ weighing ws
unfolding units_left
left_few whole ws z = go (sum ws) refl
  where
    turn : (a b c : ℕ) → a * b ≤ b * c → b * a ≤ b * c
    turn a b c h = omega arith

    go : (W : ℕ) → sum ws ≡ W → units_left whole ws ≤ weighing ws
    go zero e = omega (arith, z e)
    go (suc W) e =
        let p : 0 < sum ws = omega (arith, e) in
        let k = le_of_mul-le-mul_left {k = sum ws} (turn whole (sum ws) (sum (floors whole (sum ws) ws) + weighing ws) (floors_high whole (sum ws) ws p)) p in
        omega (arith, k)

-- the floors and what they leave are the whole
pub floors_and_left : (whole : ℕ) (ws : List ℕ) → (sum ws ≡ 0 → whole ≡ 0) → sum (floors whole (sum ws) ws) + units_left whole ws ≡ whole
unfolding units_left
floors_and_left whole ws z = omega (arith, floors_most whole ws z)

-- ---- nothing is lost

-- who has a unit: nobody without a weight, and with one whoever comes where one is left
unit_none : (u : ℕ) → has_unit u 0 ≡ false
unfolding has_unit
unit_none u = refl

unit_some : (u w : ℕ) → has_unit u (suc w) ≡ ltb 0 u
unfolding has_unit
unit_some u w = rw (lt-ltb 0 (suc w) (zero-lt-suc w)) refl

unit_has : (u w : ℕ) → has_unit u w ≡ true → (0 < u) × (ltb 0 w ≡ true)
unit_has u zero e = let z : true ≡ false = sym e ∙ unit_none u in (ltb-true 0 u cc, cc)
unit_has u (suc w) e = (ltb-true 0 u (sym (unit_some u w) ∙ e), lt-ltb 0 (suc w) (zero-lt-suc w))

unit_has_not : (u w n : ℕ) → has_unit u w ≡ false → u - n ≡ u - (cond (ltb 0 w) 1 0 + n)
unit_has_not u zero n e = omega arith
unit_has_not u (suc w) n e = let none : u ≤ 0 = ltb-false 0 u (sym (unit_some u w) ∙ e) in omega (arith, none)

-- what is left of u after s units, and after one more
pub unit_taken : (s u w : ℕ) → u - s - cond (has_unit (u - s) w) 1 0 ≡ u - (s + cond (ltb 0 w) 1 0)
unit_taken s u w = go (has_unit (u - s) w) refl
  where
    go : (b : Bool) → has_unit (u - s) w ≡ b → u - s - cond (has_unit (u - s) w) 1 0 ≡ u - (s + cond (ltb 0 w) 1 0)
    go true e = rw (e, (unit_has (u - s) w e).1) (omega arith)
    go false e = rw e (turn (u - s) (cond (ltb 0 w) 1 0) refl (unit_has_not (u - s) w 0 e))
      where
        turn : (r b : ℕ) → r ≡ u - s → r - 0 ≡ r - (b + 0) → u - s - 0 ≡ u - (s + b)
        turn r b d h = omega arith

-- handing out units to at most as many as weigh something gives out all of them
handed_sum : (u whole W : ℕ) (ws : List ℕ) → u ≤ weighing ws → sum (handed u whole W ws) ≡ sum (floors whole W ws) + u
unfolding sum floors handed weighing
handed_sum u whole W [] h = omega arith
handed_sum u whole W (w ∷ ws) h = go (λ (i : ℕ) l. handed_sum i whole W ws l) (has_unit u w) refl
  where
    go : ((i : ℕ) → i ≤ weighing ws → sum (handed i whole W ws) ≡ sum (floors whole W ws) + i) → (b : Bool) → has_unit u w ≡ b → sum (cond (has_unit u w) ((whole * w / W + 1) ∷ handed (u - 1) whole W ws) ((whole * w / W) ∷ handed u whole W ws)) ≡ whole * w / W + sum (floors whole W ws) + u
    go again true e =
        let one = unit_has u w e in
        let few : u ≤ 1 + weighing ws = rw one.1 at h in
        rw e (omega (arith, one.0, again (u - 1) (omega (arith, few))))
    go again false e = rw e (omega (arith, again u (omega (arith, h, unit_has_not u w (weighing ws) e))))

-- where something weighs something, or nothing is dealt out
pub dealt_sum : (whole : ℕ) (ws : List ℕ) → (sum ws ≡ 0 → whole ≡ 0) → sum (dealt whole ws) ≡ whole
unfolding dealt
dealt_sum whole ws z = handed_sum (units_left whole ws) whole (sum ws) ws (left_few whole ws z) ∙ floors_and_left whole ws z

-- ---- entry by entry

pub length_handed : (u whole W : ℕ) (ws : List ℕ) → length (handed u whole W ws) ≡ length ws
unfolding handed
length_handed u whole W [] = refl
length_handed u whole W (w ∷ ws) = go (λ (i : ℕ). length_handed i whole W ws) (has_unit u w)
  where
    go : ((i : ℕ) → length (handed i whole W ws) ≡ length ws) → (b : Bool) → length (cond b ((whole * w / W + 1) ∷ handed (u - 1) whole W ws) ((whole * w / W) ∷ handed u whole W ws)) ≡ suc (length ws)
    go again true = ap suc (again (u - 1))
    go again false = ap suc (again u)

pub length_dealt : (whole : ℕ) (ws : List ℕ) → length (dealt whole ws) ≡ length ws
unfolding dealt
length_dealt whole ws = length_handed (units_left whole ws) whole (sum ws) ws

-- it has a unit of those that u leave after s others
unit_after : (s u w : ℕ) → has_unit (u - s) w ≡ (ltb 0 w && ltb s u)
unfolding has_unit
unit_after s u w = ap (λ (t : Bool). ltb 0 w && t) (go (ltb s u) refl)
  where
    go : (b : Bool) → ltb s u ≡ b → ltb 0 (u - s) ≡ ltb s u
    go true e = lt-ltb 0 (u - s) (omega (arith, ltb-true s u e)) ∙ sym e
    go false e = le-ltb 0 (u - s) (omega (arith, ltb-false s u e)) ∙ sym e

-- it has one more than the floor exactly if it has a unit of what those before it leave
pub handed_then : (u whole W : ℕ) (ws : List ℕ) (k : ℕ) → k < length ws →
    get_or (handed u whole W ws) k 0 ≡ whole * get_or ws k 0 / W + cond (has_unit (u - weighing_below k (λ j. get_or ws j 0)) (get_or ws k 0)) 1 0
unfolding handed weighing_below sum_below
handed_then u whole W [] k l = absurd (not-suc-le-zero l)
handed_then u whole W (w ∷ ws) k l = go (λ (i j : ℕ) m. handed_then i whole W ws j m) (has_unit u w) refl k l
  where
    -- what the first leaves to those after it
    more : (k : ℕ) → sum_below (suc k) (λ j. cond (ltb 0 (get_or (w ∷ ws) j 0)) 1 0) ≡ cond (ltb 0 w) 1 0 + sum_below k (λ j. cond (ltb 0 (get_or ws j 0)) 1 0)
    more k = sum_first k (λ j. cond (ltb 0 (get_or (w ∷ ws) j 0)) 1 0)

    took : (k : ℕ) → has_unit u w ≡ true → u - 1 - sum_below k (λ j. cond (ltb 0 (get_or ws j 0)) 1 0) ≡ u - sum_below (suc k) (λ j. cond (ltb 0 (get_or (w ∷ ws) j 0)) 1 0)
    took k e = rw (more k, (unit_has u w e).1) (omega arith)

    kept : (k : ℕ) → has_unit u w ≡ false → u - sum_below k (λ j. cond (ltb 0 (get_or ws j 0)) 1 0) ≡ u - sum_below (suc k) (λ j. cond (ltb 0 (get_or (w ∷ ws) j 0)) 1 0)
    kept k e = rw (more k) (unit_has_not u w (sum_below k (λ j. cond (ltb 0 (get_or ws j 0)) 1 0)) e)

    go : ((i j : ℕ) → j < length ws → get_or (handed i whole W ws) j 0 ≡ whole * get_or ws j 0 / W + cond (has_unit (i - sum_below j (λ m. cond (ltb 0 (get_or ws m 0)) 1 0)) (get_or ws j 0)) 1 0) → (b : Bool) → has_unit u w ≡ b → (k : ℕ) → k < length (w ∷ ws) → get_or (cond (has_unit u w) ((whole * w / W + 1) ∷ handed (u - 1) whole W ws) ((whole * w / W) ∷ handed u whole W ws)) k 0 ≡ whole * get_or (w ∷ ws) k 0 / W + cond (has_unit (u - sum_below k (λ j. cond (ltb 0 (get_or (w ∷ ws) j 0)) 1 0)) (get_or (w ∷ ws) k 0)) 1 0
    go again true e zero m = rw (sub-zero u, e) refl
    go again true e (suc k) m = rw e (again (u - 1) k (le_of_suc-le-suc m) ∙ ap (λ (v : ℕ). whole * get_or ws k 0 / W + cond (has_unit v (get_or ws k 0)) 1 0) (took k e))
    go again false e zero m = rw (sub-zero u, e) (omega arith)
    go again false e (suc k) m = rw e (again u k (le_of_suc-le-suc m) ∙ ap (λ (v : ℕ). whole * get_or ws k 0 / W + cond (has_unit v (get_or ws k 0)) 1 0) (kept k e))

-- that is, if it weighs something and fewer than u before it do
pub handed_at : (u whole W : ℕ) (ws : List ℕ) (k : ℕ) → k < length ws →
    get_or (handed u whole W ws) k 0 ≡ whole * get_or ws k 0 / W + cond (ltb 0 (get_or ws k 0) && ltb (weighing_below k (λ j. get_or ws j 0)) u) 1 0
handed_at u whole W ws k l =
    handed_then u whole W ws k l
    ∙ ap (λ (t : Bool). whole * get_or ws k 0 / W + cond t 1 0) (unit_after (weighing_below k (λ j. get_or ws j 0)) u (get_or ws k 0))

pub dealt_at : (whole : ℕ) (ws : List ℕ) (k : ℕ) → k < length ws →
    get_or (dealt whole ws) k 0
    ≡ whole * get_or ws k 0 / sum ws + cond (ltb 0 (get_or ws k 0) && ltb (weighing_below k (λ j. get_or ws j 0)) (units_left whole ws)) 1 0
unfolding dealt
dealt_at whole ws k l = handed_at (units_left whole ws) whole (sum ws) ws k l

-- ---- the whole of the weights, and less

floor_all_of : (W w : ℕ) → w ≤ W → W * w / W ≡ w
floor_all_of zero w h = let z : w ≡ 0 = omega arith in rw z refl
floor_all_of (suc W) w h = ap (λ (x : ℕ). x / suc W) (mul_comm (suc W) w) ∙ mul-div_cancel w (zero-lt-suc W)

floors_all : (W : ℕ) (ws : List ℕ) → sum ws ≤ W → floors W W ws ≡ ws
unfolding sum floors
floors_all W [] h = refl
floors_all W (w ∷ ws) h = rw (floor_all_of W w (omega arith), floors_all W ws (omega arith)) refl

handed_none : (whole W : ℕ) (ws : List ℕ) → handed 0 whole W ws ≡ floors whole W ws
unfolding handed floors has_unit
handed_none whole W [] = refl
handed_none whole W (w ∷ ws) = rw (and-false (ltb 0 w), handed_none whole W ws) refl

-- the whole of the weights gives each its weight
pub dealt_all : (ws : List ℕ) → dealt (sum ws) ws ≡ ws
unfolding dealt units_left
dealt_all ws =
    let f : floors (sum ws) (sum ws) ws ≡ ws = floors_all (sum ws) ws (omega arith) in
    let none : units_left (sum ws) ws ≡ 0 = rw f (omega arith) in
    rw none (handed_none (sum ws) (sum ws) ws ∙ f)

-- one more than the floor is at most the weight where the whole is below the sum
under : (whole W w : ℕ) (b : Bool) → whole < W → whole * w / W + cond (ltb 0 w && b) 1 0 ≤ w
under whole W zero b q = rw (floor_none whole W) (omega arith)
under whole W (suc w) b q =
    let p : 0 < W = omega arith in
    let d : whole * suc w / W < suc w = (div-lt_iff_lt-mul p).1 (omega (arith, mul-lt-mul_of_pos_right q (zero-lt-suc w))) in
    go b d
  where
    go : (b : Bool) → whole * suc w / W < suc w → whole * suc w / W + cond (ltb 0 (suc w) && b) 1 0 ≤ suc w
    go true d = rw (lt-ltb 0 (suc w) (zero-lt-suc w)) (omega (arith, d))
    go false d = rw (and-false (ltb 0 (suc w))) (omega (arith, d))

-- nobody has more than its weight where the whole is at most their sum
pub dealt_most : (whole : ℕ) (ws : List ℕ) → whole ≤ sum ws → (k : ℕ) → k < length ws → get_or (dealt whole ws) k 0 ≤ get_or ws k 0
dealt_most whole ws g k l =
    ⊎_elim
    (λ (e : whole ≡ sum ws). rw (e, dealt_all ws) (omega arith))
    (λ (m : whole < sum ws). rw (dealt_at whole ws k l) (under whole (sum ws) (get_or ws k 0) (ltb (weighing_below k (λ j. get_or ws j 0)) (units_left whole ws)) m))
    (eq-or-lt_of_le g)
