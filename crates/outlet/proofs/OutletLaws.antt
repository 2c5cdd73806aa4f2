-- Laws of a list of outlets each of which is replaced. Assumes nothing.
use mathlib.Core.Path.{◌≡◌, refl, sym, ap, ◌∙◌}
use mathlib.Core.Bool.{Bool, true, false, cond}
use mathlib.Core.List.{List, ◌++◌}
use Prim.Native.Nat.{ℕ, ◌+◌, ◌-◌, ◌≤◌, ◌<◌}
use native.Mathlib.Omega.{arith}
use lib.Dec.{ltb}
use lib.ListN.{length, take, drop, get_or, length-append, length-drop, get_or-append}
use lib.Seq.{get_or-take, length-take-le, get_or-drop, get_or-append-add}
use borrow.Author.Tests.{lt-ltb, le-ltb, ltb-true}
use Rattle.numbers.specs.Index.{tabulate}
use Rattle.numbers.proofs.IndexLaws.{Written, written_below, by_index, get_or_tabulate, tabulate_same}
use Rattle.outlet.specs.Outlets.{no_outlet, outlets_most, outlet_at, each_outlet}
use Rattle.outlet.specs.declared.Outlet.{Outlet}
use Rattle.outlet.specs.declared.Outlets.{Outlets}

pub each_at : (f : ℕ → Outlet) (os : Outlets) → os.count ≤ outlets_most → (k : ℕ) → k < os.count → outlet_at (each_outlet f os) k ≡ f k
unfolding each_outlet
each_at f os few k l =
    get_or_tabulate outlets_most (λ k. cond (ltb k os.count) (f k) (outlet_at os k)) k no_outlet (omega (arith, l, few))
    ∙ ap (λ (b : Bool). cond b (f k) (outlet_at os k)) (lt-ltb k os.count l)

pub each_count : (f : ℕ → Outlet) (os : Outlets) → (each_outlet f os).count ≡ os.count
unfolding each_outlet
each_count f os = refl

-- replaced by what is the same of each outlet
pub each_same : (f g : ℕ → Outlet) (os : Outlets) → ((k : ℕ) → k < os.count → f k ≡ g k) → each_outlet f os ≡ each_outlet g os
unfolding each_outlet
each_same f g os same = ap (λ (l : List Outlet). record { count = os.count; list = l }) (tabulate_same outlets_most _ _ (λ k l. go k (ltb k os.count) refl))
  where
    go : (k : ℕ) (b : Bool) → ltb k os.count ≡ b → cond b (f k) (outlet_at os k) ≡ cond b (g k) (outlet_at os k)
    go k true e = same k (ltb-true k os.count e)
    go k false e = refl

-- a list of no outlet
pub each_none : (f : ℕ → Outlet) (os : Outlets) → length os.list ≡ outlets_most → os.count ≡ 0 → os ≡ each_outlet f os
unfolding each_outlet
each_none f os full none =
    ap (λ (l : List Outlet). record { count = os.count; list = l })
    (by_index outlets_most (λ k. cond (ltb k os.count) (f k) (outlet_at os k)) no_outlet os.list full
    (λ k q. sym (ap (λ (b : Bool). cond b (f k) (outlet_at os k)) (le-ltb k os.count (omega (arith, none))))))

-- the outlets of a list, as a loop goes through them
pub counted : (os : Outlets) → length os.list ≡ outlets_most → os.count ≤ outlets_most → length (take os.count os.list) ≡ os.count
counted os full few = length-take-le os.count os.list (omega (arith, full))

pub at_hand : (os : Outlets) (k : ℕ) → k < os.count → get_or (take os.count os.list) k no_outlet ≡ outlet_at os k
at_hand os k l = get_or-take os.count os.list k no_outlet l

-- the first n outlets of a list written one by one, by a loop over them
pub written_front : (f : ℕ → Outlet) (l : List Outlet) (n : ℕ) (front : List Outlet) (i : ℕ) → n ≤ length l → length (take n l) ≤ i
    → Written no_outlet f (take n l) i front → Written no_outlet f l n (front ++ drop n l)
written_front f l n front i le all w = record {
  long = length-append front (drop n l) ∙ omega (arith, long, length-drop n l);
  done = λ k q. get_or-append front (drop n l) no_outlet k (omega (arith, q, long)) ∙ w.done k (omega (arith, q, all, length-take-le n l le));
  same = λ k q.
      let back : k ≡ length front + (k - n) = omega (arith, q, long) in
      ap (λ (j : ℕ). get_or (front ++ drop n l) j no_outlet) back
      ∙ get_or-append-add front (drop n l) (k - n) no_outlet
      ∙ get_or-drop n l (k - n) no_outlet
      ∙ ap (λ (j : ℕ). get_or l j no_outlet) (omega (arith, q));
}
  where
    long : length front ≡ n
    long = w.long ∙ length-take-le n l le

-- and as many as the list counts
pub each_written : (f : ℕ → Outlet) (os : Outlets) (front : List Outlet) (i : ℕ) → length os.list ≡ outlets_most → os.count ≤ outlets_most → length (take os.count os.list) ≤ i
    → Written no_outlet f (take os.count os.list) i front → record { count = os.count; list = front ++ drop os.count os.list } ≡ each_outlet f os
unfolding each_outlet
each_written f os front i full few all w =
    ap (λ (l : List Outlet). record { count = os.count; list = l })
    (written_below no_outlet f os.list os.count (front ++ drop os.count os.list) (written_front f os.list os.count front i (omega (arith, few, full)) all w)
    ∙ ap (λ (n : ℕ). tabulate n (λ k. cond (ltb k os.count) (f k) (outlet_at os k))) full)
