-- Laws of lists laid over one another, and of a lent list by value. Assumes nothing.
use mathlib.Core.Bool.{Bool, true, false, cond}
use mathlib.Core.Path.{◌≡◌, refl, sym, ◌∙◌, ap, ap₂}
use mathlib.Core.List.{List, [], ◌++◌}
use Prim.Native.Nat.{ℕ, ◌+◌, ◌-◌, ◌<◌, ◌≤◌, min}
use native.Mathlib.Omega.{arith}
use borrow.Author.Tests.{leb-true, leb-false, le-ltb}
use lib.Dec.{leb, ltb}
use lib.ListN.{length, take, drop, get_or, replicate, length-append, length-drop, length-replicate, get_or-replicate, drop_of_length-le, get_or-append, get_or-eq_default}
use lib.Seq.{length-take-le, take_all, get_or-take, get_or-drop, get_or-append-add, ext_get_or}
use Rattle.std.proofs.Math.Nat.{min_comm}
use Rattle.std.proofs.lemmas.List.{take_min, drop_min}
use Rattle.numbers.proofs.IndexLaws.{length_tabulate, get_or_tabulate}
use Rattle.outlet.specs.declared.Outlet.{Outlet}
use Rattle.outlet.specs.declared.Outlets.{Outlets}
use Rattle.outlet.specs.Outlets.{outlets_most, no_outlet, outlet_at, each_outlet, over, loaded}

-- ---- one list laid over another, by index

either : {A : Type 0} (m n : ℕ) → (m ≤ n → A) → (n < m → A) → A
either {A} m n f g = go (leb m n) refl
  where
    go : (b : Bool) → leb m n ≡ b → A
    go true e = f (leb-true m n e)
    go false e = g (leb-false m n e)

over_within : (front back : List Outlet) → length front ≤ length back → over front back ≡ front ++ drop (length front) back
unfolding over
over_within front back le = ap (λ (l : List Outlet). l ++ drop (length front) back) (take_all (length back) front le)

over_beyond : (front back : List Outlet) → length back ≤ length front → over front back ≡ take (length back) front ++ []
unfolding over
over_beyond front back le = ap (λ (l : List Outlet). take (length back) front ++ l) (drop_of_length-le back {i = length front} le)

pub length_over : (front back : List Outlet) → length (over front back) ≡ length back
length_over front back =
    either (length front) (length back)
    (λ le. ap length (over_within front back le) ∙ length-append front (drop (length front) back) ∙ omega (arith, le, length-drop (length front) back))
    (λ l. let le : length back ≤ length front = omega (arith, l) in ap length (over_beyond front back le) ∙ length-append (take (length back) front) [] ∙ omega (arith, length-take-le (length back) front le))

-- as far as both reach the first list's entries
pub over_front : (front back : List Outlet) (k : ℕ) (d : Outlet) → k < length front → k < length back → get_or (over front back) k d ≡ get_or front k d
over_front front back k d p q =
    either (length front) (length back)
    (λ le. ap (λ (l : List Outlet). get_or l k d) (over_within front back le) ∙ get_or-append front (drop (length front) back) d k p)
    (λ l.
    let le : length back ≤ length front = omega (arith, l) in
    let within : k < length (take (length back) front) = omega (arith, q, length-take-le (length back) front le) in
    ap (λ (x : List Outlet). get_or x k d) (over_beyond front back le) ∙ get_or-append (take (length back) front) [] d k within ∙ get_or-take (length back) front k d q)

-- and behind the first list the second's
pub over_back : (front back : List Outlet) (k : ℕ) (d : Outlet) → length front ≤ k → get_or (over front back) k d ≡ get_or back k d
over_back front back k d p =
    either (length front) (length back)
    (λ le.
    let at : k ≡ length front + (k - length front) = omega (arith, p) in
    ap (λ (l : List Outlet). get_or l k d) (over_within front back le)
    ∙ ap (λ (i : ℕ). get_or (front ++ drop (length front) back) i d) at
    ∙ get_or-append-add front (drop (length front) back) (k - length front) d
    ∙ get_or-drop (length front) back (k - length front) d ∙ ap (λ (i : ℕ). get_or back i d) (sym at))
    (λ l. get_or-eq_default (over front back) d {n = k} (omega (arith, l, p, length_over front back)) ∙ sym (get_or-eq_default back d {n = k} (omega (arith, l, p))))

-- ---- a lent list by value

pub length_loaded : (os : List Outlet) → length (loaded os).list ≡ outlets_most
length_loaded os = length_over os (replicate outlets_most no_outlet) ∙ length-replicate outlets_most no_outlet

pub outlet_loaded : (os : List Outlet) (k : ℕ) → k < outlets_most → outlet_at (loaded os) k ≡ get_or os k no_outlet
outlet_loaded os k q =
    either (length os) k
    (λ le. over_back os (replicate outlets_most no_outlet) k no_outlet le ∙ get_or-replicate outlets_most k no_outlet no_outlet q ∙ sym (get_or-eq_default os no_outlet {n = k} le))
    (λ l. over_front os (replicate outlets_most no_outlet) k no_outlet l (omega (arith, q, length-replicate outlets_most no_outlet)))

-- a room that comes as it went leaves the list as it was, one of more than 32 too
pub put_back : (os : List Outlet) → over (loaded os).list os ≡ os
put_back os =
    ext_get_or no_outlet (over (loaded os).list os) os (length_over (loaded os).list os)
    (λ k p.
    let here : k < length os = omega (arith, p, length_over (loaded os).list os) in
    either outlets_most k
    (λ le. over_back (loaded os).list os k no_outlet (omega (arith, le, length_loaded os)))
    (λ l. over_front (loaded os).list os k no_outlet (omega (arith, l, length_loaded os)) here ∙ outlet_loaded os k l))

-- two lists that are the same by value, and behind the first 32, are the same
pub same_list : (a b : List Outlet) → loaded a ≡ loaded b → drop outlets_most a ≡ drop outlets_most b → a ≡ b
unfolding over
same_list a b e d =
    sym (put_back a)
    ∙ ap (λ (n : ℕ). take n (loaded a).list ++ drop (length (loaded a).list) a) (ap (λ (x : Outlets). x.count) e)
    ∙ ap (λ (l : List Outlet). take (length b) l ++ drop (length (loaded a).list) a) (ap (λ (x : Outlets). x.list) e)
    ∙ ap (λ (n : ℕ). take (length b) (loaded b).list ++ drop n a) (length_loaded a)
    ∙ ap (λ (l : List Outlet). take (length b) (loaded b).list ++ l) d
    ∙ ap (λ (n : ℕ). take (length b) (loaded b).list ++ drop n b) (sym (length_loaded b))
    ∙ put_back b

-- A list by value as one of n outlets is loaded: the room is 32 long, and has no outlet behind the n. Every call keeps this, since it answers the list as it came or with each
-- outlet replaced.
pub record AsLoaded (n : ℕ) (os : Outlets) : Type 0 where
  pub counted : os.count ≡ n
  pub long : length os.list ≡ outlets_most
  pub behind : (k : ℕ) → n ≤ k → k < outlets_most → outlet_at os k ≡ no_outlet

pub loaded_as_loaded : (os : List Outlet) → AsLoaded (length os) (loaded os)
loaded_as_loaded os = record {
  counted = refl;
  long = length_loaded os;
  behind = λ k le q. outlet_loaded os k q ∙ get_or-eq_default os no_outlet {n = k} le;
}

pub each_at_room : (f : ℕ → Outlet) (os : Outlets) (k : ℕ) → k < outlets_most → outlet_at (each_outlet f os) k ≡ cond (ltb k os.count) (f k) (outlet_at os k)
unfolding each_outlet
each_at_room f os k q = get_or_tabulate outlets_most (λ i. cond (ltb i os.count) (f i) (outlet_at os i)) k no_outlet q

pub each_as_loaded : (n : ℕ) (f : ℕ → Outlet) (os : Outlets) → AsLoaded n os → AsLoaded n (each_outlet f os)
unfolding each_outlet
each_as_loaded n f os a = record {
  counted = a.counted;
  long = length_tabulate outlets_most _;
  behind = λ k le q. each_at_room f os k q ∙ ap (λ (b : Bool). cond b (f k) (outlet_at os k)) (le-ltb k os.count (omega (arith, le, a.counted))) ∙ a.behind k le q;
}

-- what is written and loaded again is what was written
pub loaded_over : (os : List Outlet) (x : Outlets) → AsLoaded (length os) x → loaded (over x.list os) ≡ x
loaded_over os x a =
    same (length (over x.list os)) x.count (loaded (over x.list os)).list x.list (length_over x.list os ∙ sym a.counted)
    (ext_get_or no_outlet (loaded (over x.list os)).list x.list (length_loaded (over x.list os) ∙ sym a.long)
    (λ k p.
    let here : k < outlets_most = omega (arith, p, length_loaded (over x.list os)) in
    outlet_loaded (over x.list os) k here
    ∙ either (length os) k
    (λ le. get_or-eq_default (over x.list os) no_outlet {n = k} (omega (arith, le, length_over x.list os)) ∙ sym (a.behind k le here))
    (λ l. over_front x.list os k no_outlet (omega (arith, here, a.long)) l)))
  where
    same : (m n : ℕ) (l r : List Outlet) → m ≡ n → l ≡ r → ◌≡◌ {A = Outlets} record { count = m; list = l } record { count = n; list = r }
    same m n l r e f = rw (e, f) refl

-- what lies behind the first 32 is as it was
pub drop_over : (front back : List Outlet) → length front ≡ outlets_most → drop outlets_most (over front back) ≡ drop outlets_most back
drop_over front back e =
    ext_get_or no_outlet (drop outlets_most (over front back)) (drop outlets_most back)
    (length-drop outlets_most (over front back) ∙ ap (λ (n : ℕ). n - outlets_most) (length_over front back) ∙ sym (length-drop outlets_most back))
    (λ k p.
    get_or-drop outlets_most (over front back) k no_outlet
    ∙ over_back front back (outlets_most + k) no_outlet (omega (arith, e))
    ∙ sym (get_or-drop outlets_most back k no_outlet))

-- ---- the front of one list copied onto another

-- as many entries as both have, so that one is laid over the other
pub copied_over : (src dst front : List Outlet) (n : ℕ) → n ≡ min (length src) (length dst) → front ≡ take n src → front ++ drop n dst ≡ over src dst
unfolding over
copied_over src dst front n e f =
    ap₂ (λ (l r : List Outlet). l ++ r)
    (f ∙ ap (λ (k : ℕ). take k src) (e ∙ min_comm (length src) (length dst)) ∙ take_min (length dst) src)
    (ap (λ (k : ℕ). drop k dst) e ∙ drop_min (length src) dst)
