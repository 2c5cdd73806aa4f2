-- Laws of the loops that read a list of outlets, and the wants of a call. Assumes nothing.
use mathlib.Core.Bool.{Bool, true, false, cond}
use mathlib.Core.Path.{◌≡◌, refl, sym, ap, ◌∙◌}
use mathlib.Core.List.{List}
use Prim.Native.Nat.{ℕ, ◌+◌, ◌*◌, ◌≤◌, ◌<◌, min}
use native.Mathlib.Omega.{arith}
use borrow.Author.Tests.{ltb-true, ltb-false}
use lib.Dec.{ltb}
use lib.ListN.{length, get_or, replicate, length-replicate, get_or-replicate, get_or-eq_default}
use lib.Seq.{ext_get_or}
use Rattle.numbers.specs.Index.{tabulate}
use Rattle.numbers.proofs.IndexLaws.{Written, by_index, length_tabulate, get_or_tabulate}
use Rattle.outlet.specs.Outlets.{outlets_most, no_outlet, outlet_at, each_outlet, loaded}
use Rattle.outlet.specs.declared.Outlet.{Outlet}
use Rattle.outlet.specs.declared.Outlets.{Outlets}
use Rattle.outlet.proofs.LentLaws.{length_loaded, outlet_loaded}
use Rattle.tally.specs.Call.{wanting_outlet, wanting}
use Rattle.script.specs.Script.{wants_from, outlet_from, outlets_from}

abbrev pub put : ℕ → List Outlet → Outlets
put n l = record { count = n; list = l }

-- a list written from the front as far as its count and 32 reach, with no outlet behind
loaded_by_index : (n : ℕ) (f : ℕ → Outlet) (k : ℕ) (l : List Outlet) → Written no_outlet f (replicate outlets_most no_outlet) k l → k ≡ min n outlets_most
    → l ≡ (loaded (tabulate n f)).list
loaded_by_index n f k l w e =
    ext_get_or no_outlet l (loaded (tabulate n f)).list (long ∙ sym (length_loaded (tabulate n f)))
    (λ i p. let here : i < outlets_most = omega (arith, p, long) in at i here (ltb i k) refl ∙ sym (outlet_loaded (tabulate n f) i here))
  where
    long : length l ≡ outlets_most
    long = w.long ∙ length-replicate outlets_most no_outlet

    at : (i : ℕ) → i < outlets_most → (b : Bool) → ltb i k ≡ b → get_or l i no_outlet ≡ get_or (tabulate n f) i no_outlet
    at i q true t =
        let below : i < k = ltb-true i k t in
        w.done i below ∙ sym (get_or_tabulate n f i no_outlet (omega (arith, below, e)))
    at i q false t =
        let above : k ≤ i = ltb-false i k t in
        w.same i above ∙ get_or-replicate outlets_most i no_outlet no_outlet q
        ∙ sym (get_or-eq_default (tabulate n f) no_outlet {n = i} (omega (arith, above, e, q, length_tabulate n f)))

pub outlets_read : (ws : List ℕ) (at n k : ℕ) (l : List Outlet) → n ≡ get_or ws at 0 → Written no_outlet (λ i. outlet_from ws (at + 1 + 5 * i)) (replicate outlets_most no_outlet) k l
    → k ≡ min n outlets_most → put n l ≡ loaded (outlets_from ws at)
unfolding outlets_from
outlets_read ws at n k l c w e =
    same n (length (tabulate n f)) l (loaded (tabulate n f)).list (sym (length_tabulate n f)) (loaded_by_index n f k l w e)
    ∙ ap (λ (m : ℕ). loaded (tabulate m f)) c
  where
    f : ℕ → Outlet
    f i = outlet_from ws (at + 1 + 5 * i)

    same : (m n : ℕ) (l r : List Outlet) → m ≡ n → l ≡ r → put m l ≡ put n r
    same m n l r e f = rw (e, f) refl

-- the wants of the words, given to the outlets of the list
pub wants_given : (ws : List ℕ) (at : ℕ) (os : Outlets) (k : ℕ) (l : List Outlet) → length os.list ≡ outlets_most
    → Written no_outlet (λ i. wanting_outlet (get_or ws (at + i) 0) (outlet_at os i)) os.list k l → k ≡ min os.count outlets_most → put os.count l ≡ wanting (wants_from ws at) os
unfolding wanting each_outlet wants_from
wants_given ws at os k l long w e =
    ap (put os.count) (by_index outlets_most
    (λ i. cond (ltb i os.count) (wanting_outlet (get_or (tabulate outlets_most (λ j. get_or ws (at + j) 0)) i 0) (outlet_at os i)) (outlet_at os i))
    no_outlet l (w.long ∙ long) (λ i q. go i q (ltb i os.count) refl))
  where
    go : (i : ℕ) → i < outlets_most → (b : Bool) → ltb i os.count ≡ b
        → get_or l i no_outlet ≡ cond (ltb i os.count) (wanting_outlet (get_or (tabulate outlets_most (λ j. get_or ws (at + j) 0)) i 0) (outlet_at os i)) (outlet_at os i)
    go i q true t =
        let below : i < os.count = ltb-true i os.count t in
        rw (t, get_or_tabulate outlets_most (λ j. get_or ws (at + j) 0) i 0 q) (w.done i (omega (arith, below, q, e)))
    go i q false t =
        let above : os.count ≤ i = ltb-false i os.count t in
        rw t (w.same i (omega (arith, above, e)))
