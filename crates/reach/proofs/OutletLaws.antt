-- Laws of what a list of outlets has drawn: cut at more than any base depth it passes ground 8 where it would uncut, and is then the same. Assumes
-- nothing.
use mathlib.Core.Path.{◌≡◌, refl, sym, ◌∙◌}
use mathlib.Core.Bool.{Bool, true, false, cond, and-true}
use mathlib.Core.List.{List, [], ◌∷◌}
use Prim.Native.Nat.{ℕ, ◌+◌, ◌≤◌, ◌<◌, min}
use native.Mathlib.Omega.{arith}
use borrow.Author.Tests.{eq-eqb}
use lib.Dec.{eqb}
use lib.IntN.{ℤ, pos}
use lib.ListN.{length, get_or}
use Rattle.numbers.specs.Index.{all_of, all_below, sum, sum_below, tabulate}
use Rattle.numbers.proofs.IndexLaws.{all_of_lem, all_at, all_below_lem, all_same, on, only, get_or_tabulate, tabulate_same, sum_small, sum_same, sum_part, sum_tabulate}
use Rattle.outlet.specs.Outlets.{outlets_most, outlet_at, from_cell, each_outlet}
use Rattle.outlet.specs.declared.Outlet.{Outlet}
use Rattle.outlet.specs.declared.Outlets.{Outlets}
use Rattle.outlet.proofs.OutletLaws.{each_at, each_count}
use Rattle.drawing.specs.Ranges.{by_cell}
use Rattle.drawing.proofs.DrawingLaws.{drawn_fits, drawn_same}
use Rattle.flux.specs.Limits.{depth_most}
use Rattle.reach.specs.declared.held.Held.{Held}
use Rattle.reach.specs.Parts.{drawn_from}
use Rattle.reach.specs.Grounds.{carried_fits, carried_cells_fit, carried_fit, outlet_fits, outlets_fit, ledger_fits, all_totals_fit}
use Rattle.reach.specs.Ranges.{CarriedColumns, alone, undrawn, cut_drawn}
use Rattle.reach.proofs.CarriedLaws.{carried_fits_at}
use Rattle.reach.proofs.PartsLaws.{outflow_is, sum_single}
use Rattle.reach.proofs.Sound.{CarriedSound, carried_sound, carried_stands, outlets_few}

module _ (os : Outlets) (few : os.count ≤ outlets_most) where
  cut_at : (k : ℕ) → k < os.count → get_or (tabulate outlets_most (λ k. min (outlet_at os k).drawn 4_000_001)) k 0 ≡ min (outlet_at os k).drawn 4_000_001
  cut_at k l = get_or_tabulate outlets_most (λ k. min (outlet_at os k).drawn 4_000_001) k 0 (omega (arith, l, few))

  pub cut_most : (i : ℕ) → cut_drawn os i ≤ 1_000_000_000
  unfolding by_cell
  cut_most i =
      let a : ℕ → ℕ = λ k. get_or (tabulate outlets_most (λ k. min (outlet_at os k).drawn 4_000_001)) k 0 in
      let s = sum_small os.count (λ k. cond (eqb (outlet_at os k).cell i) (a k) 0) 4_000_001 (λ k l. small (eqb (outlet_at os k).cell i) (a k) (rw (cut_at k l) (omega arith))) in
      omega (arith, s, few)
    where
      small : (b : Bool) (x : ℕ) → x ≤ 4_000_001 → cond b x 0 ≤ 4_000_001
      small true x l = l
      small false x l = omega arith

  -- what is covered by a base depth is not cut
  pub cut_same : (P b i : ℕ) → b ≤ depth_most → P + sum (drawn_from os i) ≤ b → cut_drawn os i ≡ sum (drawn_from os i)
  cut_same P b i d l = drawn_same os _ cut_at i P b d (drawn_fits os _ cut_at i P b d l)

  cut_back : (P b i : ℕ) → b ≤ depth_most → P + cut_drawn os i ≤ b → cut_drawn os i ≡ sum (drawn_from os i)
  cut_back P b i d l = drawn_same os _ cut_at i P b d l

  -- ground 8 of a cell, of what was drawn and of the one number for it
  pub carried_cut : (h b : ℕ) (l r : ℤ) (i : ℕ) → b ≤ depth_most → carried_fits h b l r (cut_drawn os i ∷ []) ≡ carried_fits h b l r (drawn_from os i)
  carried_cut h b l r i d = go (carried_fits h b l r (drawn_from os i)) refl (carried_fits h b l r (cut_drawn os i ∷ [])) refl
    where
      -- a record of the one sort is one of the other where the sums agree
      alike : (ds es : List ℕ) → sum ds ≡ sum es → CarriedSound h b l r ds → CarriedSound h b l r es
      alike ds es e k = record {
        left = k.left;
        right = k.right;
        balance = omega (arith, k.balance, outflow_is l r ds, outflow_is l r es, e);
        covered = omega (arith, k.covered, outflow_is l r ds, outflow_is l r es, e);
      }

      uncut : CarriedSound h b l r (drawn_from os i) → carried_fits h b l r (cut_drawn os i ∷ []) ≡ true
      uncut k =
          let o = outflow_is l r (drawn_from os i) in
          let e = cut_same _ b i d (rw o at k.covered) in
          carried_stands h b l r _ (alike (drawn_from os i) (cut_drawn os i ∷ []) (sym e ∙ sum_single (cut_drawn os i)) k)

      cut : CarriedSound h b l r (cut_drawn os i ∷ []) → carried_fits h b l r (drawn_from os i) ≡ true
      cut k =
          let o = outflow_is l r (cut_drawn os i ∷ []) in
          let e = cut_back _ b i d (rw (← sum_single (cut_drawn os i)) at (rw o at k.covered)) in
          carried_stands h b l r _ (alike (cut_drawn os i ∷ []) (drawn_from os i) (sym (sum_single (cut_drawn os i)) ∙ e) k)

      go : (x : Bool) → carried_fits h b l r (drawn_from os i) ≡ x → (y : Bool) → carried_fits h b l r (cut_drawn os i ∷ []) ≡ y → y ≡ x
      go true e true f = refl
      go false e false f = refl
      go true e false f = sym f ∙ uncut (carried_sound h b l r _ e)
      go false e true f = sym (sym e ∙ cut (carried_sound h b l r _ f))

-- ---- the column of the cells' sums

pub at_cell : (os : Outlets) (d : List ℕ) → d ≡ tabulate 512 (cut_drawn os) → (i : ℕ) → i < 512 → get_or d i 0 ≡ cut_drawn os i
at_cell os d e i l = rw e (get_or_tabulate 512 (cut_drawn os) i 0 l)

-- ground 8 says the same of what was drawn and of its sums by cell
pub same_ground : (h b : List ℕ) (c : List ℤ) (os : Outlets) (d : List ℕ) (left right : ℕ) → CarriedColumns h b c → outlets_fit (length h) os ≡ true → d ≡ tabulate 512 (cut_drawn os)
    → carried_fit h b c (alone d) left right ≡ carried_fit h b c (drawn_from os) left right
unfolding carried_fit carried_cells_fit
same_ground h b c os d left right k f e =
    rw (all_same (carried_fits_at h b c (alone d)) (carried_fits_at h b c (drawn_from os)) (length h) (λ i l.
    rw (at_cell os d e i (omega (arith, l, k.few)))
    (carried_cut os (outlets_few (length h) os f) (get_or h i 0) (get_or b i 0) (get_or c i (pos 0)) (get_or c (i + 1) (pos 0)) i (k.base i l)))) refl

-- ---- no outlet: 16 stands, 9 is of the ledger alone, and nothing is drawn

pub none_fit : (n : ℕ) (os : Outlets) → os.count ≡ 0 → outlets_fit n os ≡ true
unfolding outlets_fit all_below all_of
none_fit n os e = rw e refl

pub none_total : (h : Held) → h.outlets.count ≡ 0 → all_totals_fit h ≡ ledger_fits h.ledger
unfolding all_totals_fit all_below all_of
none_total h e = rw e (and-true (ledger_fits h.ledger))

pub none_drawn_from : (h b : List ℕ) (c : List ℤ) (os : Outlets) (left right : ℕ) → os.count ≡ 0 → carried_fit h b c undrawn left right ≡ carried_fit h b c (drawn_from os) left right
unfolding carried_fit carried_cells_fit from_cell tabulate
none_drawn_from h b c os left right e = rw e refl

-- ---- a list whose outlets are replaced, each in its cell

module _ (f : ℕ → Outlet) (os : Outlets) (few : os.count ≤ outlets_most) where
  -- it fits as before where no cell and no want moved
  pub each_fits : (n : ℕ) → ((k : ℕ) → k < os.count → ((f k).cell ≡ (outlet_at os k).cell) × ((f k).want ≡ (outlet_at os k).want)) → outlets_fit n os ≡ true → outlets_fit n (each_outlet f os) ≡ true
  unfolding outlets_fit outlet_fits
  each_fits n same e =
      let t = all_of_lem _ e in
      on _ _ (rw (each_count f os) (t 0))
      (only _ ∙ rw (each_count f os)
      (all_below_lem (λ k. outlet_fits n (outlet_at (each_outlet f os) k)) os.count (λ k l. rw (each_at f os few k l, (same k l).0, (same k l).1) (all_at (λ k. outlet_fits n (outlet_at os k)) os.count k (t 1) l))))

  -- amounts of a cell, of the new outlets
  pub each_from : (g : Outlet → ℕ) (i : ℕ) → from_cell g (each_outlet f os) i ≡ tabulate os.count (λ k. cond (eqb (f k).cell i) (g (f k)) 0)
  unfolding from_cell
  each_from g i = rw (each_count f os) (tabulate_same os.count _ _ (λ k l. rw (each_at f os few k l) refl))

  -- sums over all of them
  pub each_sum : (g : Outlet → ℕ) → sum_below (each_outlet f os).count (λ k. g (outlet_at (each_outlet f os) k)) ≡ sum_below os.count (λ k. g (f k))
  each_sum g = rw (each_count f os) (sum_same os.count _ _ (λ k l. rw (each_at f os few k l) refl))

-- an outlet has drawn no more than all outlets of its cell
pub one_drawn : (os : Outlets) (k : ℕ) → k < os.count → (outlet_at os k).drawn ≤ sum (drawn_from os (outlet_at os k).cell)
unfolding from_cell
one_drawn os k l =
    let i = (outlet_at os k).cell in
    let f : ℕ → ℕ = λ n. cond (eqb (outlet_at os n).cell i) (outlet_at os n).drawn 0 in
    let own : f k ≡ (outlet_at os k).drawn = rw (eq-eqb i i refl) refl in
    omega (arith, sum_tabulate os.count f, sum_part os.count f k l, own)
