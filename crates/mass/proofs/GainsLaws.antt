-- Laws of what the outlets of a cell have gained: a column that it is taken off outlet by outlet, and what a transport leaves. Assumes nothing.
use mathlib.Core.Path.{◌≡◌, refl, sym, ap, ◌∙◌}
use mathlib.Core.Bool.{Bool, true, false, cond}
use mathlib.Core.List.{List}
use Prim.Native.Nat.{ℕ, ◌+◌, ◌-◌, ◌≤◌, ◌<◌}
use native.Mathlib.Omega.{arith}
use borrow.Author.Tests.{eq-eqb, ne_eqb, eqb-true}
use lib.Dec.{eqb}
use lib.IntN.{ℤ}
use lib.ListN.{length, get_or, set}
use Rattle.numbers.specs.Index.{sum_below, tabulate}
use Rattle.numbers.proofs.IndexLaws.{by_index, get_or_tabulate, length_tabulate, set_tabulate, sum_more, sum_part, sum_same, sum_none, tabulate_same}
use Rattle.outlet.specs.Outlets.{outlets_most, outlet_at}
use Rattle.outlet.specs.declared.Outlets.{Outlets}
use Rattle.reach.specs.Limits.{cells_most}
use Rattle.reach.specs.Parts.{drawn_from}
use Rattle.reach.specs.Ranges.{undrawn}
use Rattle.mass.specs.Transport.{MassColumns, mass_columns, cell_outflow, outlet_share, moved_cell}
use Rattle.mass.specs.Ranges.{Gained, gain_at, gains, moved_mass}
use Rattle.mass.proofs.TransportLaws.{drawn_mass, drawn_mass_is, moved_undrawn}

-- ---- a column that is written outlet by outlet

-- m less what the first k outlets have gained, each of its cell
abbrev pub taken_at : List ℕ → (before after : Outlets) → (k i : ℕ) → ℕ
taken_at m before after k i = get_or m i 0 - sum_below k (gain_at before after i)

module _ (m : List ℕ) (before after : Outlets) where
  pub taken_none : m ≡ tabulate (length m) (taken_at m before after 0)
  unfolding sum_below
  taken_none = by_index (length m) (taken_at m before after 0) 0 m refl (λ i l. omega arith)

  gain_here : (k : ℕ) → gain_at before after (outlet_at before k).cell k ≡ (outlet_at after k).mass - (outlet_at before k).mass
  gain_here k = rw (eq-eqb (outlet_at before k).cell (outlet_at before k).cell refl) refl

  gain_else : (k i : ℕ) → (i ≡ (outlet_at before k).cell → ⊥) → gain_at before after i k ≡ 0
  gain_else k i n = rw (ne_eqb (outlet_at before k).cell i (λ (e : (outlet_at before k).cell ≡ i). n (sym e))) refl

  module _ (k : ℕ) (column : List ℕ) (e : column ≡ tabulate (length m) (taken_at m before after k)) where
    column_at_lem : (i : ℕ) → i < length m → get_or column i 0 ≡ taken_at m before after k i
    column_at_lem i l = rw e (get_or_tabulate (length m) (taken_at m before after k) i 0 l)

    -- the cell has what the next outlet takes
    pub gain_there : Gained m before after → k < before.count → (outlet_at after k).mass - (outlet_at before k).mass ≤ get_or column (outlet_at before k).cell 0
    unfolding gains
    gain_there g l =
        let c = (outlet_at before k).cell in
        let q = g.inside k l in
        omega (arith, column_at_lem c q, gain_here k, sum_part before.count (gain_at before after c) k l, g.most c q)

    pub taken_more : (v : ℕ) → (outlet_at before k).cell < length m → v ≡ get_or column (outlet_at before k).cell 0 - ((outlet_at after k).mass - (outlet_at before k).mass)
        → set column (outlet_at before k).cell v ≡ tabulate (length m) (taken_at m before after (k + 1))
    taken_more v q s =
        let c = (outlet_at before k).cell in
        let this : v ≡ taken_at m before after (k + 1) c = omega (arith, s, column_at_lem c q, gain_here k, sum_more k (gain_at before after c)) in
        let others : (i : ℕ) → i < length m → (i ≡ c → ⊥) → taken_at m before after k i ≡ taken_at m before after (k + 1) i = λ i l n. omega (arith, sum_more k (gain_at before after i), gain_else k i n) in
        rw e (set_tabulate (length m) (taken_at m before after k) (taken_at m before after (k + 1)) c v this others)

-- ---- what a transport leaves

-- outlets that have each gained the share of their cell
module _ (m b : List ℕ) (c : List ℤ) (os after : Outlets) (x y : ℕ)
    (shared : (k : ℕ) → k < os.count → (outlet_at after k).mass ≡ (outlet_at os k).mass + outlet_share (mass_columns m b c (drawn_from os) x y) (outlet_at os k).cell k)
  where
    abbrev s : MassColumns
    s = mass_columns m b c (drawn_from os) x y

    gains_are : (i : ℕ) → gains os after i ≡ drawn_mass s i
    unfolding gains
    gains_are i =
        sum_same os.count (gain_at os after i) (λ k. cond (eqb (outlet_at os k).cell i) (outlet_share s i k) 0) (λ k l. at k l (eqb (outlet_at os k).cell i) refl)
        ∙ sym (drawn_mass_is m b c os x y i)
      where
        less : (p q r : ℕ) → p ≡ q + r → p - q ≡ r
        less p q r e = omega arith

        at : (k : ℕ) → k < os.count → (t : Bool) → eqb (outlet_at os k).cell i ≡ t → cond t ((outlet_at after k).mass - (outlet_at os k).mass) 0 ≡ cond t (outlet_share s i k) 0
        at k l true e = less _ _ _ (shared k l) ∙ ap (λ (j : ℕ). outlet_share s j k) (eqb-true (outlet_at os k).cell i e)
        at k l false e = refl

    module _ (covered : (i : ℕ) → i < length m → cell_outflow s i ≤ get_or b i 0) (column : List ℕ) (e : column ≡ moved_mass (mass_columns m b c undrawn x y)) where
      there : (i : ℕ) → i < length m → get_or column i 0 ≡ moved_cell s i + gains os after i
      there i l =
          ap (λ (l : List ℕ). get_or l i 0) e
          ∙ get_or_tabulate (length m) (moved_cell (mass_columns m b c undrawn x y)) i 0 l
          ∙ omega (arith, moved_undrawn m b c (drawn_from os) x y i (covered i l), gains_are i)

      long : length column ≡ length m
      long = ap length e ∙ length_tabulate (length m) (moved_cell (mass_columns m b c undrawn x y))

      pub gained : os.count ≤ outlets_most → length m ≤ cells_most → ((k : ℕ) → k < os.count → (outlet_at os k).cell < length m) → Gained column os after
      gained few cells inside = record {
        few = few;
        inside = λ k l. omega (arith, inside k l, long);
        cells = omega (arith, cells, long);
        grown = λ k l. omega (arith, shared k l);
        most = λ i l. omega (arith, there i (omega (arith, l, long)));
      }

      pub taken_all : tabulate (length column) (λ i. get_or column i 0 - gains os after i) ≡ moved_mass s
      taken_all =
          ap (λ (n : ℕ). tabulate n (λ i. get_or column i 0 - gains os after i)) long
          ∙ tabulate_same (length m) _ _ (λ i l. omega (arith, there i l))

-- outlets that have gained nothing
module _ (m : List ℕ) (os after : Outlets) (same : (k : ℕ) → k < os.count → (outlet_at after k).mass ≡ (outlet_at os k).mass) where
  gains_none : (i : ℕ) → gains os after i ≡ 0
  unfolding gains
  gains_none i = sum_none os.count (gain_at os after i) (λ k l. at (eqb (outlet_at os k).cell i) _ _ (same k l))
    where
      at : (t : Bool) (p q : ℕ) → p ≡ q → cond t (p - q) 0 ≡ 0
      at true p q e = omega arith
      at false p q e = refl

  pub gained_none : os.count ≤ outlets_most → length m ≤ cells_most → ((k : ℕ) → k < os.count → (outlet_at os k).cell < length m) → Gained m os after
  gained_none few cells inside = record {
    few = few;
    inside = inside;
    cells = cells;
    grown = λ k l. omega (arith, same k l);
    most = λ i l. omega (arith, gains_none i);
  }

  pub taken_same : tabulate (length m) (λ i. get_or m i 0 - gains os after i) ≡ m
  taken_same = sym (by_index (length m) (λ i. get_or m i 0 - gains os after i) 0 m refl (λ i l. omega (arith, gains_none i)))
