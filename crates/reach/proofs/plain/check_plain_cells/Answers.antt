-- `reach::plain::check_plain_cells` meets its contract. The loop: the cells passed stand ground 7, and what is remembered of ground 8 is `Balanced`. Assumes nothing.
use mathlib.Core.Path.{◌≡◌, refl, sym, ap, ◌∙◌}
use mathlib.Core.Bool.{Bool, true, false}
use mathlib.Core.List.{List}
use Prim.Native.Nat.{ℕ, ◌+◌, ◌≤◌, ◌<◌}
use native.Mathlib.Omega.{arith}
use lib.IntN.{ℤ, pos, nat_abs}
use lib.Dec.{leb}
use lib.ListN.{length, get_or}
use mir.Syntax.{w64}
use mir.Facts.{to_z-of_z}
use borrow.Author.Rules.{rules, sfits_of}
use borrow.Author.Tests.{leb-true}
use Rattle.numbers.specs.Index.{all_below}
use Rattle.numbers.proofs.IndexLaws.{all_none, all_more, all_fails, off}
use Rattle.reach.specs.Grounds.{pass_or, cells_fit, carried_fits, carried_cells_fit}
use Rattle.reach.specs.Limits.{carried_most}
use Rattle.reach.specs.Ranges.{undrawn}
use Rattle.reach.specs.declared.refusal.Refusal.TheVariants as refusal
use Rattle.reach.proofs.GroundsLaws.{go_on, stop_at, last_one}
use Rattle.reach.proofs.CarriedLaws.{carried_fits_at, none_drawn_lem}
use Rattle.reach.proofs.Sound.{cell_fits_at, cell_sound, carried_sound}
use Rattle.reach.proofs.plain.check_plain_cells.Invariants.{Balanced}
use Rattle.reach.proofs.plain.check_plain_cells.Goals as goal
use Rattle.reach.proofs.plain.check_plain_cells.Goals.{then-balanced, else-balanced, After-cell_fits, After-loop-i, After-within-balanced, Else-not-cell_fits}

module _ (h b : List ℕ) (c : List ℤ) where
  balanced_none : {t : Bool} → 1 ≤ length h → t ≡ leb (nat_abs (get_or c 0 (pos 0))) carried_most → Balanced h b c 0 t
  unfolding carried_fits
  balanced_none some e = record {
    kept = λ p. all_none _;
    right = λ p. leb-true _ _ (sym e ∙ p);
    broken = λ p. all_fails _ (length h) 0 some (off _ _ (sym e ∙ p));
  }

  balanced_more : (i : ℕ) {t : Bool} → i < length h → all_below i (carried_fits_at h b c undrawn) ≡ true → t ≡ carried_fits_at h b c undrawn i → Balanced h b c (i + 1) t
  balanced_more i l before e = record {
    kept = λ p. all_more _ i before (sym e ∙ p);
    right = λ p. (carried_sound _ _ _ _ _ (sym e ∙ p)).right;
    broken = λ p. all_fails _ (length h) i l (sym e ∙ p);
  }

  -- once broken it stays so
  balanced_not : (i : ℕ) {t u : Bool} → Balanced h b c i t → t ≡ false → u ≡ t → Balanced h b c (i + 1) u
  balanced_not i k e f = record {
    kept = λ p. cc;
    right = λ p. absurd (let z : ◌≡◌ {A = ℕ} 0 1 = cc in omega arith);
    broken = λ p. k.broken e;
  }

  -- all cells passed: it tells ground 8
  balanced_all : (t : Bool) → Balanced h b c (length h) t → carried_cells_fit h b c undrawn ≡ t
  unfolding carried_cells_fit
  balanced_all true k = k.kept refl
  balanced_all false k = k.broken refl

first_fits : (c : After-within-balanced) → c.within-balanced.result ≡ leb (nat_abs (get_or c.args.carried.now 0 (pos 0))) carried_most
first_fits c = rw (to_z-of_z (sfits_of c.left-1.given)) at c.within-balanced.ensures

cell-is : (c : After-cell_fits) → (let s = c.args in
    c.cell_fits.result ≡ cell_fits_at s.bed.now s.depth.now s.discharge.now s.mass.now s.base.now c.loop-i.i)
cell-is c =
    let s = c.args in
    let i = c.loop-i.i in
    let bed = to_z-of_z {w = w64} {z = get_or s.bed.now i (pos 0)} (sfits_of c.cell_fits-arg-1.given) in
    let discharge = to_z-of_z {w = w64} {z = get_or s.discharge.now i (pos 0)} (sfits_of c.cell_fits-arg-in-loop-i-1.given) in
    rw (bed, discharge) at c.cell_fits.ensures

-- the cell stood ground 7
cell_fits_lem : (c : Else-not-cell_fits) → (let s = c.args in
    cell_fits_at s.bed.now s.depth.now s.discharge.now s.mass.now s.base.now c.loop-i.i ≡ true)
cell_fits_lem c = sym (cell-is (goal.at.Else-not-cell_fits c).After-cell_fits) ∙ c.if-not-cell_fits.false

-- the cells have stood ground 7
all_fit : (c : After-loop-i) → (let s = c.args in cells_fit s.bed.now s.depth.now s.discharge.now s.mass.now s.base.now ≡ true)
unfolding cells_fit
all_fit c =
    let e : c.loop-i.i ≡ length c.args.bed.now = omega arith in
    rw e at c.loop-i.invariant.0

pub returns-then-not-cell_fits : goal.returns-then-not-cell_fits
unfolding cells_fit
returns-then-not-cell_fits c = sym (stop_at _ _ (all_fails _ _ c.loop-i.i (search rules) (sym (cell-is (goal.at.returns-then-not-cell_fits c).After-cell_fits) ∙ c.if-not-cell_fits.true)))

pub loop-i-init : goal.loop-i-init
loop-i-init c = (
  all_none _,
  to_z-of_z {w = w64} {z = get_or c.args.carried.now 0 (pos 0)} (sfits_of c.left-1.given),
  balanced_none _ _ _ (search rules) (first_fits (goal.at.loop-i-init c).After-within-balanced),
)

pub carried_fits-balanced-requires-clause-h_le_depth_most : goal.carried_fits-balanced-requires-clause-h_le_depth_most
carried_fits-balanced-requires-clause-h_le_depth_most c =
    let k = cell_sound _ _ _ _ _ (cell_fits_lem (goal.at.carried_fits-balanced-requires-clause-h_le_depth_most c).Else-not-cell_fits) in
    (k.depth, (k.base, search rules))

pub loop-i-preserved : goal.loop-i-preserved
loop-i-preserved c =
    let l = c.loop-i in
    let right = to_z-of_z {w = w64} {z = get_or c.args.carried.now (l.i + 1) (pos 0)} (sfits_of c.right-1.given) in (
      all_more _ l.i l.invariant.0 (cell_fits_lem (goal.at.loop-i-preserved c).Else-not-cell_fits),
      right,
      elim c.if-balanced.branch [
        | then-balanced w ↦ balanced_more _ _ _ l.i (search rules) (l.invariant.2.kept w.if-balanced.true) (w.balanced-is ∙ (rw (l.invariant.1, right) at w.carried_fits-balanced.ensures) ∙ none_drawn_lem _ _ _ _)
        | else-balanced w ↦ balanced_not _ _ _ l.i l.invariant.2 w.if-balanced.false w.balanced-is
      ],
    )

pub returns : goal.returns
returns c =
    let e : c.loop-i.i ≡ length c.args.depth.now = omega arith in
    c.unless.ensures ∙ sym (go_on _ _ (all_fit (goal.at.returns c).After-loop-i) (last_one refusal.Carried _ ∙ ap (pass_or refusal.Carried) (balanced_all _ _ _ _ (rw e at c.loop-i.invariant.2))))
