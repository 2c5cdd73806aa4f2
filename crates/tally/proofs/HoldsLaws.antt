-- What `Holds` says, with its words unfolded into sums over columns and totals, and into inequalities of single cells: for those who use it.
use mathlib.Core.Path.{◌≡◌, refl, ap, subst}
use mathlib.Core.Bool.{true}
use mathlib.Core.List.{List, [], ◌∷◌, ◌++◌}
use Prim.Native.Nat.{ℕ, ◌+◌, ◌≤◌, ◌<◌}
use lib.IntN.{ℤ, pos, ◌*ℤ◌}
use lib.Signed.{le_z, ◌≤ℤ◌}
use Rattle.numbers.specs.Index.{sum, sum_below}
use Rattle.outlet.specs.Outlets.{outlet_at}
use Rattle.outlet.specs.declared.Outlets.{Outlets}
use Rattle.reach.specs.Reach.{Reach, cells, mass_at, base_at, left_boundary, right_boundary}
use Rattle.reach.specs.Balance.{water_held, total_water_in, total_water_out, outlet_water, mass_held, total_mass_in, total_mass_out, outlet_mass, everywhere, CellsWithin}
use Rattle.reach.specs.declared.boundary.Boundary.{Boundary}
use Rattle.reach.proofs.BalanceLaws.{boundary_within}
use Rattle.update.specs.Step.{step}
use Rattle.water.specs.Water.{available, draw_of, new_depth}
use Rattle.tally.specs.Call.{Free, Entry, step_call, with_wants}
use Rattle.tally.specs.Tally.{Tally, AcceptedStep, if_accepted, take_wants, count_step, count, run}
use Rattle.tally.specs.Holds.{Each, DepthsFromZero, WithinWants, AvailableFromZero, Accounts, Holds}

module _ {T : Tally} {s : Reach} (h : Holds T s) where
  pub water_held_lem : sum s.depth + (s.held.ledger.left.water_out + s.held.ledger.right.water_out + sum_below s.held.outlets.count (λ k. (outlet_at s.held.outlets k).water))
      ≡ sum T.initial.depth + (s.held.ledger.left.water_in + s.held.ledger.right.water_in)
  unfolding Accounts water_held total_water_in total_water_out outlet_water
  water_held_lem = rw (h.ledger, h.outlets) h.water

  pub mass_held_lem : sum s.mass + (s.held.ledger.left.mass_out + s.held.ledger.right.mass_out + sum_below s.held.outlets.count (λ k. (outlet_at s.held.outlets k).mass))
      ≡ sum T.initial.mass + (s.held.ledger.left.mass_in + s.held.ledger.right.mass_in)
  unfolding Accounts mass_held total_mass_in total_mass_out outlet_mass
  mass_held_lem = rw (h.ledger, h.outlets) h.mass

  -- the list of the record and that of the tally, entry by entry
  pub count_held : s.held.outlets.count ≡ T.outlets.count
  count_held = ap (λ (os : Outlets). os.count) h.outlets

  pub outlet_held : (k : ℕ) →
      let o = outlet_at s.held.outlets k in
      let o' = outlet_at T.outlets k in
      (o.cell ≡ o'.cell) × (o.want ≡ o'.want) × (o.drawn ≡ o'.drawn) × (o.water ≡ o'.water) × (o.mass ≡ o'.mass)
  outlet_held k = rw h.outlets (refl, refl, refl, refl, refl)

-- each of a list, by a law of each
each_by : {A : Type 0} {P Q : A → Type 0} → ((x : A) → P x → Q x) → (xs : List A) → Each P xs → Each Q xs
unfolding Each
each_by f [] p = tt
each_by f (x ∷ xs) p = (f x p.0, each_by f xs p.1)

-- what bounds a boundary: a wall is exempt
abbrev pub Exempt : ℤ → ℤ → Boundary → Type 0
Exempt lo hi e = (e.kind ≡ 0 → ⊥) → (lo ≤ℤ pos e.concentration) × (pos e.concentration ≤ℤ hi)

abbrev pub BothExempt : ℤ → ℤ → List Boundary → Type 0
BothExempt lo hi es = Exempt lo hi (left_boundary es) × Exempt lo hi (right_boundary es)

abbrev pub Bounded : ℤ → ℤ → Reach → Type 0
Bounded lo hi s = (i : ℕ) → i < cells s → ((lo *ℤ pos (base_at s i)) ≤ℤ pos (mass_at s i)) × (pos (mass_at s i) ≤ℤ (hi *ℤ pos (base_at s i)))

pub bounds_held : {T : Tally} {s : Reach} → Holds T s → (lo hi : ℤ) → Bounded lo hi T.initial → Each (BothExempt lo hi) T.held → Bounded lo hi s
bounds_held {T} {s} h lo hi opened held i l =
    let w : CellsWithin (everywhere lo) (everywhere hi) s
    = h.bounds lo hi (record { above = λ i l. (opened i l).0; below = λ i l. (opened i l).1 })
    (each_by (λ es b. record { left = boundary_within lo hi (left_boundary es) b.0; right = boundary_within lo hi (right_boundary es) b.1 }) T.held held) in
    (w.above i l, w.below i l)

-- ---- an accepted step at the end of a list

run_then : (T : Tally) (es : List Entry) (e : Entry) → run T (es ++ (e ∷ [])) ≡ count (run T es) e.free e.call
unfolding run
run_then T [] e = refl
run_then T (d ∷ es) e = run_then (count T d.free d.call) es e

-- what is said of each accepted step is said of it, the latest of them: of the record with the wants of its call
latest : (P : AcceptedStep → Type 0) (T : Tally) (es : List Entry) (f : Free) (t F : ℕ) → Each P (run T (es ++ (record { free = f; call = step_call t F } ∷ []))).steps
    → (step (with_wants f.wants (run T es).own) t F).refusal ≡ 0 → P (record { before = with_wants f.wants (run T es).own; time = t })
unfolding count if_accepted take_wants count_step Each
latest P T es f t F h z =
    let d : Each P (count (run T es) f (step_call t F)).steps = subst (λ (U : Tally). Each P U.steps) (run_then T es _) h in
    (rw z at d).0

module _ (T : Tally) (es : List Entry) (f : Free) (t F : ℕ) {s' : Reach} (h : Holds (run T (es ++ (record { free = f; call = step_call t F } ∷ []))) s')
    (z : (step (with_wants f.wants (run T es).own) t F).refusal ≡ 0) where
  -- the record that it was given
  abbrev before : Reach
  before = with_wants f.wants (run T es).own

  -- its formula for h' gives no less than 0 in any cell
  pub latest_depths : (i : ℕ) → i < cells before → le_z (pos 0) (new_depth before t i) ≡ true
  unfolding DepthsFromZero
  latest_depths = latest DepthsFromZero T es f t F h.depths z

  -- nor is what a cell can give less
  pub latest_available : (i : ℕ) → i < cells before → le_z (pos 0) (available before t i) ≡ true
  unfolding AvailableFromZero
  latest_available = latest AvailableFromZero T es f t F h.available z

  -- no outlet has more than it wants at the call
  pub latest_wanted : (k : ℕ) → k < before.held.outlets.count → draw_of before t k ≤ (outlet_at before.held.outlets k).want
  unfolding WithinWants
  latest_wanted = latest WithinWants T es f t F h.wanted z
