-- Laws of the water of a step: no depth goes below zero, and a wall passes nothing. Assumes nothing.
use mathlib.Core.Path.{◌≡◌, refl, sym, ap, ap₂, ◌∙◌}
use mathlib.Core.Bool.{Bool, true, false, cond, ◌&&◌}
use mathlib.Core.List.{List}
use mathlib.Core.Logic.{⊎_elim}
use Prim.Native.Nat.{ℕ, zero, suc, ◌+◌, ◌-◌, ◌*◌, ◌≤◌, ◌<◌, min}
use native.Mathlib.Omega.{arith}
use native.Mathlib.Nat.{le_trans}
use native.Mathlib.Numerals.{add-one}
use lib.Dec.{eqb, ltb}
use borrow.Author.Tests.{le-leb, leb-true, leb-false, lt-ltb, le-ltb, eq-eqb, ne_eqb, eqb-true}
use lib.IntN.{ℤ, pos, ◌+ℤ◌, ◌-ℤ◌, neg_ℤ, sub_ℕ, nat_abs}
use lib.ListN.{length, get_or}
use lib.Signed.{le_z, lt_z, le_z_yes}
use Rattle.std.specs.Int.{int_min, int_max}
use Rattle.numbers.specs.Deal.{dealt}
use Rattle.numbers.specs.Index.{all_below, sum, sum_below}
use Rattle.numbers.proofs.DealLaws.{dealt_sum, dealt_most, dealt_all, length_dealt}
use Rattle.numbers.proofs.IndexLaws.{get_or_tabulate, length_tabulate, sum_by_index, sum_same}
use Rattle.outlet.specs.Outlets.{outlet_at, from_cell}
use Rattle.outlet.specs.declared.Outlets.{Outlets}
use Rattle.numbers.specs.Signed.{positive}
use Rattle.numbers.proofs.SearchLaws.{by_test, by_less}
use Rattle.numbers.proofs.SignedLaws.{R, L, right_sub, left_sub, pos_cross, neg_cross, add_cross, minus_cross, from_cross, le_cross, le_z_no, le_z_is, lt_z_true, lt_z_false, one_part, two_parts, pos_sub, sub_add, sub_minus, sub_eq, sub_neg, abs_parts, abs_neg, abs_sub}
use Rattle.flux.specs.Wave.{wave_speed}
use Rattle.flux.specs.Velocity.{velocity}
use Rattle.flux.specs.Crossing.{water_flux, momentum_flux, still_thrust}
use Rattle.flux.specs.Interface.{Side, reduced_depth, left_depth, right_depth, net_water, momentum_sum, mirrored}
use Rattle.flux.specs.Limits.{depth_most, velocity_most}
use Rattle.flux.specs.Ranges.{Mesh}
use Rattle.friction.specs.Friction.{centimetres, table_most, conveyance_squared, drag, slowed, slowed_by}
use Rattle.friction.proofs.FrictionLaws.{in_list}
use Rattle.flux.proofs.CrossingLaws.{still_thrust_mono, still_thrust_most, water_flux_dry, momentum_flux_dry, water_flux_most, momentum_flux_most}
use Rattle.flux.proofs.VelocityLaws.{velocity_dry, velocity_most_lem}
use Rattle.flux.proofs.WaveLaws.{wave_speed_dry}
use Rattle.flux.proofs.InterfaceLaws.{reduced_depth_le, net_water_is, wall_passes_nothing, cell_outflow_le_depth}
use Rattle.reach.specs.Limits.{wall, open_boundary}
use Rattle.reach.specs.declared.boundary.Boundary.{Boundary}
use Rattle.reach.specs.declared.boundary.BoundaryPlace.{BoundaryPlace}
use Rattle.reach.specs.declared.boundary.BoundaryPlace.TheVariants.{Left, Right}
use Rattle.reach.specs.Reach.{Reach, cells, bed_at, depth_at, discharge_at, left_boundary, right_boundary}
use Rattle.water.specs.Sides.{cell_side, boundary_side, side_speed, left_side, right_side}
use Rattle.water.specs.Water.{net_at, momentum_at, own_left, own_right, available, wants_from, draws, draw_of, undrawn_depth, new_depth, pushed, nearest, new_discharge}
use Rattle.water.specs.Fits.{ExchangeFits, flux_most}
use Rattle.water.specs.Ranges.{side_of, ExchangeOf, flow_of, FlowFits, side_meets, sides_meet, granted, granted_depth, granted_discharge, Swept}
use Rattle.water.specs.declared.sides.SideState.{SideState}

-- what either side of interface i sends over it
unfoldable pub rightward : Reach → (t i : ℕ) → ℕ
rightward s t i = water_flux t s.cell_length (left_depth (left_side s i) (right_side s i)) (left_side s i).velocity

unfoldable pub leftward : Reach → (t i : ℕ) → ℕ
leftward s t i = water_flux t s.cell_length (right_depth (left_side s i) (right_side s i)) (neg_ℤ (right_side s i).velocity)

pub net_is : (s : Reach) (t i : ℕ) → net_at s t i ≡ sub_ℕ (rightward s t i) (leftward s t i)
unfolding net_at rightward leftward
net_is s t i = net_water_is t s.cell_length (left_side s i) (right_side s i)

-- cell i is the right side of its left interface and the left side of its right one
pub right_side_cell : (s : Reach) (i : ℕ) → i < cells s → right_side s i ≡ cell_side s i
unfolding right_side
right_side_cell s i l = rw (lt-ltb i (cells s) l) refl

pub left_side_cell : (s : Reach) (i : ℕ) → left_side s (suc i) ≡ cell_side s i
unfolding left_side
left_side_cell s i = refl

-- a cell that meets CFL sends at most its depth over both sides
sent : (s : Reach) (t i : ℕ) → 0 < s.cell_length
    → t * (nat_abs (velocity (depth_at s i) (discharge_at s i)) + wave_speed (depth_at s i)) ≤ 1_000 * s.cell_length
    → water_flux t s.cell_length (left_depth (cell_side s i) (right_side s (suc i))) (cell_side s i).velocity
    + water_flux t s.cell_length (right_depth (left_side s i) (cell_side s i)) (neg_ℤ (cell_side s i).velocity) ≤ (cell_side s i).depth
unfolding cell_side
sent s t i x cfl = cell_outflow_le_depth t s.cell_length (left_side s i) (cell_side s i) (right_side s (suc i)) x cfl

pub outflow_covered : (s : Reach) (t i : ℕ) → i < cells s → 0 < s.cell_length
    → t * (nat_abs (velocity (depth_at s i) (discharge_at s i)) + wave_speed (depth_at s i)) ≤ 1_000 * s.cell_length
    → leftward s t i + rightward s t (suc i) ≤ depth_at s i
unfolding rightward leftward cell_side
outflow_covered s t i l x cfl =
    let e = sent s t i x cfl in
    rw (left_side_cell s i, right_side_cell s i l) (omega arith)

-- ---- outlets: what a cell can give, and what it gives

-- h − r − l by parts
available_parts : (s : Reach) (t i : ℕ) → i < cells s → available s t i ≡ sub_ℕ (depth_at s i) (leftward s t i + rightward s t (suc i))
unfolding available rightward leftward own_left own_right
available_parts s t i l =
    rw (right_side_cell s i l, left_side_cell s i)
    (two_off (depth_at s i) (water_flux t s.cell_length (left_depth (cell_side s i) (right_side s (suc i))) (cell_side s i).velocity)
    (water_flux t s.cell_length (right_depth (left_side s i) (cell_side s i)) (neg_ℤ (cell_side s i).velocity)))
  where
    two_off : (h a b : ℕ) → pos h -ℤ pos a -ℤ pos b ≡ sub_ℕ h (b + a)
    two_off h a b =
        from_cross _ _
        (omega (arith, minus_cross (pos h -ℤ pos a) (pos b), minus_cross (pos h) (pos a), pos_cross h, pos_cross a, pos_cross b, right_sub h (b + a), left_sub h (b + a)))

pub available_positive : (s : Reach) (t i : ℕ) → i < cells s → positive (available s t i) ≡ depth_at s i - (leftward s t i + rightward s t (suc i))
available_positive s t i l = ap positive (available_parts s t i l) ∙ right_sub (depth_at s i) (leftward s t i + rightward s t (suc i))

-- a cell that meets CFL has something to give or nothing, never less
pub available_is : (s : Reach) (t i : ℕ) → i < cells s → 0 < s.cell_length
    → t * (nat_abs (velocity (depth_at s i) (discharge_at s i)) + wave_speed (depth_at s i)) ≤ 1_000 * s.cell_length
    → available s t i ≡ pos (depth_at s i - (leftward s t i + rightward s t (suc i)))
available_is s t i l x cfl =
    available_parts s t i l
    ∙ from_cross _ _
    (omega (
      arith,
      outflow_covered s t i l x cfl,
      right_sub (depth_at s i) (leftward s t i + rightward s t (suc i)),
      left_sub (depth_at s i) (leftward s t i + rightward s t (suc i)),
      pos_cross (depth_at s i - (leftward s t i + rightward s t (suc i))),
    ))

-- what the outlets of a cell have is the lesser of what it can give and what they want
granted_of : (a w : ℕ) (wants : List ℕ) (z : ℤ) → a ≡ positive z → w ≡ sum wants → sum (cond (le_z (pos w) z) wants (dealt a wants)) ≡ min a w
granted_of a w wants z p q =
    by_test (le_z (pos w) z) (λ b. sum (cond b wants (dealt a wants)) ≡ min a w)
    (λ t. let c = le_cross (pos w) z (le_z_yes t) in ⊎_elim (λ o. omega (arith, pos_cross w, c, o, p, q)) (λ o. omega (arith, pos_cross w, c, o, p, q)) (one_part z))
    (λ t. let c = le_cross z (pos w) (le_z_no (pos w) z t) in
    let less : a ≤ w = ⊎_elim (λ o. omega (arith, pos_cross w, c, o, p)) (λ o. omega (arith, pos_cross w, c, o, p)) (one_part z) in
    dealt_sum a wants (λ n. omega (arith, less, q, n)) ∙ omega (arith, less))

pub granted_is : (s : Reach) (t i : ℕ) → sum (draws s t i) ≡ granted s t (sum (wants_from s.held.outlets i)) i
unfolding draws granted
granted_is s t i = granted_of (positive (available s t i)) (sum (wants_from s.held.outlets i)) (wants_from s.held.outlets i) (available s t i) refl refl

-- dealt out by the wants, in both cases
pub draws_dealt : (s : Reach) (t i : ℕ) → draws s t i ≡ dealt (granted s t (sum (wants_from s.held.outlets i)) i) (wants_from s.held.outlets i)
unfolding draws granted
draws_dealt s t i = go (positive (available s t i)) (available s t i) refl
  where
    wants : List ℕ
    wants = wants_from s.held.outlets i

    go : (a : ℕ) (z : ℤ) → a ≡ positive z → cond (le_z (pos (sum wants)) z) wants (dealt a wants) ≡ dealt (min a (sum wants)) wants
    go a z p =
        by_test (le_z (pos (sum wants)) z) (λ b. cond b wants (dealt a wants) ≡ dealt (min a (sum wants)) wants)
        (λ x. let c = le_cross (pos (sum wants)) z (le_z_yes x) in
        let e : min a (sum wants) ≡ sum wants = ⊎_elim (λ o. omega (arith, pos_cross (sum wants), c, o, p)) (λ o. omega (arith, pos_cross (sum wants), c, o, p)) (one_part z) in
        sym (ap (λ (n : ℕ). dealt n wants) e ∙ dealt_all wants))
        (λ x. let c = le_cross z (pos (sum wants)) (le_z_no (pos (sum wants)) z x) in
        let e : min a (sum wants) ≡ a = ⊎_elim (λ o. omega (arith, pos_cross (sum wants), c, o, p)) (λ o. omega (arith, pos_cross (sum wants), c, o, p)) (one_part z) in
        ap (λ (n : ℕ). dealt n wants) (sym e))

pub depth_is : (s : Reach) (t i : ℕ) → new_depth s t i ≡ granted_depth s t (sum (wants_from s.held.outlets i)) i
unfolding new_depth granted_depth
depth_is s t i = rw (granted_is s t i) refl

-- where the depth is in range, so that the list of friction has an entry for it
pub discharge_is : (s : Reach) (t F i : ℕ) → positive (new_depth s t i) ≤ depth_most → new_discharge s t F i ≡ granted_discharge s t F (sum (wants_from s.held.outlets i)) i
unfolding new_discharge granted_discharge
discharge_is s t F i l = rw (← depth_is s t i, ← in_list (positive (new_depth s t i)) l) refl

-- ---- draws by outlet

module _ (s : Reach) (t : ℕ) where
  abbrev os : Outlets
  os = s.held.outlets

  abbrev want_at : ℕ → ℕ → ℕ
  want_at i k = cond (eqb (outlet_at os k).cell i) (outlet_at os k).want 0

  want_at_lem : (i k : ℕ) → k < os.count → get_or (wants_from os i) k 0 ≡ want_at i k
  unfolding from_cell
  want_at_lem i k l = get_or_tabulate os.count (want_at i) k 0 l

  wants_long : (i : ℕ) → length (wants_from os i) ≡ os.count
  unfolding from_cell
  wants_long i = length_tabulate os.count (want_at i)

  draws_long : (i : ℕ) → length (draws s t i) ≡ os.count
  unfolding draws
  draws_long i = go (le_z (pos (sum (wants_from os i))) (available s t i))
    where
      go : (b : Bool) → length (cond b (wants_from os i) (dealt (positive (available s t i)) (wants_from os i))) ≡ os.count
      go true = wants_long i
      go false = length_dealt (positive (available s t i)) (wants_from os i) ∙ wants_long i

  -- no outlet has more than it wants of a cell, so that one of another cell has nothing
  draws_most : (i k : ℕ) → k < os.count → get_or (draws s t i) k 0 ≤ want_at i k
  unfolding draws
  draws_most i k l =
      let wants = wants_from os i in
      let z = available s t i in
      by_test (le_z (pos (sum wants)) z) (λ b. get_or (cond b wants (dealt (positive z) wants)) k 0 ≤ want_at i k)
      (λ x. omega (arith, want_at_lem i k l))
      (λ x. let c = le_cross z (pos (sum wants)) (le_z_no (pos (sum wants)) z x) in
      let less : positive z ≤ sum wants = ⊎_elim (λ o. omega (arith, pos_cross (sum wants), c, o)) (λ o. omega (arith, pos_cross (sum wants), c, o)) (one_part z) in
      omega (arith, want_at_lem i k l, dealt_most (positive z) wants less k (omega (arith, l, wants_long i))))

  -- 'no outlet exceeds its want'
  pub draw_most : (k : ℕ) → k < os.count → draw_of s t k ≤ (outlet_at os k).want
  unfolding draw_of
  draw_most k l =
      let i = (outlet_at os k).cell in
      let own : want_at i k ≡ (outlet_at os k).want = rw (eq-eqb i i refl) refl in
      omega (arith, draws_most i k l, own)

  pub draw_at : (i k : ℕ) → k < os.count → get_or (draws s t i) k 0 ≡ cond (eqb (outlet_at os k).cell i) (draw_of s t k) 0
  unfolding draw_of
  draw_at i k l = go (eqb (outlet_at os k).cell i) refl
    where
      go : (b : Bool) → eqb (outlet_at os k).cell i ≡ b → get_or (draws s t i) k 0 ≡ cond b (get_or (draws s t (outlet_at os k).cell) k 0) 0
      go true e = ap (λ (j : ℕ). get_or (draws s t j) k 0) (sym (eqb-true (outlet_at os k).cell i e))
      go false e = let m = rw e at (draws_most i k l) in omega (arith, m)

  -- what a cell gives is what its outlets have
  pub draws_sum : (i : ℕ) → sum (draws s t i) ≡ sum_below os.count (λ k. cond (eqb (outlet_at os k).cell i) (draw_of s t k) 0)
  draws_sum i =
      sum_by_index (draws s t i)
      ∙ ap (λ (n : ℕ). sum_below n (λ k. get_or (draws s t i) k 0)) (draws_long i)
      ∙ sum_same os.count _ _ (λ k l. draw_at i k l)

sum_of_parts : (h a b c d g : ℕ) → b + c + g ≤ h → pos h +ℤ sub_ℕ a b -ℤ sub_ℕ c d -ℤ pos g ≡ pos (h + a + d - (b + c + g))
sum_of_parts h a b c d g l =
    from_cross _ _
    (omega (
      arith,
      minus_cross (pos h +ℤ sub_ℕ a b -ℤ sub_ℕ c d) (pos g),
      minus_cross (pos h +ℤ sub_ℕ a b) (sub_ℕ c d),
      add_cross (pos h) (sub_ℕ a b),
      pos_cross h,
      pos_cross g,
      right_sub a b,
      left_sub a b,
      right_sub c d,
      left_sub c d,
      pos_cross (h + a + d - (b + c + g)),
    ))

-- what goes out and what is drawn is covered by the depth
pub drawn_covered : (s : Reach) (t i : ℕ) → i < cells s → 0 < s.cell_length
    → t * (nat_abs (velocity (depth_at s i) (discharge_at s i)) + wave_speed (depth_at s i)) ≤ 1_000 * s.cell_length
    → leftward s t i + rightward s t (suc i) + sum (draws s t i) ≤ depth_at s i
unfolding granted
drawn_covered s t i l x cfl = omega (arith, outflow_covered s t i l x cfl, granted_is s t i, available_positive s t i l)

-- h' is a natural number: no depth goes below zero
pub new_depth_is : (s : Reach) (t i : ℕ) → i < cells s → 0 < s.cell_length
    → t * (nat_abs (velocity (depth_at s i) (discharge_at s i)) + wave_speed (depth_at s i)) ≤ 1_000 * s.cell_length
    → new_depth s t i ≡ pos (depth_at s i + rightward s t i + leftward s t (suc i) - (leftward s t i + rightward s t (suc i) + sum (draws s t i)))
unfolding new_depth undrawn_depth
new_depth_is s t i l x cfl =
    rw (net_is s t i, net_is s t (suc i))
    (sum_of_parts (depth_at s i) (rightward s t i) (leftward s t i) (rightward s t (suc i)) (leftward s t (suc i)) (sum (draws s t i)) (drawn_covered s t i l x cfl))

-- over a wall no water comes
pub wall_left : (s : Reach) (t : ℕ) → 0 < cells s → (left_boundary s.held.boundaries).kind ≡ wall → net_at s t 0 ≡ pos 0
unfolding net_at left_side boundary_side
wall_left s t n w = rw (right_side_cell s 0 n, eq-eqb _ _ w) (wall_passes_nothing t s.cell_length (cell_side s 0)).1

last_wall : (s : Reach) (t i : ℕ) → cells s ≡ suc i → (right_boundary s.held.boundaries).kind ≡ wall → net_water t s.cell_length (left_side s (suc i)) (right_side s (suc i)) ≡ pos 0
unfolding left_side right_side boundary_side
last_wall s t i e w =
    let n : cells s - 1 ≡ i = omega arith in
    let l : cells s ≤ suc i = omega arith in
    rw (le-ltb (suc i) (cells s) l, eq-eqb (right_boundary s.held.boundaries).kind wall w, n) (wall_passes_nothing t s.cell_length (cell_side s i)).0

pub wall_right : (s : Reach) (t : ℕ) → 0 < cells s → (right_boundary s.held.boundaries).kind ≡ wall → net_at s t (cells s) ≡ pos 0
unfolding net_at
wall_right s t n w = go (cells s) n refl
  where
    go : (m : ℕ) → 0 < m → cells s ≡ m → net_water t s.cell_length (left_side s m) (right_side s m) ≡ pos 0
    go zero p e = absurd (omega arith)
    go (suc i) p e = last_wall s t i e w

-- ---- q' by what the bed takes of the thrust at either interface

own_left_le : (s : Reach) (i : ℕ) → i < cells s → own_left s i ≤ depth_at s i
unfolding own_left right_depth cell_side
own_left_le s i l = rw (right_side_cell s i l) (reduced_depth_le (depth_at s i) (bed_at s i) (left_side s i).bed)

own_right_le : (s : Reach) (i : ℕ) → own_right s i ≤ depth_at s i
unfolding own_right left_depth cell_side
own_right_le s i = rw (left_side_cell s i) (reduced_depth_le (depth_at s i) (bed_at s i) (right_side s (suc i)).bed)

by_what_is_lost : (q : ℤ) (p r h own-l own-r : ℕ) → own-l ≤ h → own-r ≤ h
    → q +ℤ pos p -ℤ pos r +ℤ pos own-r -ℤ pos own-l ≡ q +ℤ pos (p + (h - own-l)) -ℤ pos (r + (h - own-r))
by_what_is_lost q p r h own-l own-r a b =
    from_cross _ _
    (omega (
      arith,
      a,
      b,
      add_cross q (pos p),
      minus_cross (q +ℤ pos p) (pos r),
      add_cross (q +ℤ pos p -ℤ pos r) (pos own-r),
      minus_cross (q +ℤ pos p -ℤ pos r +ℤ pos own-r) (pos own-l),
      add_cross q (pos (p + (h - own-l))),
      minus_cross (q +ℤ pos (p + (h - own-l))) (pos (r + (h - own-r))),
      pos_cross p,
      pos_cross r,
      pos_cross own-l,
      pos_cross own-r,
      pos_cross (p + (h - own-l)),
      pos_cross (r + (h - own-r)),
    ))

-- the sum gains P and what is lost at the left, and loses P and what is lost at the right
pub pushed_is : (s : Reach) (t i : ℕ) → i < cells s
    → pushed s t i
    ≡ discharge_at s i
    +ℤ pos (momentum_at s t i + (still_thrust t s.cell_length (depth_at s i) - still_thrust t s.cell_length (own_left s i)))
    -ℤ pos (momentum_at s t (suc i) + (still_thrust t s.cell_length (depth_at s i) - still_thrust t s.cell_length (own_right s i)))
unfolding pushed
pushed_is s t i l =
    let X = s.cell_length in
    by_what_is_lost
    (discharge_at s i)
    (momentum_at s t i)
    (momentum_at s t (suc i))
    (still_thrust t X (depth_at s i))
    (still_thrust t X (own_left s i))
    (still_thrust t X (own_right s i))
    (still_thrust_mono t X (own_left s i) (depth_at s i) (own_left_le s i l))
    (still_thrust_mono t X (own_right s i) (depth_at s i) (own_right_le s i))

-- ---- the nearest value lies in the range

-- the least of z and the upper end, and of that and the lower end the greatest
module _ (most : ℕ) (z : ℤ) where
  abbrev high : ℤ
  high = pos most

  abbrev low : ℤ
  low = neg_ℤ (pos most)

  clamped : (a b c d e : Bool) → lt_z high z ≡ a → lt_z high low ≡ b → lt_z z low ≡ c → le_z high z ≡ d → le_z z low ≡ e
      → cond (lt_z (cond (lt_z high z) high z) low) low (cond (lt_z high z) high z) ≡ cond (le_z high z) high (cond (le_z z low) low z)
  clamped true true c d e p q r s t = absurd (omega (arith, lt_z_true high low q, pos_cross most, (neg_cross high).1))
  clamped true false c true e p q r s t = rw (p, q, s) refl
  clamped true false c false e p q r s t = absurd (omega (arith, lt_z_true high z p, leb-false (R high + L z) (R z + L high) (sym (le_z_is high z) ∙ s)))
  clamped false b true true e p q r s t = absurd (omega (arith, lt_z_true z low r, leb-true (R high + L z) (R z + L high) (sym (le_z_is high z) ∙ s), pos_cross most, (neg_cross high).1))
  clamped false b true false true p q r s t = rw (p, r, s, t) refl
  clamped false b true false false p q r s t = absurd (omega (arith, lt_z_true z low r, leb-false (R z + L low) (R low + L z) (sym (le_z_is z low) ∙ t)))
  clamped false b false true e p q r s t = rw (p, r, s) (from_cross z high (omega (arith, lt_z_false high z p, leb-true (R high + L z) (R z + L high) (sym (le_z_is high z) ∙ s))))
  clamped false b false false true p q r s t = rw (p, r, s, t) (from_cross z low (omega (arith, lt_z_false z low r, leb-true (R z + L low) (R low + L z) (sym (le_z_is z low) ∙ t))))
  clamped false b false false false p q r s t = rw (p, r, s, t) refl

  pub nearest_clamped : int_max low (int_min z high) ≡ nearest most z
  unfolding nearest
  nearest_clamped = clamped (lt_z high z) (lt_z high low) (lt_z z low) (le_z high z) (le_z z low) refl refl refl refl refl

pub nearest_within : (most : ℕ) (z : ℤ) → nat_abs (nearest most z) ≤ most
unfolding nearest
nearest_within most z =
    by_test (le_z (pos most) z) (λ b. nat_abs (cond b (pos most) (cond (le_z z (neg_ℤ (pos most))) (neg_ℤ (pos most)) z)) ≤ most)
    (λ t. omega arith)
    (λ t. by_test (le_z z (neg_ℤ (pos most))) (λ b. nat_abs (cond b (neg_ℤ (pos most)) z) ≤ most)
    (λ u. omega (arith, abs_neg (pos most)))
    (λ u. inside (le_cross z (pos most) (le_z_no (pos most) z t)) (le_cross (neg_ℤ (pos most)) z (le_z_no z (neg_ℤ (pos most)) u))))
  where
    inside : R z + L (pos most) ≤ most + L z → R (neg_ℤ (pos most)) + L z ≤ R z + L (neg_ℤ (pos most)) → nat_abs z ≤ most
    inside p q =
        let e = pos_cross most in
        let n = neg_cross (pos most) in
        ⊎_elim (λ o. omega (arith, abs_parts z, n.1)) (λ o. omega (arith, abs_parts z)) (one_part z)

-- by parts: either part of z, and no more of it than `most`
pub nearest_parts : (most : ℕ) (z : ℤ) → nearest most z ≡ sub_ℕ (R z - (R z - most)) (L z - (L z - most))
unfolding nearest
nearest_parts most z =
    by_test (le_z (pos most) z) (λ b. cond b (pos most) (cond (le_z z (neg_ℤ (pos most))) (neg_ℤ (pos most)) z) ≡ sub_ℕ (R z - (R z - most)) (L z - (L z - most)))
    (λ t. above (le_cross (pos most) z (le_z_yes t)))
    (λ t. by_test (le_z z (neg_ℤ (pos most))) (λ b. cond b (neg_ℤ (pos most)) z ≡ sub_ℕ (R z - (R z - most)) (L z - (L z - most)))
    (λ u. beneath (le_cross z (neg_ℤ (pos most)) (le_z_yes u)))
    (λ u. inside (le_cross z (pos most) (le_z_no (pos most) z t)) (le_cross (neg_ℤ (pos most)) z (le_z_no z (neg_ℤ (pos most)) u))))
  where
    e : L (pos most) ≡ 0
    e = pos_cross most

    n : L (neg_ℤ (pos most)) ≡ most
    n = (neg_cross (pos most)).1

    o : R (neg_ℤ (pos most)) ≡ 0
    o = (neg_cross (pos most)).0 ∙ e

    above : most + L z ≤ R z + L (pos most) → pos most ≡ sub_ℕ (R z - (R z - most)) (L z - (L z - most))
    above p =
        pos_sub most
        ∙ sub_eq most 0 (R z - (R z - most)) (L z - (L z - most)) (⊎_elim (λ w. omega (arith, w, p, e)) (λ w. omega (arith, w, p, e)) (one_part z))

    beneath : R z + L (neg_ℤ (pos most)) ≤ R (neg_ℤ (pos most)) + L z → neg_ℤ (pos most) ≡ sub_ℕ (R z - (R z - most)) (L z - (L z - most))
    beneath p =
        ap neg_ℤ (pos_sub most)
        ∙ sub_neg most 0
        ∙ sub_eq 0 most (R z - (R z - most)) (L z - (L z - most)) (⊎_elim (λ w. omega (arith, w, p, n, o)) (λ w. omega (arith, w, p, n, o)) (one_part z))

    inside : R z + L (pos most) ≤ most + L z → R (neg_ℤ (pos most)) + L z ≤ R z + L (neg_ℤ (pos most)) → z ≡ sub_ℕ (R z - (R z - most)) (L z - (L z - most))
    inside p q =
        two_parts z
        ∙ sub_eq (R z) (L z) (R z - (R z - most)) (L z - (L z - most)) (⊎_elim (λ w. omega (arith, w, p, q, e, n, o)) (λ w. omega (arith, w, p, q, e, n, o)) (one_part z))

-- ---- a boundary beside the cell c, by its kind

-- a boundary has the bed of its cell
pub boundary_bed : (p : BoundaryPlace) (e : Boundary) (c : Side) → (boundary_side p e c).bed ≡ c.bed
unfolding boundary_side mirrored
boundary_bed p e c = go (eqb e.kind wall) (eqb e.kind open_boundary)
  where
    go : (a b : Bool) → (cond a (mirrored c) (cond b c (record { bed = c.bed; depth = e.depth; velocity = velocity e.depth e.discharge }))).bed ≡ c.bed
    go true b = refl
    go false true = refl
    go false false = refl

pub boundary_wall : (p : BoundaryPlace) (e : Boundary) (c : Side) → e.kind ≡ wall → boundary_side p e c ≡ mirrored c
unfolding boundary_side
boundary_wall p e c w = rw (eq-eqb _ _ w) refl

pub boundary_open : (p : BoundaryPlace) (e : Boundary) (c : Side) → (e.kind ≡ wall → ⊥) → e.kind ≡ open_boundary → boundary_side p e c ≡ c
unfolding boundary_side
boundary_open p e c w o = rw (ne_eqb _ _ w, eq-eqb _ _ o) refl

pub boundary_fed : (p : BoundaryPlace) (e : Boundary) (c : Side) → (e.kind ≡ wall → ⊥) → (e.kind ≡ open_boundary → ⊥)
    → boundary_side p e c ≡ record { bed = c.bed; depth = e.depth; velocity = velocity e.depth e.discharge }
unfolding boundary_side
boundary_fed p e c w o = rw (ne_eqb _ _ w, ne_eqb _ _ o) refl

-- ---- amounts of a crossing are small

side_velocity : (c : SideState) → nat_abs (side_of c).velocity ≤ velocity_most
side_velocity c =
    let r = c.fits.right_most in
    let l = c.fits.left_most in
    omega (arith, abs_sub c.right c.left)

pub crossing_fits : {t X a b p d e : ℕ} (l r : SideState) → Mesh t X → ExchangeOf t X (side_of l) (side_of r) a b p d e → ExchangeFits a b p d e
unfolding momentum_sum left_depth right_depth
crossing_fits {t} {X} l r g k =
    let ul = sub_ℕ l.right l.left in
    let ur = sub_ℕ r.right r.left in
    let hl = reduced_depth l.depth l.bed r.bed in
    let hr = reduced_depth r.depth r.bed l.bed in
    let dl : hl ≤ depth_most = le_trans (reduced_depth_le l.depth l.bed r.bed) l.fits.depth in
    let dr : hr ≤ depth_most = le_trans (reduced_depth_le r.depth r.bed l.bed) r.fits.depth in
    let vl = side_velocity l in
    let vr : nat_abs (neg_ℤ ur) ≤ velocity_most = omega (arith, abs_neg ur, side_velocity r) in
    record {
      rightward_most = omega (arith, k.rightward_is, water_flux_most t X hl ul g dl vl);
      leftward_most = omega (arith, k.leftward_is, water_flux_most t X hr (neg_ℤ ur) g dr vr);
      momentum_most = omega (arith, k.momentum_is, momentum_flux_most t X hl ul g dl vl, momentum_flux_most t X hr (neg_ℤ ur) g dr vr);
      lost_left_most = omega (arith, k.lost_left_is, still_thrust_most t X l.depth g l.fits.depth);
      lost_right_most = omega (arith, k.lost_right_is, still_thrust_most t X r.depth g r.fits.depth);
    }

-- 0 alone lies in the range of no depth
pub nearest_dry : (h : ℕ) (z : ℤ) → h ≡ 0 → nearest (velocity_most * h) z ≡ pos 0
nearest_dry h z e =
    nearest_parts (velocity_most * h) z
    ∙ sub_eq (R z - (R z - velocity_most * h)) (L z - (L z - velocity_most * h)) 0 0 (omega (arith, e))
    ∙ sym (pos_sub 0)

-- between two dry sides nothing crosses
pub dry_exchange : (t X : ℕ) (l r : Side) → l.depth ≡ 0 → r.depth ≡ 0 → ExchangeOf t X l r 0 0 0 0 0
unfolding left_depth right_depth momentum_sum
dry_exchange t X l r dl dr =
    let hl : reduced_depth l.depth l.bed r.bed ≡ 0 = omega (arith, reduced_depth_le l.depth l.bed r.bed, dl) in
    let hr : reduced_depth r.depth r.bed l.bed ≡ 0 = omega (arith, reduced_depth_le r.depth r.bed l.bed, dr) in
    let water : (h : ℕ) (u : ℤ) → h ≡ 0 → water_flux t X h u ≡ 0 = λ h u e. ap (λ (h : ℕ). water_flux t X h u) e ∙ water_flux_dry t X u in
    let push : (h : ℕ) (u : ℤ) → h ≡ 0 → momentum_flux t X h u ≡ 0 = λ h u e. ap (λ (h : ℕ). momentum_flux t X h u) e ∙ momentum_flux_dry t X u in
    record {
      rightward_is = sym (water _ l.velocity hl);
      leftward_is = sym (water _ (neg_ℤ r.velocity) hr);
      momentum_is = omega (arith, push _ l.velocity hl, push _ (neg_ℤ r.velocity) hr);
      lost_left_is = omega (arith, ap (λ (h : ℕ). still_thrust t X h) (dl ∙ sym hl));
      lost_right_is = omega (arith, ap (λ (h : ℕ). still_thrust t X h) (dr ∙ sym hr));
    }

-- ---- what the sweep carries from an interface to the next

pub exchange_at : {t X a b p d e : ℕ} {l r l' r' : Side} → l ≡ l' → r ≡ r' → ExchangeOf t X l r a b p d e → ExchangeOf t X l' r' a b p d e
exchange_at e f k = rw (← e, ← f) k

pub left_side_next : (s : Reach) (i : ℕ) → left_side s (i + 1) ≡ cell_side s i
left_side_next s i = rw (add-one i) (left_side_cell s i)

-- the right side of the next interface: the next cell, or the right boundary beside this one
pub right_side_next : (s : Reach) (i : ℕ) (c : Side) → i < cells s → c ≡ cell_side s i
    → cond (ltb (i + 1) (cells s)) (cell_side s (i + 1)) (boundary_side Right (right_boundary s.held.boundaries) c) ≡ right_side s (i + 1)
unfolding right_side
right_side_next s i c l e =
    by_less (i + 1) (cells s) (λ b. cond b (cell_side s (i + 1)) (boundary_side Right (right_boundary s.held.boundaries) c) ≡ cond b (cell_side s (i + 1)) (boundary_side Right (right_boundary s.held.boundaries) (cell_side s (cells s - 1))))
    (λ k. refl)
    (λ k. let n : i ≡ cells s - 1 = omega arith in ap (boundary_side Right (right_boundary s.held.boundaries)) (e ∙ ap (cell_side s) n))

module _ (s : Reach) (t : ℕ) where
  pub net_by_crossing : (i : ℕ) {a b p d e : ℕ} → ExchangeOf t s.cell_length (left_side s i) (right_side s i) a b p d e → net_at s t i ≡ sub_ℕ a b
  unfolding rightward leftward
  net_by_crossing i k = net_is s t i ∙ sym (ap₂ sub_ℕ k.rightward_is k.leftward_is)

  module _ (i : ℕ) {a b p d e a' b' p' d' e' : ℕ} (l : i < cells s)
      (k : ExchangeOf t s.cell_length (left_side s i) (right_side s i) a b p d e)
      (k' : ExchangeOf t s.cell_length (left_side s (i + 1)) (right_side s (i + 1)) a' b' p' d' e') where
    pub grant_by_crossings : (w : ℕ) → granted s t w i ≡ min (depth_at s i - (b + a')) w
    unfolding granted leftward rightward
    grant_by_crossings w =
        let r : a' ≡ rightward s t (suc i) = rw (add-one i) at k'.rightward_is in
        ap (λ (x : ℕ). min x w) (available_positive s t i l ∙ sym (ap₂ (λ (x y : ℕ). depth_at s i - (x + y)) k.leftward_is r))

    pub depth_by_crossings : (w : ℕ) → positive (granted_depth s t w i) ≡ depth_at s i + a + b' - (b + a' + min (depth_at s i - (b + a')) w)
    unfolding granted_depth undrawn_depth
    depth_by_crossings w =
        let n : net_at s t (suc i) ≡ sub_ℕ a' b' = rw (add-one i) at (net_by_crossing (i + 1) k') in
        let g = min (depth_at s i - (b + a')) w in
        rw (grant_by_crossings w, net_by_crossing i k, n, pos_sub (depth_at s i), sub_add (depth_at s i) 0 a b, sub_minus (depth_at s i + a) (0 + b) a' b', pos_sub g, sub_minus (depth_at s i + a + b') (0 + b + a') g 0)
        (omega (arith, right_sub (depth_at s i + a + b' + 0) (0 + b + a' + g)))

    lost_left : e ≡ still_thrust t s.cell_length (depth_at s i) - still_thrust t s.cell_length (own_left s i)
    unfolding own_left cell_side
    lost_left =
        k.lost_right_is
        ∙ ap (λ (c : Side). still_thrust t s.cell_length c.depth - still_thrust t s.cell_length (right_depth (left_side s i) (right_side s i))) (right_side_cell s i l)

    lost_right : d' ≡ still_thrust t s.cell_length (depth_at s i) - still_thrust t s.cell_length (own_right s i)
    unfolding own_right cell_side left_side
    lost_right = rw (add-one i) at k'.lost_left_is

    pub discharge_by_crossings : (F w D : ℕ) →
        let h = depth_at s i + a + b' - (b + a' + min (depth_at s i - (b + a')) w) in
        D ≡ conveyance_squared F (min (centimetres h) table_most)
        → granted_discharge s t F w i ≡ nearest (velocity_most * h) (slowed_by F D (drag t (nat_abs (cell_side s i).velocity)) (discharge_at s i +ℤ pos (p + e) -ℤ pos (p' + d')))
    unfolding granted_discharge momentum_at slowed
    discharge_by_crossings F w D c =
        let m : p' ≡ momentum_at s t (suc i) = rw (add-one i) at k'.momentum_is in
        rw (c, pushed_is s t i l, depth_by_crossings w, ← lost_left, ← lost_right, ← m, ← k.momentum_is) refl

-- ---- a dry cell between dry sides

-- what crosses between two dry sides crosses between any two
pub dry_same : {t X a b p d e : ℕ} (l r l' r' : Side) → ExchangeOf t X l r a b p d e → (l.depth ≡ 0) × (r.depth ≡ 0) → (l'.depth ≡ 0) × (r'.depth ≡ 0)
    → ExchangeOf t X l' r' a b p d e
dry_same l r l' r' k z z' =
    let o = dry_exchange _ _ l r z.0 z.1 in
    let o' = dry_exchange _ _ l' r' z'.0 z'.1 in
    record {
      rightward_is = k.rightward_is ∙ sym o.rightward_is ∙ o'.rightward_is;
      leftward_is = k.leftward_is ∙ sym o.leftward_is ∙ o'.leftward_is;
      momentum_is = k.momentum_is ∙ sym o.momentum_is ∙ o'.momentum_is;
      lost_left_is = k.lost_left_is ∙ sym o.lost_left_is ∙ o'.lost_left_is;
      lost_right_is = k.lost_right_is ∙ sym o.lost_right_is ∙ o'.lost_right_is;
    }

-- dry water has no velocity
abbrev Still : Side → Type 0
Still c = c.depth ≡ 0 → nat_abs c.velocity ≡ 0

still_at_lem : (z : ℤ) (h : ℕ) (q : ℤ) → Still (record { bed = z; depth = h; velocity = velocity h q })
still_at_lem z h q e = rw (e, velocity_dry q) refl

still_cell : (s : Reach) (i : ℕ) → Still (cell_side s i)
unfolding cell_side
still_cell s i = still_at_lem (bed_at s i) (depth_at s i) (discharge_at s i)

still_boundary : (p : BoundaryPlace) (e : Boundary) (c : Side) → Still c → Still (boundary_side p e c)
unfolding boundary_side mirrored
still_boundary p e c f = go (eqb e.kind wall) (eqb e.kind open_boundary)
  where
    go : (a b : Bool) → Still (cond a (mirrored c) (cond b c (record { bed = c.bed; depth = e.depth; velocity = velocity e.depth e.discharge })))
    go true b = λ d. abs_neg c.velocity ∙ f d
    go false true = f
    go false false = still_at_lem c.bed e.depth e.discharge

still_right : (s : Reach) (i : ℕ) → Still (right_side s i)
unfolding right_side
still_right s i =
    by_less i (cells s) (λ b. Still (cond b (cell_side s i) (boundary_side Right (right_boundary s.held.boundaries) (cell_side s (cells s - 1)))))
    (λ l. still_cell s i)
    (λ l. still_boundary Right (right_boundary s.held.boundaries) (cell_side s (cells s - 1)) (still_cell s (cells s - 1)))

-- and meets CFL
pub dry_meets : (s : Reach) (t X i : ℕ) → (right_side s i).depth ≡ 0 → side_meets t X (right_side s i) ≡ true
unfolding side_meets side_speed
dry_meets s t X i e = rw (still_right s i e, e, wave_speed_dry) (le-leb (t * (0 + 0)) (1_000 * X) (omega arith))

module _ (s : Reach) (t i : ℕ) (l : i < cells s) (left : (left_side s i).depth ≡ 0) (here : (right_side s i).depth ≡ 0) (right : (right_side s (i + 1)).depth ≡ 0) where
  no_depth : depth_at s i ≡ 0
  unfolding cell_side
  no_depth = sym (ap (λ (c : Side). c.depth) (right_side_cell s i l)) ∙ here

  before : ExchangeOf t s.cell_length (left_side s i) (right_side s i) 0 0 0 0 0
  before = dry_exchange t s.cell_length (left_side s i) (right_side s i) left here

  behind : ExchangeOf t s.cell_length (left_side s (i + 1)) (right_side s (i + 1)) 0 0 0 0 0
  unfolding cell_side
  behind = dry_exchange t s.cell_length (left_side s (i + 1)) (right_side s (i + 1)) (ap (λ (c : Side). c.depth) (left_side_next s i) ∙ no_depth) right

  pub dry_net : net_at s t (i + 1) ≡ pos 0
  dry_net = net_by_crossing s t (i + 1) behind ∙ sym (pos_sub 0)

  pub dry_granted : (w : ℕ) → granted s t w i ≡ 0
  dry_granted w = grant_by_crossings s t i l before behind w ∙ omega (arith, no_depth)

  pub dry_depth : (w : ℕ) → positive (granted_depth s t w i) ≡ 0
  dry_depth w = depth_by_crossings s t i l before behind w ∙ omega (arith, no_depth)

  pub dry_discharge : (F w : ℕ) → granted_discharge s t F w i ≡ pos 0
  unfolding granted_discharge
  dry_discharge F w = nearest_dry (positive (granted_depth s t w i)) _ (dry_depth w)

-- CFL at one side more
pub meets_more : (first : Bool) (f : ℕ → Bool) (i : ℕ) → ((first && all_below (i + 1) f) && f (i + 1)) ≡ (first && all_below (i + 1 + 1) f)
unfolding all_below
meets_more true f i = rw (add-one (i + 1)) refl
meets_more false f i = refl

pub right_side_end : (s : Reach) → right_side s (cells s) ≡ boundary_side Right (right_boundary s.held.boundaries) (cell_side s (cells s - 1))
unfolding right_side
right_side_end s = rw (le-ltb (cells s) (cells s) (omega arith)) refl

-- ---- N is small

-- a side in range
pub record SideFits (s : Side) : Type 0 where
  pub depth : s.depth ≤ depth_most
  pub velocity : nat_abs s.velocity ≤ velocity_most

pub boundary_side_fits : (p : BoundaryPlace) (e : Boundary) (c : Side) → (e.depth ≤ depth_most) × (nat_abs e.discharge ≤ velocity_most * e.depth) → SideFits c → SideFits (boundary_side p e c)
unfolding boundary_side mirrored
boundary_side_fits p e c r f = go (eqb e.kind wall) (eqb e.kind open_boundary)
  where
    go : (w o : Bool) → SideFits (cond w (mirrored c) (cond o c (record { bed = c.bed; depth = e.depth; velocity = velocity e.depth e.discharge })))
    go true o = record { depth = f.depth; velocity = omega (arith, abs_neg c.velocity, f.velocity) }
    go false true = f
    go false false = record { depth = r.0; velocity = velocity_most_lem velocity_most e.depth e.discharge r.1 }

module _ (s : Reach) (f : FlowFits s) where
  cell_side_fits : (i : ℕ) → i < cells s → SideFits (cell_side s i)
  unfolding cell_side
  cell_side_fits i l = let r = f.cell i l in record { depth = r.1.0; velocity = velocity_most_lem velocity_most (depth_at s i) (discharge_at s i) r.1.1 }

  left_side_fits : (i : ℕ) → i ≤ cells s → SideFits (left_side s i)
  unfolding left_side
  left_side_fits zero l = boundary_side_fits Left (left_boundary s.held.boundaries) (cell_side s 0) f.left (cell_side_fits 0 f.some)
  left_side_fits (suc i) l = cell_side_fits i l

  right_side_fits : (i : ℕ) → i ≤ cells s → SideFits (right_side s i)
  unfolding right_side
  right_side_fits i l =
      by_less i (cells s) (λ b. SideFits (cond b (cell_side s i) (boundary_side Right (right_boundary s.held.boundaries) (cell_side s (cells s - 1)))))
      (λ k. cell_side_fits i k)
      (λ k. boundary_side_fits Right (right_boundary s.held.boundaries) (cell_side s (cells s - 1)) f.right (cell_side_fits (cells s - 1) (let n = f.some in omega arith)))

  pub net_small : (t i : ℕ) → Mesh t s.cell_length → i ≤ cells s → nat_abs (net_at s t i) ≤ flux_most
  unfolding rightward leftward left_depth right_depth
  net_small t i g l =
      let a = left_side_fits i l in
      let b = right_side_fits i l in
      let u = (left_side s i).velocity in
      let v = (right_side s i).velocity in
      let hl = left_depth (left_side s i) (right_side s i) in
      let hr = right_depth (left_side s i) (right_side s i) in
      let dl : hl ≤ depth_most = le_trans (reduced_depth_le (left_side s i).depth (left_side s i).bed (right_side s i).bed) a.depth in
      let dr : hr ≤ depth_most = le_trans (reduced_depth_le (right_side s i).depth (right_side s i).bed (left_side s i).bed) b.depth in
      let vr : nat_abs (neg_ℤ v) ≤ velocity_most = omega (arith, abs_neg v, b.velocity) in
      let r = water_flux_most t s.cell_length hl u g dl a.velocity in
      let w = water_flux_most t s.cell_length hr (neg_ℤ v) g dr vr in
      rw (net_is s t i) (omega (arith, abs_sub (rightward s t i) (leftward s t i), r, w))

-- ---- what a record holds besides its water does not matter

module _ (s : Reach) (t : ℕ) where
  abbrev flow : Reach
  flow = flow_of s.bed s.depth s.discharge s.cell_length s.held.boundaries

  pub sides_same : sides_meet flow t ≡ sides_meet s t
  unfolding sides_meet left_side right_side cell_side
  sides_same = refl

  left_same : (i : ℕ) → left_side flow i ≡ left_side s i
  unfolding left_side cell_side
  left_same zero = refl
  left_same (suc i) = refl

  right_same : (i : ℕ) → right_side flow i ≡ right_side s i
  unfolding right_side cell_side
  right_same i = refl

  net_same : (i : ℕ) → net_at flow t i ≡ net_at s t i
  unfolding net_at
  net_same i = rw (left_same i, right_same i) refl

  pushed_same : (i : ℕ) → pushed flow t i ≡ pushed s t i
  unfolding pushed momentum_at own_left own_right
  pushed_same i = rw (left_same i, left_same (suc i), right_same i, right_same (suc i)) refl

  available_same : (i : ℕ) → available flow t i ≡ available s t i
  unfolding available own_left own_right cell_side
  available_same i = rw (left_same i, left_same (suc i), right_same i, right_same (suc i)) refl

  granted_same : (w i : ℕ) → granted flow t w i ≡ granted s t w i
  unfolding granted
  granted_same w i = rw (available_same i) refl

  depth_same : (w i : ℕ) → granted_depth flow t w i ≡ granted_depth s t w i
  unfolding granted_depth undrawn_depth
  depth_same w i = rw (granted_same w i, net_same i, net_same (suc i)) refl

  discharge_same : (F w i : ℕ) → granted_discharge flow t F w i ≡ granted_discharge s t F w i
  unfolding granted_discharge cell_side
  discharge_same F w i = rw (depth_same w i, pushed_same i) refl

  pub swept_same : (F : ℕ) (wanted : List ℕ) (net : List ℤ) (given depth : List ℕ) (discharge : List ℤ) → Swept flow t F wanted net given depth discharge → Swept s t F wanted net given depth discharge
  swept_same F wanted net given depth discharge k = record {
    nets = λ i l. k.nets i l ∙ net_same i;
    grants = λ i l. k.grants i l ∙ granted_same (get_or wanted i 0) i;
    depths = λ i l. k.depths i l ∙ ap positive (depth_same (get_or wanted i 0) i);
    discharges = λ i l. k.discharges i l ∙ discharge_same F (get_or wanted i 0) i;
  }
