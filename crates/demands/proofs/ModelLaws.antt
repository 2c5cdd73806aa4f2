-- Document 01's sentences about amounts and calls, from the laws of the definitions.
use mathlib.Core.Path.{◌≡◌, refl, sym, ap, ◌∙◌, subst}
use mathlib.Core.Bool.{Bool, true, false, cond, ◌&&◌}
use mathlib.Core.List.{List, []}
use mathlib.Core.Logic.{⊎_elim}
use Prim.Native.Nat.{ℕ, zero, suc, ◌+◌, ◌-◌, ◌*◌, ◌/◌, ◌≤◌, ◌<◌, min}
use native.Mathlib.Nat.{add-zero, eq-or-lt_of_le, le_antisymm, le_of_lt, le_of_suc-le-suc, lt_of_not-le, mul-le-mul, mul-le-mul_left}
use native.Mathlib.Omega.{arith}
use borrow.Author.Tests.{le-leb, leb-true, eqb-true, eqb-false}
use lib.Dec.{leb, ltb, eqb}
use lib.IntN.{ℤ, pos, neg_ℤ, ◌+ℤ◌, ◌-ℤ◌}
use lib.ListN.{length, get_or}
use Rattle.numbers.specs.Index.{all_of, all_below, sum_below, sum, tabulate}
use Rattle.numbers.specs.Deal.{floors, units_left, weighing_below}
use Rattle.numbers.specs.Shares.{share}
use Rattle.numbers.specs.Signed.{positive}
use Rattle.numbers.proofs.IndexLaws.{all_at, all_below_lem, all_same, length_tabulate, get_or_tabulate, sum_same, sum_tabulate}
use Rattle.numbers.proofs.DealLaws.{floors_tabulate, dealt_at}
use Rattle.numbers.proofs.SignedLaws.{positive_larger, from_cross, minus_cross, pos_cross}
use Rattle.numbers.proofs.RootLaws.{square_lt}
use Rattle.flux.specs.Wave.{wave_speed}
use Rattle.flux.proofs.WaveLaws.{wave_speed_meets, wave_speed_least}
use Rattle.flux.specs.Crossing.{upper, lower}
use Rattle.flux.proofs.CrossingLaws.{lower_le_upper, water_flux_dry, momentum_flux_dry, still_thrust_dry}
use Rattle.cfl.specs.Cfl.{signal_speed, meets_cfl}
use Rattle.cfl.proofs.CflLaws.{fastest_within, fastest_greatest, fastest_highest, greatest_step_meets, greatest_step_greatest}
use Rattle.outlet.specs.Outlets.{outlet_at, from_cell, each_outlet}
use Rattle.outlet.specs.declared.Outlets.{Outlets}
use Rattle.reach.specs.Reach.{Reach, cells, mass_at, base_at, carried_at, left_boundary, right_boundary}
use Rattle.reach.specs.Grounds.{first_refusal, number_of, boundaries_fit, carried_fits, record_grounds}
use Rattle.reach.proofs.OutletLaws.{none_fit, none_total}
use Rattle.reach.specs.Outcome.{Outcome}
use Rattle.reach.specs.Parts.{outflow, drawn_from}
use Rattle.reach.specs.declared.boundary.Boundary.{Boundary}
use Rattle.reach.specs.declared.boundary.BoundaryPlace.TheVariants.{Left, Right}
use Rattle.reach.specs.Grounds.{Verdict}
use Rattle.reach.proofs.PartsLaws.{outflow_is}
use Rattle.reach.proofs.Sound.{Sound, sound}
use Rattle.mass.specs.Transport.{rightwards, leftwards, outlet_share}
use Rattle.mass.proofs.TransportLaws.{right_share_floor, left_share_floor, outlet_share_at}
use Rattle.transport.specs.Calls.{mass_columns_of, after_transport}
use Rattle.transport.proofs.CallsLaws.{emptied_at, by_transport, stands_again, transport_is, left_by_setting, left_by_transport}
use Rattle.timestep.specs.GreatestStep.{left_speed, right_speed, place_speed, greatest_time, greatest_place}
use Rattle.timestep.specs.declared.GreatestAnswer.{GreatestAnswer}
use Rattle.timestep.proofs.GreatestLaws.{time_in_range, place_left, place_cell, place_right, boundary_fed, speed_other, dry_reach}
use Rattle.water.specs.Water.{available, wants_from, draws, draw_of, new_depth, undrawn_depth}
use Rattle.water.specs.Sides.{cell_side}
use Rattle.water.specs.Ranges.{granted}
use Rattle.water.proofs.WaterLaws.{granted_is, draws_dealt, draw_most}
use Rattle.update.specs.Step.{summed, summed_drawn, keeps_sums, transported_first, step_outlets, step_held, after_step, step}
use Rattle.update.proofs.StepLaws.{by_step, step_stands_again}
use Rattle.stepping.proofs.StepCallLaws.{left_by_step}
use Rattle.sheet.proofs.OpeningLaws.{opened_stands, left_by_opening}
use Rattle.writing.specs.Writing.{none_drawn}
use Rattle.jemmyfern_c.proofs.Functions.{given}
use Rattle.demands.specs.Demand1.{First}
use Rattle.demands.specs.Model.{Amounts, Drawing, WithNoOutlet, NoGrainKept, PlaceSpeeds, Fastest, GreatestStep, OneFastest, UnroundedCflAt, UnroundedCfl, NotTooLong, Stands, StandsAgain}
use Rattle.demands.proofs.Demand1Laws.{first}
use Rattle.demands.proofs.Demand2Laws.{transported_count, lent_by, greatest_stood, greatest_is}
use Rattle.std.specs.Prelude.{Ok}

pub amounts : Amounts
unfolding upper lower
amounts = record {
  wave_meets = λ h. omega (arith, wave_speed_meets h);
  wave_least = λ h a l. omega (arith, wave_speed_least h a l);
  upper_larger = λ a u. positive_larger (u +ℤ pos a);
  lower_larger = λ a u. positive_larger (u -ℤ pos a);
  water_dry = water_flux_dry;
  momentum_dry = momentum_flux_dry;
  thrust_dry = still_thrust_dry;
  none_cut_off = lower_le_upper;
  right_share_lem = λ s i. right_share_floor (mass_columns_of s) i;
  left_share_lem = λ s i. left_share_floor (mass_columns_of s) i;
}

-- an entry of what is drawn of a cell
drawn_at : (os : Outlets) (i k : ℕ) → k < os.count → get_or (drawn_from os i) k 0 ≡ cond (eqb (outlet_at os k).cell i) (outlet_at os k).drawn 0
unfolding from_cell
drawn_at os i k l = get_or_tabulate os.count (λ j. cond (eqb (outlet_at os j).cell i) (outlet_at os j).drawn 0) k 0 l

share_of : (s : Reach) (i k : ℕ) → k < s.held.outlets.count →
    let D = positive (carried_at s (i + 1)) + positive (neg_ℤ (carried_at s i)) + sum_below k (λ j. get_or (drawn_from s.held.outlets i) j 0) in
    outlet_share (mass_columns_of s) i k ≡ mass_at s i * (D + get_or (drawn_from s.held.outlets i) k 0) / base_at s i - mass_at s i * D / base_at s i
unfolding share
share_of s i k l =
    let os = s.held.outlets in
    let one : ℕ → ℕ = λ j. cond (eqb (outlet_at os j).cell i) (outlet_at os j).drawn 0 in
    let same : sum_below k (λ j. get_or (drawn_from os i) j 0) ≡ sum_below k one = sum_same k _ one (λ j q. drawn_at os i j (omega (arith, q, l))) in
    rw (same, drawn_at os i k l) (outlet_share_at s.mass s.base s.carried os _ _ i k l)

-- dealt out by the wants
module _ (s : Reach) (t i : ℕ) where
  abbrev n : ℕ
  n = s.held.outlets.count

  abbrev ws : List ℕ
  ws = wants_from s.held.outlets i

  abbrev want : ℕ → ℕ
  want k = cond (eqb (outlet_at s.held.outlets k).cell i) (outlet_at s.held.outlets k).want 0

  abbrev whole : ℕ
  whole = min (positive (available s t i)) (sum ws)

  abbrev floor : ℕ → ℕ
  floor j = whole * get_or ws j 0 / sum ws

  long : length ws ≡ n
  unfolding from_cell
  long = length_tabulate n want

  floors_are : sum (floors whole (sum ws) ws) ≡ sum_below n floor
  unfolding from_cell
  floors_are =
      ap sum (floors_tabulate whole (sum ws) n want) ∙ sum_tabulate n (λ j. whole * want j / sum ws)
      ∙ sum_same n _ floor (λ j l. ap (λ (w : ℕ). whole * w / sum ws) (sym (get_or_tabulate n want j 0 l)))

  each_of : (k : ℕ) → k < n → get_or (draws s t i) k 0 ≡ floor k + cond (ltb 0 (get_or ws k 0) && ltb (sum_below k (λ j. cond (ltb 0 (get_or ws j 0)) 1 0)) (whole - sum_below n floor)) 1 0
  unfolding granted weighing_below units_left
  each_of k l =
      ap (λ (ds : List ℕ). get_or ds k 0) (draws_dealt s t i)
      ∙ dealt_at whole ws k (omega (arith, l, long))
      ∙ ap (λ (m : ℕ). floor k + cond (ltb 0 (get_or ws k 0) && ltb (sum_below k (λ j. cond (ltb 0 (get_or ws j 0)) 1 0)) (whole - m)) 1 0) floors_are

pub drawing : Drawing
unfolding granted available cell_side from_cell draw_of summed_drawn
drawing = record {
  gives = λ s t i. refl;
  wants = λ os i. refl;
  each = λ s t i k l. each_of s t i k l;
  from_own_cell = λ s t k. refl;
  tested = λ s t i. refl;
  each_most = λ s t k l. draw_most s t k l;
  all_lesser = λ s t i. granted_is s t i;
  share = λ s i k l. share_of s i k l;
}

-- ---- no outlet

drawn_none : (os : Outlets) (i : ℕ) → os.count ≡ 0 → drawn_from os i ≡ []
unfolding from_cell tabulate
drawn_none os i e = rw e refl

nothing_drawn : (s : Reach) (t i : ℕ) → s.held.outlets.count ≡ 0 → (sum (draws s t i) ≡ 0) × (summed_drawn s t i ≡ [])
unfolding granted from_cell summed_drawn tabulate sum
nothing_drawn s t i e =
    let none : sum (wants_from s.held.outlets i) ≡ 0 = rw e refl in
    (granted_is s t i ∙ omega (arith, none), rw e refl)

less_nothing : (x : ℤ) (d : ℕ) → d ≡ 0 → x -ℤ pos d ≡ x
less_nothing x d e = from_cross (x -ℤ pos d) x (omega (arith, e, minus_cross x (pos d), pos_cross d))

first_count : (s : Reach) (t : ℕ) → (transported_first s t).held.outlets.count ≡ s.held.outlets.count
unfolding transported_first
first_count s t = go (keeps_sums s t)
  where
    go : (b : Bool) → (cond b s (after_transport s)).held.outlets.count ≡ s.held.outlets.count
    go true = refl
    go false = transported_count s

pub with_no_outlet : WithNoOutlet
unfolding all_below all_of carried_fits none_drawn new_depth undrawn_depth keeps_sums summed after_step step_held step_outlets each_outlet sum
with_no_outlet = record {
  fits = none_fit;
  none_drawn_from = drawn_none;
  carried = λ h b l r. rw (outflow_is l r [], less_nothing (pos b +ℤ l -ℤ r) 0 refl, add-zero (positive r + positive (neg_ℤ l))) refl;
  totals = none_total;
  none_drawn_lem = λ os e. rw e refl;
  depth = λ s t i e. less_nothing _ (sum (draws s t i)) (nothing_drawn s t i e).0;
  keeps = λ s t e. all_same _ _ (cells s) (λ i l. rw (nothing_drawn s t i e).1 (ap (λ (n : ℕ). leb n (base_at s i)) (outflow_is _ _ [] ∙ add-zero _)));
  step_none = λ s t F e. first_count s t ∙ e;
  transport_none = λ s e. transported_count s ∙ e;
}

pub no_grain_kept : NoGrainKept
no_grain_kept κs l X h r e k z i w all =
    let s = given l X h in
    let drawn = drawn_from s.held.outlets i in
    let gone : outflow (carried_at s i) (carried_at s (i + 1)) drawn ≡ base_at s i = outflow_is (carried_at s i) (carried_at s (i + 1)) drawn ∙ all in
    ap (λ (m : List ℕ). get_or m i 0) k.0.mass_is
    ∙ by_transport s (λ o. o.refusal ≡ 0 → get_or o.reach.mass i 0 ≡ rightwards (mass_columns_of s) i + leftwards (mass_columns_of s) (i + 1))
    (λ n p y. absurd (omega (arith, p, y)))
    (λ b f y. emptied_at s b i w gone)
    (sym k.0.refusal_is ∙ z)

-- CFL at a place
abbrev MeetsAt : Reach → (t i : ℕ) → Type 0
MeetsAt s t i = t * place_speed s i ≤ 1_000 * s.cell_length

-- CFL at every place, by each of them
meets_each : (s : Reach) (t : ℕ) → meets_cfl (place_speed s) (cells s + 1) s.cell_length t ≡ true → (i : ℕ) → i ≤ cells s + 1 → MeetsAt s t i
unfolding meets_cfl
meets_each s t e i l = leb-true _ _ (all_at (λ j. leb (t * place_speed s j) (1_000 * s.cell_length)) (suc (cells s + 1)) i e (omega (arith, l)))

each_meets : (s : Reach) (t : ℕ) → ((i : ℕ) → i ≤ cells s + 1 → MeetsAt s t i) → meets_cfl (place_speed s) (cells s + 1) s.cell_length t ≡ true
unfolding meets_cfl
each_meets s t f = all_below_lem (λ j. leb (t * place_speed s j) (1_000 * s.cell_length)) (suc (cells s + 1)) (λ i l. le-leb _ _ (f i (omega (arith, l))))

place_speeds : (s : Reach) → Sound s → PlaceSpeeds s
unfolding left_speed right_speed signal_speed
place_speeds s b =
    let left = left_boundary s.held.boundaries in
    let right = right_boundary s.held.boundaries in
    let last = cell_side s (cells s - 1) in
    record {
      left_fed = λ k. place_left s ∙ boundary_fed Left left (cell_side s 0) k;
      left_unfed = λ k. place_left s ∙ speed_other Left left (cell_side s 0) k;
      cell = λ i l. place_cell s b.depths i l;
      right_fed = λ k. place_right s b.depths ∙ boundary_fed Right right last k;
      right_unfed = λ k. place_right s b.depths ∙ speed_other Right right last k;
    }

fastest : (s : Reach) → Sound s → Fastest s (greatest_time s) (greatest_place s)
unfolding greatest_time greatest_place
fastest s b =
    let n = cells s + 1 in
    let speed = place_speed s in
    record {
      least = (time_in_range s b).0;
      most = (time_in_range s b).1;
      meets = meets_each s (greatest_time s) (greatest_step_meets speed n s.cell_length);
      greatest = λ t l f. greatest_step_greatest speed n s.cell_length t l (each_meets s t f);
      fastest = λ i l. fastest_greatest speed n i l;
      within = omega (arith, fastest_within speed n);
      highest = λ i l m. fastest_highest speed n i l m;
      dry = λ d left right. dry_reach s d left right;
    }

pub greatest_step_lem : GreatestStep
greatest_step_lem κs l X h r k z =
    let s = given l X h in
    let zero = sym (ap (λ (a : GreatestAnswer). a.refusal) k) ∙ z in
    let same = k ∙ greatest_is s zero in
    let k-sound = sound s h.boundaries (greatest_stood s zero) in
    (place_speeds s k-sound, subst (λ (a : GreatestAnswer). Fastest s a.time a.place) (sym same) (fastest s k-sound))

-- a lower place would be faster than the higher, and the higher at least as fast
not_lower : (s : Reach) (time time' place place' : ℕ) → Fastest s time place → Fastest s time' place' → place' ≤ place
not_lower s time time' place place' f g =
    le_of_suc-le-suc (lt_of_not-le (λ l. omega (arith, f.highest place' l (omega (arith, g.within)), g.fastest place (omega (arith, f.within)))))

pub one_fastest : OneFastest
one_fastest s time time' place place' f g = (
  le_antisymm (g.greatest time f.most f.meets) (f.greatest time' g.most g.meets),
  le_antisymm (not_lower s time' time place' place g f) (not_lower s time time' place place' f g),
)

-- ---- CFL with the wave speed not rounded

unrounded : (t X h v : ℕ) → t * (v + wave_speed h) ≤ 1_000 * X → UnroundedCflAt t X h v
unrounded t X h v l = record { left_over = omega (arith, l); wave = omega (arith, go (1_000 * X - t * v) (omega (arith, l))) }
  where
    go : (room : ℕ) → t * wave_speed h ≤ room → t * t * (14_709_975 * h) ≤ 1_000_000 * (room * room)
    go room k = omega (arith, mul-le-mul_left (t * t) (wave_speed_meets h), mul-le-mul k k)

-- one less than the wave speed is below √(3gh/2)
rounded_once : (t X h v : ℕ) → t * (v + 1) ≤ 1_000 * X → t * t * (14_709_975 * h) ≤ 1_000_000 * ((1_000 * X - t * (v + 1)) * (1_000 * X - t * (v + 1))) → t * (v + wave_speed h) ≤ 1_000 * X
rounded_once t X h v l w = go (wave_speed h) (wave_speed_least h)
  where
    go : (a : ℕ) → ((b : ℕ) → 14_709_975 * h ≤ 1_000_000 * (b * b) → a ≤ b) → t * (v + a) ≤ 1_000 * X
    go zero least = omega (arith, l)
    go (suc b) least =
        let below : 1_000_000 * (b * b) < 14_709_975 * h = lt_of_not-le (λ k. omega (arith, least b k)) in
        let room = 1_000 * X - t * (v + 1) in
        let fits : t * b < suc room = square_lt (t * b) (suc room) (omega (arith, mul-le-mul_left (t * t) (le_of_lt below), w)) in
        omega (arith, fits, l)

-- with 1 mm/s to spare at each place that counts, ours is met at every place
spared : (s : Reach) (t : ℕ) → PlaceSpeeds s → UnroundedCfl s t 1 → (i : ℕ) → i ≤ cells s + 1 → MeetsAt s t i
spared s t speeds u = place
  where
    counts : (i h v : ℕ) → place_speed s i ≡ v + wave_speed h → UnroundedCflAt t s.cell_length h (v + 1) → MeetsAt s t i
    counts i h v e f = rw e (rounded_once t s.cell_length h v (omega (arith, f.left_over)) (omega (arith, f.wave)))

    -- an end that is fed, or is not
    end : (i kind : ℕ) → (kind ≡ 2 → MeetsAt s t i) → ((kind ≡ 2 → ⊥) → place_speed s i ≡ 0) → MeetsAt s t i
    end i kind fed unfed = go (eqb kind 2) refl
      where
        go : (b : Bool) → eqb kind 2 ≡ b → MeetsAt s t i
        go true e = fed (eqb-true kind 2 e)
        go false e = rw (unfed (eqb-false kind 2 e)) (omega arith)

    right : MeetsAt s t (cells s + 1)
    right = end (cells s + 1) _ (λ k. counts _ _ _ (speeds.right_fed k) (u.right_fed (omega (arith, k)))) speeds.right_unfed

    cell : (i : ℕ) → i < cells s → MeetsAt s t (i + 1)
    cell i m = counts _ _ _ (speeds.cell i m) (u.cell i (omega (arith, m)))

    place : (i : ℕ) → i ≤ cells s + 1 → MeetsAt s t i
    place zero l = end 0 _ (λ k. counts _ _ _ (speeds.left_fed k) (u.left_fed (omega (arith, k)))) speeds.left_unfed
    place (suc i) l =
        ⊎_elim
        (λ e. subst (MeetsAt s t) (omega (arith, e)) right)
        (λ m. subst (MeetsAt s t) (omega arith) (cell i m))
        (eq-or-lt_of_le (omega (arith, l)))

unrounded_cfl : (s : Reach) (t : ℕ) → PlaceSpeeds s → ((i : ℕ) → i ≤ cells s + 1 → MeetsAt s t i) → UnroundedCfl s t 0
unrounded_cfl s t speeds meets = record {
  cell = λ i l. at (i + 1) _ _ (omega (arith, l)) (speeds.cell i (omega (arith, l)));
  left_fed = λ k. at 0 _ _ (omega arith) (speeds.left_fed (omega (arith, k)));
  right_fed = λ k. at (cells s + 1) _ _ (omega arith) (speeds.right_fed (omega (arith, k)));
}
  where
    at : (i h v : ℕ) → i ≤ cells s + 1 → place_speed s i ≡ v + wave_speed h → UnroundedCflAt t s.cell_length h (v + 0)
    at i h v l e = unrounded t s.cell_length h (v + 0) (rw (add-zero, sym e) (meets i l))

-- an accepted step meets CFL
step_meets : (s : Reach) (t F : ℕ) → (step s t F).refusal ≡ 0 → PlaceSpeeds s × ((i : ℕ) → i ≤ cells s + 1 → MeetsAt s t i)
step_meets s t F =
    by_step s t F (λ o. o.refusal ≡ 0 → PlaceSpeeds s × ((i : ℕ) → i ≤ cells s + 1 → MeetsAt s t i))
    (λ n p y. absurd (omega (arith, p, y)))
    (λ b c d f y. (place_speeds s b, meets_each s t c))

pub not_too_long : NotTooLong
not_too_long = record {
  step = λ κs l X h t F r e k z. let g = step_meets (given l X h) t F (sym k.0.refusal_is ∙ z) in unrounded_cfl (given l X h) _ g.0 (λ i m. omega (arith, g.1 i m));
  greatest = λ κs l X h r k z. let g = greatest_step_lem κs l X h r k z in unrounded_cfl (given l X h) _ g.0 (λ i m. omega (arith, g.1.meets i m));
  nearly = λ t X h v u. rounded_once t X h v (omega (arith, u.left_over)) (omega (arith, u.wave));
  nearly_greatest = λ κs l X h r k z t m u. let g = greatest_step_lem κs l X h r k z in g.1.greatest t m (spared (given l X h) t g.0 u);
}

-- a record that passes is one that stands
passed : {s s' : Reach} → s ≡ s' → ((es : List Boundary) → boundaries_fit es ≡ true → first_refusal (record_grounds s' es) ≡ Ok tt) → Stands s
passed {s} {s'} e f es g =
    subst (λ (x : Reach). First 0 (record_grounds x es)) (sym e)
    (subst (λ (k : Verdict). First (number_of k) (record_grounds s' es)) (f es g) (first (record_grounds s' es)))

pub stand_again : StandsAgain
stand_again = record {
  opening = λ κs sheet l r e k z. passed (left_by_opening k.0) (λ es g. opened_stands sheet.now (lent_by l) es (sym k.0.refusal_is ∙ z) g);
  step = λ κs l X h t F r e k z. passed (left_by_step (given l X h) t F k.0) (λ es g. step_stands_again (given l X h) t F es (sym k.0.refusal_is ∙ z) g);
  transport = λ κs l X h r e k z.
      let s = given l X h in
      let same = transport_is s in
      passed (left_by_transport s k.0 ∙ ap (λ (o : Outcome). o.reach) same)
      (λ es g. stands_again s h.boundaries es (ap (λ (o : Outcome). o.refusal) (sym same) ∙ sym k.0.refusal_is ∙ z) g);
  set_boundaries_lem = λ κs l X h new r e k z. passed (left_by_setting (given l X h) new k.0) (λ es g. stands_again (given l X h) new es (sym k.0.refusal_is ∙ z) g);
}
