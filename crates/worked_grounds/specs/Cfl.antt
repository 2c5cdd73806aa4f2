-- Document 01, 'A water step' and 'The greatest step': CFL met with equality. X 1,000 mm, so that t·(|u|+a) may be 1,000,000. Document 02, point 2: equal places; point 3: the wave speed rounded up.
use Rattle.std.specs.Prelude.{◌≡◌, List, [], ◌∷◌, ℕ, ◌+◌, ℤ, pos, neg_ℤ, length}
use Rattle.numbers.specs.Index.{tabulate}
use Rattle.flux.specs.Wave.{wave_speed}
use Rattle.reach.specs.Reach.{Reach, no_boundary, held_with}
use Rattle.outlet.specs.Outlets.{no_outlets}
use Rattle.reach.specs.declared.boundary.Boundary.{Boundary}
use Rattle.sheet.specs.Opening.{empty_ledger}
use Rattle.timestep.specs.GreatestStep.{greatest}
use Rattle.update.specs.Step.{step}

-- a record with nothing carried
abbrev pub settled : (bed : List ℤ) (depth : List ℕ) (discharge : List ℤ) (left right : Boundary) → Reach
settled bed depth discharge left right = record {
  bed = bed;
  depth = depth;
  discharge = discharge;
  mass = tabulate (length bed) (λ i. 0);
  base = depth;
  carried = tabulate (length bed + 1) (λ i. pos 0);
  cell_length = 1_000;
  held = held_with (left ∷ right ∷ []) empty_ledger no_outlets;
}

-- one cell over a level bed
abbrev pub one_cell : (h : ℕ) (q : ℤ) (left right : Boundary) → Reach
one_cell h q left right = settled (pos 0 ∷ []) (h ∷ []) (q ∷ []) left right

-- water at rest over a level bed
abbrev pub at_rest : (depths : List ℕ) (left right : Boundary) → Reach
at_rest depths left right = let zeros = tabulate (length depths) (λ i. pos 0) in settled zeros depths zeros left right

abbrev pub open_clean : Boundary
open_clean = record { kind = 1; reserved = 0; depth = 0; concentration = 0; discharge = pos 0 }

abbrev pub fed_with : (q : ℤ) → Boundary
fed_with q = record { kind = 2; reserved = 0; depth = 271_900; concentration = 0; discharge = q }

abbrev pub fed_still : Boundary
fed_still = fed_with (pos 0)

-- between walls, at rest; at −500 mm/s; a cell beside a fed boundary at its left; at its right; and beside an open one at its right
abbrev pub still_at : (h : ℕ) → Reach
still_at h = one_cell h (pos 0) no_boundary no_boundary

abbrev pub still : Reach
still = still_at 271_900

abbrev pub flowing : Reach
flowing = one_cell 271_900 (neg_ℤ (pos 135_950_000)) no_boundary no_boundary

abbrev pub fed_deep : (h : ℕ) → Reach
fed_deep h = one_cell h (pos 0) fed_still no_boundary

abbrev pub fed_right : (h : ℕ) → Reach
fed_right h = one_cell h (pos 0) no_boundary fed_still

abbrev pub open_right : Reach
open_right = one_cell 271_900 (pos 0) no_boundary open_clean

-- beside a fed boundary that flows at 500 mm/s, leftwards at its left, rightwards at its right: away from the cell
abbrev pub fed_flowing : Reach
fed_flowing = one_cell 100_000 (pos 0) (fed_with (neg_ℤ (pos 135_950_000))) no_boundary

abbrev pub fed_flowing_right : Reach
fed_flowing_right = one_cell 100_000 (pos 0) no_boundary (fed_with (pos 135_950_000))

-- two equal cells, one slower before them and two behind; slower cells between equal fed boundaries; all dry, of one cell and of three
abbrev pub equal_cells : Reach
equal_cells = at_rest (100_000 ∷ 271_900 ∷ 271_900 ∷ 100_000 ∷ 100_000 ∷ []) no_boundary no_boundary

abbrev pub fed_both : Reach
fed_both = at_rest (100_000 ∷ 100_000 ∷ 100_000 ∷ []) fed_still fed_still

abbrev pub dry_cell : Reach
dry_cell = at_rest (0 ∷ []) no_boundary open_clean

abbrev pub dry_cells : Reach
dry_cells = at_rest (0 ∷ 0 ∷ 0 ∷ []) no_boundary open_clean

-- a pit between walls: the water in the middle is below both banks, so that its depths reduced at either side are 0
abbrev pub pit : Reach
pit = settled (pos 300_000 ∷ pos 0 ∷ pos 300_000 ∷ []) (0 ∷ 271_900 ∷ 0 ∷ []) (pos 0 ∷ pos 0 ∷ pos 0 ∷ []) no_boundary no_boundary

pub record CflWorked : Type 0 where
  -- 14,709,975·271,900 / 1,000,000 is 3,999,642; 2,000² is 4,000,000, 1,999² is 3,996,001
  pub wave : wave_speed 271_900 ≡ 2_000
  -- 500·2,000 = 1,000,000 passes, 501·2,000 does not; with < for ≤ 500 is 11
  pub still_500 : (step still 500 0).refusal ≡ 0
  pub still_501 : (step still 501 0).refusal ≡ 11
  -- the greatest step, at place 1, the cell
  pub still_greatest : greatest still ≡ record { refusal = 0; held = still.held; time = 500; place = 1 }
  -- 14,709,975·272,000 / 1,000,000 is 4,001,113, and 500·√4,001,113 is 1,000,139: 500 would be too long, and rounded down the wave speed would be 2,000 and let it pass
  pub rounded_up : wave_speed 272_000 ≡ 2_001
  pub rounded_up_499 : (step (still_at 272_000) 499 0).refusal ≡ 0
  pub rounded_up_500 : (step (still_at 272_000) 500 0).refusal ≡ 11
  pub rounded_up_greatest : greatest (still_at 272_000) ≡ record { refusal = 0; held = (still_at 272_000).held; time = 499; place = 1 }
  -- |u| counts: 400·(500 + 2,000) = 1,000,000
  pub flowing_400 : (step flowing 400 0).refusal ≡ 0
  pub flowing_401 : (step flowing 401 0).refusal ≡ 11
  pub flowing_greatest : greatest flowing ≡ record { refusal = 0; held = flowing.held; time = 400; place = 1 }
  -- a fed boundary counts, place 0: its cell has wave speed 1,213
  pub fed_500 : (step (fed_deep 100_000) 500 0).refusal ≡ 0
  pub fed_501 : (step (fed_deep 100_000) 501 0).refusal ≡ 11
  pub fed_greatest : greatest (fed_deep 100_000) ≡ record { refusal = 0; held = (fed_deep 100_000).held; time = 500; place = 0 }
  -- at the right too: place 2 of one cell
  pub right_500 : (step (fed_right 100_000) 500 0).refusal ≡ 0
  pub right_501 : (step (fed_right 100_000) 501 0).refusal ≡ 11
  pub right_greatest : greatest (fed_right 100_000) ≡ record { refusal = 0; held = (fed_right 100_000).held; time = 500; place = 2 }
  -- among equals the highest place: the cell beside a fed boundary at its left, the second of two cells (from the left), a fed boundary at the right, the right one
  -- of two fed boundaries
  pub equal_left : greatest (fed_deep 271_900) ≡ record { refusal = 0; held = (fed_deep 271_900).held; time = 500; place = 1 }
  pub equal_cells_lem : greatest equal_cells ≡ record { refusal = 0; held = equal_cells.held; time = 500; place = 3 }
  pub equal_right : greatest (fed_right 271_900) ≡ record { refusal = 0; held = (fed_right 271_900).held; time = 500; place = 2 }
  pub equal_boundaries : greatest fed_both ≡ record { refusal = 0; held = fed_both.held; time = 500; place = 4 }
  -- all dry and no fed boundary: every place has 0, and the highest is n+1
  pub dry_cell_lem : greatest dry_cell ≡ record { refusal = 0; held = dry_cell.held; time = 1_000; place = 2 }
  pub dry_cells_lem : greatest dry_cells ≡ record { refusal = 0; held = dry_cells.held; time = 1_000; place = 4 }
  -- an open boundary does not count: it has the |u|+a of its cell, and would be the higher place; nor does a wall (`still_greatest`)
  pub open_500 : (step open_right 500 0).refusal ≡ 0
  pub open_501 : (step open_right 501 0).refusal ≡ 11
  pub open_greatest : greatest open_right ≡ record { refusal = 0; held = open_right.held; time = 500; place = 1 }
  -- |u| of a fed boundary counts: 400·(500 + 2,000) = 1,000,000; at rest 500 would pass
  pub fed_flowing_400 : (step fed_flowing 400 0).refusal ≡ 0
  pub fed_flowing_401 : (step fed_flowing 401 0).refusal ≡ 11
  pub fed_flowing_greatest : greatest fed_flowing ≡ record { refusal = 0; held = fed_flowing.held; time = 400; place = 0 }
  pub fed_flowing_right_400 : (step fed_flowing_right 400 0).refusal ≡ 0
  pub fed_flowing_right_401 : (step fed_flowing_right 401 0).refusal ≡ 11
  pub fed_flowing_right_greatest : greatest fed_flowing_right ≡ record { refusal = 0; held = fed_flowing_right.held; time = 400; place = 2 }
  -- the unreduced depth counts: with reduced ones 501 would pass
  pub pit_500 : (step pit 500 0).refusal ≡ 0
  pub pit_501 : (step pit 501 0).refusal ≡ 11
  pub pit_greatest : greatest pit ≡ record { refusal = 0; held = pit.held; time = 500; place = 2 }
