-- Document 02, point 4: one cell by hand. 100,000 of water at 1,000 mm/s between open boundaries (its 'ends'), X 1,000, t 100, F 30. As much comes in over the left as goes out over the
-- right, P and S too, so that the push leaves q as it is. k is 10 and r is 215 (215³ = 9,938,375 ≤ 10,000,000 < 216³), D = 900·215 = 193,500;
-- E = floor(45,518·100·1,000 / 1,000,000) = 4,551; 100,000,000·193,500 = 97,702,107·198,051 + 6,543.
use Rattle.std.specs.Prelude.{◌≡◌, [], ◌∷◌, ℤ, pos, neg_ℤ}
use Rattle.outlet.specs.Outlets.{no_outlets}
use Rattle.reach.specs.Reach.{Reach, held_with}
use Rattle.reach.specs.declared.boundary.Boundary.{Boundary}
use Rattle.update.specs.Step.{step}
use Rattle.figures.specs.TwoCells.{no_totals}

abbrev pub open_clean : Boundary
open_clean = record { kind = 1; reserved = 0; depth = 0; concentration = 0; discharge = pos 0 }

abbrev pub flowing : (q : ℤ) → Reach
flowing q = record {
  bed = pos 0 ∷ [];
  depth = 100_000 ∷ [];
  discharge = q ∷ [];
  mass = 0 ∷ [];
  base = 100_000 ∷ [];
  carried = pos 0 ∷ pos 0 ∷ [];
  cell_length = 1_000;
  held = held_with (open_clean ∷ open_clean ∷ []) (record { left = no_totals; right = no_totals }) no_outlets;
}

pub record FrictionFigure : Type 0 where
  pub depth_stays : (step (flowing (pos 100_000_000)) 100 30).reach.depth ≡ 100_000 ∷ []
  pub rightwards : (step (flowing (pos 100_000_000)) 100 30).reach.discharge ≡ pos 97_702_107 ∷ []
  -- towards zero: the floor would be −97,702,108
  pub leftwards : (step (flowing (neg_ℤ (pos 100_000_000))) 100 30).reach.discharge ≡ neg_ℤ (pos 97_702_107) ∷ []
  pub without : (step (flowing (pos 100_000_000)) 100 0).reach.discharge ≡ pos 100_000_000 ∷ []
  pub refused : (step (flowing (pos 100_000_000)) 100 9).refusal ≡ 17
