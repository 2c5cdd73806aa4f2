-- Document 02, point 1: what outlets draw and what goes with it, worked out.
use Rattle.std.specs.Prelude.{◌≡◌, [], ◌∷◌, pos, neg_ℤ}
use Rattle.numbers.specs.Deal.{floors, dealt}
use Rattle.numbers.specs.Shares.{shares, rest}
use Rattle.reach.specs.Parts.{parts}

pub record OutletsWorked : Type 0 where
  -- 10 available, wants 3, 3, 7: floors 30/13, 30/13 and 70/13, and the unit left goes to the first
  pub floors_10 : floors 10 13 (3 ∷ 3 ∷ 7 ∷ []) ≡ 2 ∷ 2 ∷ 5 ∷ []
  pub dealt_10 : dealt 10 (3 ∷ 3 ∷ 7 ∷ []) ≡ 3 ∷ 2 ∷ 5 ∷ []
  -- 6 available, wants 0, 5, 8: floors 0, 30/13 and 48/13, and the unit left passes the want of 0
  pub dealt_6 : dealt 6 (0 ∷ 5 ∷ 8 ∷ []) ≡ 0 ∷ 3 ∷ 3 ∷ []
  -- wants that fit are met
  pub dealt_all_13 : dealt 13 (0 ∷ 5 ∷ 8 ∷ []) ≡ 0 ∷ 5 ∷ 8 ∷ []
  -- b 5, m 7, 1 over the right, 1 over the left, 2 and 1 by outlets: floors 7/5, 14/5, 28/5 and 35/5 less the one before each. All its water has gone, and all its mass with
  -- it. With the outlets before the left, the left would have 2; floored singly, 1 grain would stay
  pub parts_5 : parts (neg_ℤ (pos 1)) (pos 1) (2 ∷ 1 ∷ []) ≡ 1 ∷ 1 ∷ 2 ∷ 1 ∷ []
  pub shares_7 : shares 7 5 0 (1 ∷ 1 ∷ 2 ∷ 1 ∷ []) ≡ 1 ∷ 1 ∷ 3 ∷ 2 ∷ []
  pub none_stays : rest 7 5 5 ≡ 0
