-- The outlets after an opening are as a list of that length is loaded: what is written to the lent list and loaded again is what is held. Assumes nothing.
use mathlib.Core.List.{List}
use Prim.Native.Nat.{ℕ}
use lib.ListN.{length}
use Rattle.outlet.specs.Outlets.{outlet_at, cleared_outlet, cleared}
use Rattle.outlet.proofs.LentLaws.{AsLoaded, each_as_loaded}
use Rattle.reach.specs.Grounds.{first_refusal}
use Rattle.reach.specs.Outcome.{outcome}
use Rattle.reach.specs.Reach.{Reach}
use Rattle.reach.specs.Grounds.{Verdict}
use Rattle.sheet.specs.Opening.{sheet_record, open_grounds, opening}
use Rattle.std.specs.Prelude.{Ok, Err}

module _ (n : ℕ) (sheet : List ℕ) (l : Reach) (a : AsLoaded n l.held.outlets) where
  opened_as_loaded : AsLoaded n (sheet_record sheet l.held.outlets).held.outlets
  unfolding sheet_record cleared
  opened_as_loaded = each_as_loaded n (λ k. cleared_outlet (outlet_at l.held.outlets k)) l.held.outlets a

  pub opening_as_loaded : AsLoaded n (opening sheet l).reach.held.outlets
  unfolding opening
  opening_as_loaded =
      go (first_refusal (open_grounds sheet (length l.bed) (length l.depth) (length l.discharge) (length l.mass) (length l.base) (length l.carried) l.held.outlets))
    where
      go : (v : Verdict) → AsLoaded n (outcome v l (sheet_record sheet l.held.outlets)).reach.held.outlets
      go (Ok u) = opened_as_loaded
      go (Err _) = a
