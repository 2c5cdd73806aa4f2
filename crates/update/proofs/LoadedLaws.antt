-- The outlets after a step are as a list of that length is loaded: what is written to the lent list and loaded again is what is held. Assumes nothing.
use mathlib.Core.Bool.{Bool, true, false, cond}
use Prim.Native.Nat.{ℕ}
use Rattle.outlet.proofs.LentLaws.{AsLoaded, each_as_loaded}
use Rattle.reach.specs.Grounds.{first_refusal}
use Rattle.reach.specs.Outcome.{outcome}
use Rattle.reach.specs.Reach.{Reach}
use Rattle.reach.specs.Grounds.{Verdict}
use Rattle.transport.specs.Calls.{after_transport}
use Rattle.transport.proofs.LoadedLaws.{transported_as_loaded}
use Rattle.update.specs.Step.{keeps_sums, transported_first, stepped_outlet, step_outlets, step_held, after_step, step_grounds, step}
use Rattle.std.specs.Prelude.{Ok, Err}

module _ (n : ℕ) (s : Reach) (t : ℕ) (a : AsLoaded n s.held.outlets) where
  first : AsLoaded n (transported_first s t).held.outlets
  unfolding transported_first
  first = go (keeps_sums s t)
    where
      go : (b : Bool) → AsLoaded n (cond b s (after_transport s)).held.outlets
      go true = a
      go false = transported_as_loaded n s a

  stepped : (F : ℕ) → AsLoaded n (after_step s t F).held.outlets
  unfolding after_step step_held step_outlets
  stepped F = each_as_loaded n (stepped_outlet s t) (transported_first s t).held.outlets first

  pub step_as_loaded : (F : ℕ) → AsLoaded n (step s t F).reach.held.outlets
  unfolding step
  step_as_loaded F = go (first_refusal (step_grounds s t F))
    where
      go : (v : Verdict) → AsLoaded n (outcome v s (after_step s t F)).reach.held.outlets
      go (Ok u) = stepped F
      go (Err _) = a
