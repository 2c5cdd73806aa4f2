-- The outlets after a call that moves mass are as a list of that length is loaded: what is written to the lent list and loaded again is what is held. Assumes nothing.
use mathlib.Core.List.{List}
use Prim.Native.Nat.{ℕ}
use Rattle.outlet.proofs.LentLaws.{AsLoaded, each_as_loaded}
use Rattle.mass.specs.Transport.{moved_outlet, moved_outlets}
use Rattle.reach.specs.Grounds.{first_refusal}
use Rattle.reach.specs.Outcome.{outcome}
use Rattle.reach.specs.Reach.{Reach}
use Rattle.reach.specs.declared.boundary.Boundary.{Boundary}
use Rattle.reach.specs.Grounds.{Verdict}
use Rattle.transport.specs.Calls.{mass_columns_of, transport_outlets, transport_held, after_transport, transport_grounds, transport, holding, set_boundaries}
use Rattle.std.specs.Prelude.{Ok, Err}

module _ (n : ℕ) (s : Reach) (a : AsLoaded n s.held.outlets) where
  pub transported_as_loaded : AsLoaded n (after_transport s).held.outlets
  unfolding after_transport transport_held transport_outlets moved_outlets
  transported_as_loaded = each_as_loaded n (moved_outlet (mass_columns_of s) s.held.outlets) s.held.outlets a

  pub transport_as_loaded : AsLoaded n (transport s).reach.held.outlets
  unfolding transport
  transport_as_loaded = go (first_refusal (transport_grounds s s.held.boundaries))
    where
      go : (v : Verdict) → AsLoaded n (outcome v s (after_transport s)).reach.held.outlets
      go (Ok u) = transported_as_loaded
      go (Err _) = a

  given_as_loaded : (es : List Boundary) → AsLoaded n (holding es (after_transport s)).held.outlets
  unfolding holding
  given_as_loaded es = transported_as_loaded

  pub setting_as_loaded : (es : List Boundary) → AsLoaded n (set_boundaries s es).reach.held.outlets
  unfolding set_boundaries
  setting_as_loaded es = go (first_refusal (transport_grounds s es))
    where
      go : (v : Verdict) → AsLoaded n (outcome v s (holding es (after_transport s))).reach.held.outlets
      go (Ok u) = given_as_loaded es
      go (Err _) = a
