-- Not the paper's: what the inner functions give. A reader of the model may skip this file.
use Rattle.std.specs.Prelude.{◌≡◌, List, ℕ, ℤ}
use Rattle.reach.specs.Reach.{reach_of}
use Rattle.reach.specs.Outcome.{Outcome}
use Rattle.play.specs.declared.Ran.{Ran}

-- a run came to o: its refusal, and the record that its calls left
pub record RanTo (o : Outcome) (r : Ran) (bed : List ℤ) (depth : List ℕ) (discharge : List ℤ) (mass base : List ℕ) (carried : List ℤ) (X : ℕ) : Type 0 where
  pub refusal_is : r.refusal ≡ o.refusal
  pub reach_is : reach_of bed depth discharge mass base carried X r.held ≡ o.reach

-- a whole play came to o: its refusal, and every column, the boundaries and the ledger as its calls left them
pub record PlayedTo (o : Outcome) (r : Ran) (bed : List ℤ) (depth : List ℕ) (discharge : List ℤ) (mass base : List ℕ) (carried : List ℤ) : Type 0 where
  pub refusal_is : r.refusal ≡ o.refusal
  pub bed_is : bed ≡ o.reach.bed
  pub depth_is : depth ≡ o.reach.depth
  pub discharge_is : discharge ≡ o.reach.discharge
  pub mass_is : mass ≡ o.reach.mass
  pub base_is : base ≡ o.reach.base
  pub carried_is : carried ≡ o.reach.carried
  pub held_is : r.held ≡ o.reach.held
