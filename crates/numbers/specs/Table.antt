-- Not the paper's: what the search of a root needs of the table that it starts from. A reader of the model may skip this file.
use Rattle.std.specs.Prelude.{List, ℕ, ◌*◌, ◌≤◌, get_or}

-- the entry of k is at most 4,096·√k
pub record RootTable (list : List ℕ) : Type 0 where
  pub below : (k : ℕ) → k ≤ 63 → get_or list k 0 * get_or list k 0 ≤ k * 16_777_216
  pub most : (k : ℕ) → k ≤ 63 → get_or list k 0 ≤ 32_768
