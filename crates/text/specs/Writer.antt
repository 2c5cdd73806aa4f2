-- Not the paper's: text added to a lent buffer. Whoever takes the names at their word may skip this file.
use Rattle.std.specs.Prelude.{◌≡◌, List, ℕ, ◌+◌, ◌≤◌, length}
use Rattle.text.specs.declared.Writer.{Writer}
use Rattle.text.specs.Text.{Put}

-- there is room for n more bytes
abbrev pub Room : Writer → ℕ → Type 0
Room w n = w.at + n ≤ length w.out.now

-- `after` is `before`, of the same buffer, with the bytes p put where its next text went
pub record Adds (before : Writer) (p : List ℕ) (after : Writer) : Type 0 where
  pub same : after.out.ghost_name ≡ before.out.ghost_name
  pub next_is : after.at ≡ before.at + length p
  pub put : Put before.out.now before.at p after.out.now
