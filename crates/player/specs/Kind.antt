-- Not the paper's: what the first word of a call says, as `call_of` reads it. A reader of the model may skip this file.
use Rattle.std.specs.Prelude.{◌≡◌, ℕ, ◌≤◌}
use Rattle.player.specs.declared.call.Kind.{Kind}
use Rattle.player.specs.declared.call.Kind.TheVariants.{Step, Transport, Boundaries, Greatest, Write, Opening}

-- the word of a call of each kind
abbrev pub KindOf : (word : ℕ) → Kind → Type 0
KindOf w Step = w ≡ 0
KindOf w Transport = w ≡ 1
KindOf w Boundaries = w ≡ 2
KindOf w Greatest = w ≡ 3
KindOf w Write = w ≡ 4
KindOf w Opening = 5 ≤ w
