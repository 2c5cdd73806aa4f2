-- Laws of texts put one after another. Assumes nothing.
use mathlib.Core.Path.{◌≡◌, subst}
use mathlib.Core.List.{List, ◌++◌}
use Prim.Native.Nat.{ℕ, ◌+◌}
use native.Mathlib.Omega.{arith}
use lib.ListN.{length, length-append}
use Rattle.text.specs.Text.{Put}
use Rattle.text.proofs.TextLaws.{put_more}

-- p is put from `at` on, and the next text goes to `next`
pub record Laid (a : List ℕ) (at : ℕ) (p b : List ℕ) (next : ℕ) : Type 0 where
  pub next_is : next ≡ at + length p
  pub put : Put a at p b

pub laid : {a : List ℕ} {at : ℕ} {p b : List ℕ} {next : ℕ} → next ≡ at + length p → Put a at p b → Laid a at p b next
laid e w = record { next_is = e; put = w }

-- one text after another
pub laid_then : {a : List ℕ} {at : ℕ} {p b : List ℕ} {next : ℕ} {q c : List ℕ} {r : ℕ} → Laid a at p b next → Laid b next q c r → Laid a at (p ++ q) c r
laid_then {a} {at} {p} {b} {next} {q} {c} {r} f g = record {
  next_is = omega (arith, f.next_is, g.next_is, length-append p q);
  put = put_more a at p b q c f.put (subst (λ (n : ℕ). Put b n q c) f.next_is g.put);
}
