-- Laws of the header's checks. Assumes nothing.
use mathlib.Core.Path.{◌≡◌, refl}
use mathlib.Core.List.{[], ◌∷◌}
use mathlib.Core.Bool.{◌&&◌, and-true}
use Prim.Native.Nat.{ℕ}
use Rattle.sheet.specs.Header.{Span, inside, apart, apart_from, columns_clear}

-- four columns, each within the sheet and apart from those after it
pub four_clear : (end : ℕ) (a b c d : Span) → columns_clear end (a ∷ b ∷ c ∷ d ∷ []) ≡ ((inside end a && (apart a b && (apart a c && apart a d))) && ((inside end b && (apart b c && apart b d)) && ((inside end c && apart c d) && inside end d)))
unfolding columns_clear apart_from
four_clear end a b c d =
    rw (and-true (apart a d), and-true (apart b d), and-true (apart c d), and-true (inside end d), and-true (inside end d)) refl
