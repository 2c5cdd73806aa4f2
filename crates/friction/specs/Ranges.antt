-- Not the paper's: what the functions of friction require. A reader of the model may skip this file.
use Rattle.std.specs.Prelude.{ℕ}

-- the last entry of the list
abbrev pub four_thirds_most : ℕ
four_thirds_most = 29_472

-- F, D and E at most
abbrev pub strickler_most : ℕ
strickler_most = 90

abbrev pub conveyance_squared_most : ℕ
conveyance_squared_most = 238_723_200

abbrev pub drag_most : ℕ
drag_most = 364_144

-- size of a discharge before friction: times any E it stays below 2^64
abbrev pub pushed_most : ℕ
pushed_most = 50_000_000_000_000
