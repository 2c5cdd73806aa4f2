-- Not the paper's: what the inner functions require and give. A reader of the model may skip this file.
use Rattle.std.specs.Prelude.{◌≡◌, ℕ, ◌+◌, ◌*◌, ◌≤◌, ◌<◌}
use Rattle.numbers.specs.declared.quotient.Divisor.{Divisor}
use Rattle.flux.specs.Limits.{depth_most, velocity_most, time_step_most, cell_length_least, cell_length_most}
use Rattle.flux.specs.Wave.{wave_speed}

-- round bounds of the wave speed, which is at most 7,671, and of K, which is at most A²
abbrev pub wave_most : ℕ
wave_most = 8_000

abbrev pub moment_most : ℕ
moment_most = 256_000_000

-- a time step and a cell length
pub record Mesh (t X : ℕ) : Type 0 where
  pub time : t ≤ time_step_most
  pub least : cell_length_least ≤ X
  pub most : X ≤ cell_length_most

-- 1,000·X, the length of a cell in micrometres, as a divisor (whose type says that its reciprocal is its own)
pub record SpanOf (X : ℕ) (span : Divisor) : Type 0 where
  pub value_is : span.value ≡ 1_000 * X

-- a depth h with its wave speed a, and a velocity right − left
pub record Flow (h a right left : ℕ) : Type 0 where
  pub depth : h ≤ depth_most
  pub wave : a ≡ wave_speed h
  pub right_most : right ≤ velocity_most
  pub left_most : left ≤ velocity_most

-- what W and K of a wet depth are computed from: the wave speed a, and A and B
pub record Spectrum (a A B : ℕ) : Type 0 where
  pub wet : 0 < a
  pub wave : a ≤ wave_most
  pub upper : A ≤ wave_most + velocity_most
  pub lower : B ≤ A
  pub width : A ≤ B + 2 * a
