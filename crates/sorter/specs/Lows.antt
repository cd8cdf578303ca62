-- The lowest input that keeps each step and each get waiting, which the walk then looks up.
use Rattle.std.specs.Prelude.{◌≡◌, Bool, List, ℕ, ◌<◌, length, get_or}
use Rattle.search.specs.Least.{least_from}
use Rattle.table.specs.Packed.{units, outputs, inputs, shape_of}
use Rattle.sorter.specs.Keeps.{keeps_step, keeps_get}

-- for each unit the lowest reactive input whose set remains; X where there is none
pub record LowSteps (t : List ℕ) (done : ℕ → Bool) (lows : List ℕ) : Type 0 where
  pub long : length lows ≡ 32
  pub each : (u : ℕ) → u < units t
      → get_or lows u 0 ≡ least_from (keeps_step (shape_of t) u done) (inputs t) 0

-- for each output the lowest input that feeds it and whose set remains; X where there is none
pub record LowGets (t : List ℕ) (done : ℕ → Bool) (lows : List ℕ) : Type 0 where
  pub long : length lows ≡ 96
  pub each : (y : ℕ) → y < outputs t
      → get_or lows y 0 ≡ least_from (keeps_get (shape_of t) y done) (inputs t) 0
