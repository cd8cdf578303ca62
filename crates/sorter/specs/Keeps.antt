-- Which sets keep a step or a get waiting where some calls are done: a set of calls is a test.
use Rattle.std.specs.Prelude.{Bool, not, ◌&&◌, ℕ}
use Rattle.table.specs.Shape.{Shape}
use Rattle.calls.specs.Number.{set_no}
use Rattle.calls.specs.Precedence.{feeds_to, has_kind}

-- the set of input x remains, and keeps the step of its unit waiting
unfoldable pub keeps_step : Shape → ℕ → (ℕ → Bool) → ℕ → Bool
keeps_step s u done x = has_kind s 1 x u && not (done (set_no s x))

-- the set of input x remains, and keeps the get of the output waiting
unfoldable pub keeps_get : Shape → ℕ → (ℕ → Bool) → ℕ → Bool
keeps_get s y done x = feeds_to s x y && not (done (set_no s x))
