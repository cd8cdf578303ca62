-- Which call a number stands for: SPECIFICATION, Calls.
use Rattle.std.specs.Prelude.{ℕ, ◌+◌, ◌-◌, cond, ltb}
use Rattle.table.specs.Shape.{Shape}
use Rattle.calls.specs.declared.Call.{Call}
use Rattle.calls.specs.declared.Call.TheVariants.{Step, Get, Set, NoCall}

-- u steps, then y gets, then x sets; a number past these is no call
unfoldable pub call_in : ℕ → ℕ → ℕ → ℕ → Call
call_in u y x c =
    cond (ltb c u) (Step c)
    (cond (ltb (c - u) y) (Get (c - u))
    (cond (ltb (c - u - y) x) (Set (c - u - y))
    NoCall))

abbrev pub call_of : Shape → ℕ → Call
call_of s = call_in s.units s.outputs s.inputs

-- the numbers of the step of a unit, the get of an output, the set of an input
abbrev pub step_no : ℕ → ℕ
step_no u = u

abbrev pub get_no : Shape → ℕ → ℕ
get_no s y = s.units + y

abbrev pub set_no : Shape → ℕ → ℕ
set_no s x = s.units + s.outputs + x
