-- What placing answers, case by case.
use Rattle.std.specs.Prelude.{◌≡◌, List, [], ℕ, ◌≤◌, ◌<◌, eqb, length}
use borrow.Author.Tests.{le-leb, lt-leb}
use Rattle.search.specs.Truth.{is_false, eq_false}
use Rattle.table.specs.Check.{refusal}
use Rattle.table.specs.Outcome.{outcome}
use Rattle.placing.specs.Placing.{call_count, placed_of, placing}

module _ (t : List ℕ) (room : ℕ) where
  pub placing-unsound : (refusal t ≡ 0 → ⊥) → placing t room ≡ outcome (refusal t) 0 []
  unfolding placing
  placing-unsound n = rw (is_false (eqb (refusal t) 0) (eq_false (refusal t) 0 n))

  pub placing-short : refusal t ≡ 0 → room < call_count t → placing t room ≡ outcome 8 0 []
  unfolding placing
  placing-short e h = rw (e, lt-leb (call_count t) room h)

  pub placing-done : refusal t ≡ 0 → call_count t ≤ room
      → placing t room ≡ outcome 0 (length (placed_of t)) (placed_of t)
  unfolding placing
  placing-done e h = rw (e, le-leb (call_count t) room h)
