-- What the five rules give each call: how many of its direct predecessors pass a test.
use Rattle.std.specs.Prelude.{Bool, ◌&&◌, ℕ, ◌+◌, eqb}
use Rattle.search.specs.Count.{bit}
use Rattle.table.specs.Shape.{Shape}
use Rattle.calls.specs.Number.{get_no, set_no}
use Rattle.calls.specs.Hits.{hits}

-- one call alone
abbrev pub only : ℕ → ℕ → Bool
only d a = eqb a d

module _ (s : Shape) (passes : ℕ → Bool) where
  -- how many predecessors that pass each rule gives each call
  abbrev pub steps_to_gets : ℕ → ℕ
  steps_to_gets = hits (λ y. passes (s.output_owner y)) (get_no s) s.outputs

  abbrev pub gets_to_sets : ℕ → ℕ
  gets_to_sets = hits (λ x. passes (get_no s (s.source x))) (set_no s) s.inputs

  abbrev pub sets_to_gets : ℕ → ℕ
  sets_to_gets =
      hits (λ k. passes (set_no s (s.feed_input k))) (λ k. get_no s (s.feed_output k)) s.feeds

  abbrev pub sets_to_steps : ℕ → ℕ
  sets_to_steps = hits (λ x. eqb (s.kind x) 1 && passes (set_no s x)) s.input_owner s.inputs

  abbrev pub steps_to_sets : ℕ → ℕ
  steps_to_sets = hits (λ x. passes (s.input_owner x) && eqb (s.kind x) 0) (set_no s) s.inputs

  -- how many the five rules give it
  unfoldable pub into : ℕ → ℕ
  into c = steps_to_gets c + gets_to_sets c + sets_to_gets c + sets_to_steps c + steps_to_sets c

-- what a reactive input's set gives: one to the step of its unit
unfoldable pub own_step : Shape → ℕ → ℕ → ℕ
own_step s x c = bit (eqb (s.kind x) 1 && eqb (s.input_owner x) c)
