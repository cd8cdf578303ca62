-- The conditions of a call where some calls are done, by rising number: SPECIFICATION, Judging 4.
use Rattle.std.specs.Prelude.{Bool, not, ◌&&◌, ℕ, eqb}
use Rattle.search.specs.Every.{some}
use Rattle.table.specs.Shape.{Shape}
use Rattle.table.specs.Check.{refuse}
use Rattle.calls.specs.declared.Call.{Call}
use Rattle.calls.specs.declared.Call.TheVariants.{Step, Get, Set, NoCall}
use Rattle.calls.specs.Number.{call_of, step_no, get_no, set_no}
use Rattle.calls.specs.Precedence.{has_kind}

module _ (s : Shape) (done : ℕ → Bool) where
  -- step: a delayed input of the unit is already set
  unfoldable pub early : ℕ → Bool
  early u = some (λ x. has_kind s 0 x u && done (set_no s x)) s.inputs

  -- step: a reactive input of the unit is not set
  unfoldable pub unset : ℕ → Bool
  unset u = some (λ x. has_kind s 1 x u && not (done (set_no s x))) s.inputs

  -- get: the output's unit has not stepped
  unfoldable pub unstepped : ℕ → Bool
  unstepped y = not (done (step_no (s.output_owner y)))

  -- get: an input that feeds the output is not set
  unfoldable pub unfed : ℕ → Bool
  unfed y = some (λ k. eqb (s.feed_output k) y && not (done (set_no s (s.feed_input k)))) s.feeds

  -- set: the input's source has not been got
  unfoldable pub ungot : ℕ → Bool
  ungot x = not (done (get_no s (s.source x)))

  -- the number of the first condition that fails, or 0; `again`: the call was done before
  unfoldable pub refusal_of : Call → Bool → ℕ
  refusal_of (Step u) again = refuse again 12 (refuse (early u) 13 (refuse (unset u) 14 0))
  refusal_of (Get y) again = refuse again 12 (refuse (unstepped y) 15 (refuse (unfed y) 16 0))
  refusal_of (Set x) again = refuse again 12 (refuse (ungot x) 17 0)
  refusal_of NoCall again = 11

  -- the number that a call is answered where these calls are done
  unfoldable pub refusal_at : ℕ → ℕ
  refusal_at c = refusal_of (call_of s c) (done c)
