-- What a list of calls does to states and values, one by one: SPECIFICATION, Equations 4.
use Rattle.std.specs.Prelude.{Bool, false, cond, List, [], ◌∷◌, ℕ, suc, eqb}
use Rattle.search.specs.Sets.{none}
use Rattle.table.specs.Shape.{Shape}
use Rattle.calls.specs.declared.Call.{Call}
use Rattle.calls.specs.declared.Call.TheVariants.{Step, Get, Set, NoCall}
use Rattle.calls.specs.Number.{call_of}
use Rattle.calls.specs.Precedence.{by_kind}
use Rattle.twin.specs.Rules.{of_unit, feeding, Rules}

-- what belongs to a call: to a step the state of its unit, to a get or a set the value of its port
abbrev pub At : Type 0 → Type 0 → Call → Type 0
At State Value (Step u) = State
At State Value (Get y) = Value
At State Value (Set x) = Value
At State Value NoCall = Unit {0}

-- a state or a value for each unit and port
abbrev pub Values : Type 0 → Type 0 → Type 0
Values State Value = (k : Call) → At State Value k

-- what a unit or a port holds: its state or value, and its time, counted in steps
pub record Held (A : Type 0) : Type 0 where
  pub value : A
  pub time : ℕ

-- what all hold, told by their calls
abbrev pub World : Type 0 → Type 0 → Type 0
World State Value = (k : Call) → Held (At State Value k)

-- whether the first call moves what belongs to the second: it moves its own unit or port alone
unfoldable pub moves : Call → Call → Bool
moves (Step u) = by_kind (λ v. eqb v u) none none
moves (Get y) = by_kind none (λ z. eqb z y) none
moves (Set x) = by_kind none none (λ z. eqb z x)
moves NoCall = λ k. false

module _ {State Value : Type 0} (s : Shape) (m : Rules State Value) where
  -- what the call of a unit or port would give it
  abbrev pub gives : World State Value → Values State Value
  -- a step: its unit's rule on the state and the inputs that it finds
  gives w (Step u) = m.step_rule u (w (Step u)).value (of_unit s u (λ x. (w (Set x)).value))
  -- a get: its output's rule on the state and the feeding inputs that it finds
  gives w (Get y) = m.output_rule y (w (Step (s.output_owner y))).value (feeding s y (λ x. (w (Set x)).value))
  -- a set: what its source holds
  gives w (Set x) = (w (Get (s.source x))).value
  gives w NoCall = tt

  -- after a call its unit or port holds what it gives, one step later; all else is as it was
  abbrev pub acts : World State Value → Call → World State Value
  acts w c k = cond (moves c k) (record { value = gives w k; time = suc (w k).time }) (w k)

  -- the calls of a list in turn
  unfoldable pub run : World State Value → List ℕ → World State Value
  run w [] = w
  run w (c ∷ l) = run (acts w (call_of s c)) l
