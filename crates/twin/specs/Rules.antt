-- The rules of models, any functions of a state and the values seen: SPECIFICATION, Equations 2.
use Rattle.std.specs.Prelude.{Bool, cond, List, [], ◌∷◌, ℕ, zero, suc, eqb}
use Rattle.table.specs.Shape.{Shape}
use Rattle.calls.specs.Precedence.{feeds_to}

-- the values of those of the n numbers from k on that pass the test, by rising number
unfoldable pub pick : {Value : Type 0} → (ℕ → Bool) → ℕ → ℕ → (ℕ → Value) → List Value
pick q zero k value = []
pick q (suc n) k value = cond (q k) (value k ∷ pick q n (suc k) value) (pick q n (suc k) value)

-- the values of a unit's inputs
abbrev pub of_unit : {Value : Type 0} → Shape → ℕ → (ℕ → Value) → List Value
of_unit s u value = pick (λ x. eqb (s.input_owner x) u) s.inputs 0 value

-- the values of the inputs that feed an output
abbrev pub feeding : {Value : Type 0} → Shape → ℕ → (ℕ → Value) → List Value
feeding s y value = pick (λ x. feeds_to s x y) s.inputs 0 value

-- a step rule for each unit, of a state and its inputs' values;
-- a rule for each output, of its unit's state and its feeding inputs' values
pub record Rules (State Value : Type 0) : Type 0 where
  pub step_rule : ℕ → State → List Value → State
  pub output_rule : ℕ → State → List Value → Value
