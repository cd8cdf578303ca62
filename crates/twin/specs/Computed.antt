-- A run and a solution on table A, computed: a definition that says something else makes one false.
use Rattle.std.specs.Prelude.{◌≡◌, refl, List, [], ◌∷◌, ℕ, zero, suc, ◌<◌, get_or, ℤ, pos, ◌+ℤ◌}
use Rattle.std.proofs.Common.{arith}
use Rattle.table.specs.Packed.{shape_of}
use Rattle.table.specs.Tables.{A}
use Rattle.calls.specs.declared.Call.TheVariants.{Step, Get, Set, NoCall}
use Rattle.calls.specs.Computed.{words as call-words}
use Rattle.twin.specs.Rules.{pick, Rules}
use Rattle.twin.specs.Run.{Values, World, moves, run}
use Rattle.twin.specs.Equations.{Solves}

-- all that a run and the equations are computed with: `unfolding words` opens each of them
unfoldable pub words : Unit {0}
unfolding call-words pick moves run
words = tt

abbrev pub sum : List ℤ → ℤ
sum [] = pos 0
sum (v ∷ vs) = v +ℤ sum vs

-- a unit adds its inputs to its state; an output adds its unit's state and the inputs that feed it
abbrev pub adding : Rules ℤ ℤ
adding = record {
  step_rule = λ u state inputs. state +ℤ sum inputs;
  output_rule = λ y state inputs. state +ℤ sum inputs;
}

-- two states, two outputs, two inputs
abbrev six : ℕ → ℕ → ℕ → ℕ → ℕ → ℕ → Values ℤ ℤ
six a b c d e f (Step u) = get_or (pos a ∷ pos b ∷ []) u (pos 0)
six a b c d e f (Get y) = get_or (pos c ∷ pos d ∷ []) y (pos 0)
six a b c d e f (Set x) = get_or (pos e ∷ pos f ∷ []) x (pos 0)
six a b c d e f NoCall = tt

-- states 10 and 20; outputs 1 and 2; inputs 2 and 1, as their sources
abbrev pub old : Values ℤ ℤ
old = six 10 20 1 2 2 1

-- the pump adds its old input, the tank its new one
abbrev pub new : Values ℤ ℤ
new = six 12 32 12 32 32 12

abbrev pub start : World ℤ ℤ
start k = record { value = old k; time = 0 }

-- what all hold once the calls of a list were run
abbrev pub ending : List ℕ → World ℤ ℤ
ending order = run (shape_of A) adding start order

abbrev pub right : List ℕ
right = 0 ∷ 2 ∷ 5 ∷ 1 ∷ 3 ∷ 4 ∷ []

-- the run of the order ends at the new values, all at the new time
abbrev later : World ℤ ℤ
later k = record { value = new k; time = 1 }

pub ends :
    (ending right (Step 0) ≡ later (Step 0))
    × (ending right (Step 1) ≡ later (Step 1))
    × (ending right (Get 0) ≡ later (Get 0))
    × (ending right (Get 1) ≡ later (Get 1))
    × (ending right (Set 0) ≡ later (Set 0))
    × (ending right (Set 1) ≡ later (Set 1))
unfolding words
ends = (refl, refl, refl, refl, refl, refl)

-- what holds of 0 and of 1 holds below 2
both : (P : ℕ → Type 0) → P 0 → P 1 → (k : ℕ) → k < 2 → P k
both P p q zero h = p
both P p q (suc zero) h = q
both P p q (suc (suc k)) h = absurd (omega arith)

-- they solve the equations
pub solution : Solves (shape_of A) adding old new
unfolding words
solution =
    record { states = both _ refl refl; outputs = both _ refl refl; inputs = both _ refl refl }
