-- Precedence on tables of SPECIFICATION, Examples, computed: another definition makes one false.
use Rattle.std.specs.Prelude.{◌≡◌, refl, true, false}
use Rattle.std.proofs.Common.{arith}
use Rattle.table.specs.Packed.{shape_of}
use Rattle.table.specs.Tables.{A, G, itself}
use Rattle.table.specs.Computed.{words as table-words}
use Rattle.calls.specs.Number.{call_in}
use Rattle.calls.specs.Precedence.{
  Precedes,
  step_get,
  get_set,
  set_get,
  set-step,
  step_set,
  feeds_to,
  has_kind,
  by_kind,
  before,
  precedes,
}

-- all that precedence is computed with: `unfolding words` opens each of them
unfoldable pub words : Unit {0}
unfolding table-words call_in feeds_to has_kind by_kind before precedes
words = tt

-- one pair of calls for each of the five sentences
pub sentences :
    Precedes (shape_of A) 0 2
    × Precedes (shape_of A) 2 5
    × Precedes (shape_of G) 5 3
    × Precedes (shape_of A) 5 1
    × Precedes (shape_of A) 0 4
unfolding words
sentences = (
  step_get 0 (omega arith) refl refl,
  get_set 1 (omega arith) refl refl,
  set_get 0 (omega arith) refl refl,
  set-step 1 (omega arith) refl refl refl,
  step_set 0 (omega arith) refl refl refl,
)

-- G's feed leads to the get, not the step; a unit joined to itself waits only by a reactive input
pub tests :
    (precedes (shape_of G) 5 3 ≡ true)
    × (precedes (shape_of G) 5 1 ≡ false)
    × (precedes (shape_of (itself 1)) 2 0 ≡ true)
    × (precedes (shape_of (itself 0)) 2 0 ≡ false)
unfolding words
tests = (refl, refl, refl, refl)
