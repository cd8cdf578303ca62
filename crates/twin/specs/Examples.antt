-- Demand 3 is not empty: on table A what `Computed` runs is passed; refused orders end elsewhere.
use Rattle.std.specs.Prelude.{◌≡◌, refl, List, [], ◌∷◌, ℕ, nat_abs}
use Rattle.std.proofs.Common.{ap, arith}
use Rattle.table.specs.Packed.{shape_of}
use Rattle.table.specs.Tables.{A}
use Rattle.judging.specs.Verdict.{answer, verdict_of}
use Rattle.judging.specs.Computed.{words as verdict_words}
use Rattle.twin.specs.Equations.{Solves}
use Rattle.twin.specs.Computed.{words, adding, start, ending, right}
use Rattle.twin.specs.Demand.{values}

pub right-passed : verdict_of A right ≡ answer 0 6
unfolding verdict_words
right-passed = refl

-- 0 1 is refused (14 at 1), and its run does not solve the equations: no output was got
pub short-fails : Solves (shape_of A) adding (values start) (values (ending (0 ∷ 1 ∷ []))) → ⊥
unfolding words
short-fails s =
    let z : ◌≡◌ {A = ℕ} 1 12 = ap nat_abs (s.outputs 0 (omega arith)) in
    omega arith

-- each call once, but both steps first: a judge that only counts the calls would pass it
abbrev pub counted : List ℕ
counted = 0 ∷ 1 ∷ 2 ∷ 3 ∷ 4 ∷ 5 ∷ []

-- it is refused too: the tank stepped before its reactive input was set
pub counted-refused : verdict_of A counted ≡ answer 14 1
unfolding verdict_words
counted-refused = refl

pub counted-fails : Solves (shape_of A) adding (values start) (values (ending counted)) → ⊥
unfolding words
counted-fails s =
    let z : ◌≡◌ {A = ℕ} 21 32 = ap nat_abs (s.states 1 (omega arith)) in
    omega arith
