-- Verdicts of SPECIFICATION, Examples, computed: a definition that says else makes one false.
use Rattle.std.specs.Prelude.{◌≡◌, refl, [], ◌∷◌}
use Rattle.table.specs.Tables.{A, C, G}
use Rattle.calls.specs.Computed.{words as call-words}
use Rattle.judging.specs.Conditions.{early, unset, unstepped, unfed}
use Rattle.judging.specs.Conditions.{ungot, refusal_of, refusal_at}
use Rattle.judging.specs.Verdict.{answer, at_end, verdict_from, verdict_of}

-- all that a verdict is computed with: `unfolding words` opens each of them
unfoldable pub words : Unit {0}
unfolding call-words early unset unstepped unfed ungot refusal_of refusal_at at_end verdict_from
    verdict_of
words = tt

-- the starred ones: passed; 16, 14 and 13
pub starred :
    (verdict_of C (1 ∷ 0 ∷ 3 ∷ 4 ∷ 2 ∷ 5 ∷ []) ≡ answer 0 6)
    × (verdict_of G (0 ∷ 1 ∷ 3 ∷ []) ≡ answer 16 2)
    × (verdict_of A (0 ∷ 1 ∷ []) ≡ answer 14 1)
    × (verdict_of C (0 ∷ 2 ∷ 5 ∷ 1 ∷ []) ≡ answer 13 3)
unfolding words
starred = (refl, refl, refl, refl)

-- the rest
pub others :
    (verdict_of A (0 ∷ 2 ∷ 2 ∷ []) ≡ answer 12 2)
    × (verdict_of A (0 ∷ 3 ∷ []) ≡ answer 15 1)
    × (verdict_of A (0 ∷ 2 ∷ 4 ∷ []) ≡ answer 17 2)
    × (verdict_of A (6 ∷ []) ≡ answer 11 0)
    × (verdict_of A (0 ∷ 2 ∷ 5 ∷ 1 ∷ 3 ∷ []) ≡ answer 18 5)
    × (verdict_of A [] ≡ answer 18 0)
unfolding words
others = (refl, refl, refl, refl, refl, refl)
