-- Records and judged runs on table A, computed: a definition that says else makes one false.
use Rattle.std.specs.Prelude.{◌≡◌, refl, true, [], ◌∷◌, ℕ, set}
use Rattle.std.proofs.Common.{arith}
use Rattle.table.specs.Packed.{shape_of}
use Rattle.table.specs.Tables.{A}
use Rattle.judging.specs.Verdict.{answer, verdict_of}
use Rattle.judging.specs.Computed.{words as verdict_words}
use Rattle.judge.specs.declared.Run.{Run}
use Rattle.judge.specs.declared.Taken.{Taken}
use Rattle.judge.specs.declared.records.Record.{Record}
use Rattle.judge.specs.Marks.{marks}
use Rattle.judge.specs.Taken.{fresh, advanced, taken}
use Rattle.judge.specs.CallByCall.{answered_at, TakenInTurn}
use Rattle.judge.specs.Records.{numbered, all_numbered}

-- all that records and judged runs are computed with: `unfolding words` opens each of them
unfoldable pub words : Unit {0}
unfolding verdict_words marks fresh advanced taken numbered all_numbered
words = tt

abbrev given : ℕ → ℕ → Record
given kind number = record { kind = kind; number = number }

-- step 1, get 1, set 1; a step's number that is not below U and a kind above 2 are no call
pub records :
    (all_numbered (shape_of A) (given 0 1 ∷ given 1 1 ∷ given 2 1 ∷ []) ≡ 1 ∷ 3 ∷ 5 ∷ [])
    × (verdict_of A (all_numbered (shape_of A) (given 0 2 ∷ [])) ≡ answer 11 0)
    × (verdict_of A (all_numbered (shape_of A) (given 3 0 ∷ [])) ≡ answer 11 0)
unfolding words
records = (refl, refl, refl)

-- the run in which one call more is done
abbrev with_done : Run → ℕ → Run
with_done run c = record { done = set run.done c true }

abbrev hands : Run → ℕ → Taken
hands run number = record { run = run; number = number }

-- a call taken; step 1 refused, and step 0 where only set 4 is done, each with the run as it was
pub runs :
    (taken A fresh 0 ≡ hands (with_done fresh 0) 0)
    × (taken A fresh 1 ≡ hands fresh 14)
    × (taken A (with_done fresh 4) 0 ≡ hands (with_done fresh 4) 13)
unfolding words
runs = (refl, refl, refl)

-- call by call: once the pump has stepped, its output may be got, and it may not step again
pub in_turn : (answered_at A fresh (0 ∷ 2 ∷ []) 1 ≡ 0) × (answered_at A fresh (0 ∷ 0 ∷ []) 1 ≡ 12)
unfolding words
in_turn = (refl, refl)

-- no calls are not the N calls
pub none-taken : TakenInTurn A [] → ⊥
unfolding words
none-taken p = omega (arith, p.whole)
