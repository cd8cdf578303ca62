-- The verdict on a list of calls, the table first, then each in turn: SPECIFICATION, Judging 7.
use Rattle.std.specs.Prelude.{Bool, cond, List, [], ◌∷◌, ℕ, suc, eqb}
use Rattle.search.specs.Sets.{none, add}
use Rattle.table.specs.declared.Answer.{Answer}
use Rattle.table.specs.Shape.{Shape, total}
use Rattle.table.specs.Packed.{shape_of}
use Rattle.table.specs.Check.{refusal}
use Rattle.judging.specs.Conditions.{refusal_at}

-- the answer of this number and this place
abbrev pub answer : ℕ → ℕ → Answer
answer n k = record { number = n; place = k }

module _ (s : Shape) where
  -- the order has ended with k calls taken: 0 where these are N, else 18; k is the place
  unfoldable pub at_end : ℕ → Answer
  at_end k = answer (cond (eqb k (total s)) 0 18) k

  -- the calls from place k on, k calls taken before: the first refusal with its place, or the end
  unfoldable pub verdict_from : (ℕ → Bool) → List ℕ → ℕ → Answer
  verdict_from done [] k = at_end k
  verdict_from done (c ∷ l) k =
      cond (eqb (refusal_at s done c) 0) (verdict_from (add c done) l (suc k)) (answer (refusal_at s done c) k)

-- 1 to 7 with place 0 for an unsound table; else the calls in turn, from where none is done
unfoldable pub verdict_of : List ℕ → List ℕ → Answer
verdict_of t order = cond (eqb (refusal t) 0) (verdict_from (shape_of t) none order 0) (answer (refusal t) 0)
