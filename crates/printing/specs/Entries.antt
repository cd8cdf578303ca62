-- The lines of an order, of a cycle and of a refusal: SPECIFICATION, Lister 2 to 4.
use Rattle.std.specs.Prelude.{ℕ, suc, cond, List, [], ◌∷◌, ◌++◌, length, get_or, eqb}
use Rattle.table.specs.Outcome.{Outcome}
use Rattle.grammar.specs.Quoted.{ascii}
use Rattle.grammar.specs.Rows.{word}
use Rattle.calls.specs.declared.Call.{Call}
use Rattle.calls.specs.declared.Call.TheVariants.{Step, Get, Set, NoCall}
use Rattle.calls.specs.Number.{call_in}
use Rattle.pen.specs.Decimal.{decimal}
use Rattle.printing.specs.Printed.{printed}

-- the one line of a text that is refused
unfoldable pub refusal_text : ℕ → ℕ → List ℕ
refusal_text n k = printed (ascii "refused" ∷ decimal n ∷ decimal k ∷ [])

-- with the lines that declare units, outputs and inputs: field 1 names the unit, field 2 the port
module _ (units outputs inputs : List (List (List ℕ))) where
  -- a call by place, word, unit and port, which a step has not; nothing for what is no call
  unfoldable pub entry : ℕ → Call → List ℕ
  entry k (Step u) = let f = get_or units u [] in printed (decimal k ∷ ascii "step" ∷ word f 1 ∷ ascii "-" ∷ [])
  entry k (Get y) = let f = get_or outputs y [] in printed (decimal k ∷ ascii "get" ∷ word f 1 ∷ word f 2 ∷ [])
  entry k (Set x) = let f = get_or inputs x [] in printed (decimal k ∷ ascii "set" ∷ word f 1 ∷ word f 2 ∷ [])
  entry k NoCall = []

  -- a line for each call, the first at place k
  unfoldable pub entries : ℕ → List ℕ → List ℕ
  entries k [] = []
  entries k (c ∷ cs) = entry k (call_in (length units) (length outputs) (length inputs) c) ++ entries (suc k) cs

  -- under a word and how many calls there are, a line for each of them
  unfoldable pub calls_text : List ℕ → List ℕ → List ℕ
  calls_text w cs = printed (w ∷ decimal (length cs) ∷ []) ++ entries 0 cs

  -- what an ordering gives: 0 an order, 9 a cycle; no other comes of a table that was read
  unfoldable pub outcome_text : Outcome → List ℕ
  outcome_text o =
      cond (eqb o.answer.number 0) (calls_text (ascii "order") o.bytes)
      (cond (eqb o.answer.number 9) (calls_text (ascii "cycle") o.bytes)
      (refusal_text o.answer.number o.answer.place))
