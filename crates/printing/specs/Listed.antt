-- A text written into a lent buffer, all of it at the front or nothing: SPECIFICATION, Lister 6.
use Rattle.std.specs.Prelude.{ℕ, cond, List, [], length, ltb}
use Rattle.table.specs.Outcome.{Outcome, outcome}

-- 34 at line 0 where the buffer has no room for the text; else 0 with its length
unfoldable pub listed : List ℕ → ℕ → Outcome
listed s room = cond (ltb room (length s)) (outcome 34 0 []) (outcome 0 (length s) s)
