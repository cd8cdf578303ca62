-- The lines that open with a keyword.
use Rattle.std.specs.Prelude.{ℕ, cond, List, [], ◌∷◌}
use Rattle.grammar.specs.Words.{same}
use Rattle.grammar.specs.Rows.{word}

-- a line as its fields
abbrev pub Row : Type 0
Row = List (List ℕ)

-- the lines that open with w, in line order
unfoldable pub lines_of : List Row → List ℕ → List Row
lines_of [] w = []
lines_of (f ∷ fs) w = cond (same (word f 0) w) (f ∷ lines_of fs w) (lines_of fs w)
