-- A text that is read: the names in its lines have at most 16 bytes.
use Rattle.std.specs.Prelude.{ℕ, ◌≡◌, not, List, [], get_or, T}
use Rattle.grammar.specs.Quoted.{ascii}
use Rattle.grammar.specs.Words.{same}
use Rattle.grammar.specs.Rows.{rows}
use Rattle.grammar.specs.Opening.{lines_of}
use Rattle.grammar.specs.Reading.{reading}
use Rattle.reading.specs.Spelled.{Spelled, opened-spelled}
use Rattle.reading.specs.Reads.{text_read}
use Rattle.reading.specs.First.{below}

-- fields 1 and 2 of each line that opens with a keyword below the first line
pub read-spelled : (room : ℕ) (t : List ℕ) → (reading room t).number ≡ 0
    → (w : List ℕ) → T (not (same (ascii "cosim") w)) → (i : ℕ)
    → Spelled (get_or (lines_of (rows t) w) i [])
read-spelled room t e w n =
    let r = text_read room t e in
    rw (r.lines, below r.first r.below r.opened w n)
    (opened-spelled w r.below r.spelled)
