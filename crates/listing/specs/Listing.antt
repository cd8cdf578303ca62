-- What the lister prints of a text: SPECIFICATION, Lister.
use Rattle.std.specs.Prelude.{ℕ, cond, List, eqb}
use Rattle.grammar.specs.Quoted.{ascii}
use Rattle.grammar.specs.Rows.{rows}
use Rattle.grammar.specs.Reading.{reading}
use Rattle.grammar.specs.Opening.{lines_of}
use Rattle.sorter.specs.Ordering.{ordering}
use Rattle.printing.specs.Entries.{outcome_text, refusal_text}

-- a refusal, or what ordering the packed table gives, with names from the lines;
-- 644 is the greatest packed length and 224 the greatest N, so that 34 and 8 do not arise
unfoldable pub listing : List ℕ → List ℕ
listing t =
    let g = reading 644 t in
    let lines = lines_of (rows t) in
    cond (eqb g.number 0)
    (outcome_text (lines (ascii "unit")) (lines (ascii "out")) (lines (ascii "in")) (ordering g.bytes 224))
    (refusal_text g.number g.place)
