-- The table of a text by its lines alone: which number each declaration has, and the bytes.
use Rattle.std.specs.Prelude.{ℕ, Bool, ◌&&◌, List, [], ◌∷◌, ◌++◌, map, length, get_or, leb}
use Rattle.grammar.specs.Quoted.{ascii}
use Rattle.grammar.specs.Words.{same}
use Rattle.grammar.specs.Rows.{word, place}
use Rattle.grammar.specs.Opening.{Row, lines_of}
use Rattle.grammar.specs.Draft.{Feed}
use Rattle.grammar.specs.Lines.{kind_of}
use Rattle.grammar.specs.Reading.{pairs}

-- the place, from 0, of the unit n among the `unit` lines, or their count
unfoldable pub unit_number : List Row → List ℕ → ℕ
unit_number fs n = place (λ f. same (word f 1) n) (lines_of fs (ascii "unit"))

-- the place, from 0, of the port n of the unit u among the lines that open with w, or their count
unfoldable pub port_number : List ℕ → List Row → List ℕ → List ℕ → ℕ
port_number w fs u n = place (λ f. same (word f 1) u && same (word f 2) n) (lines_of fs w)

abbrev pub output_number : List Row → List ℕ → List ℕ → ℕ
output_number = port_number (ascii "out")

abbrev pub input_number : List Row → List ℕ → List ℕ → ℕ
input_number = port_number (ascii "in")

-- among the `join` lines, the place of the one for input n of unit u, or their count; that line
unfoldable pub join_place : List Row → List ℕ → List ℕ → ℕ
join_place fs u n = place (λ f. same (word f 3) u && same (word f 4) n) (lines_of fs (ascii "join"))

unfoldable pub join_of : List Row → List ℕ → List ℕ → Row
join_of fs u n = get_or (lines_of fs (ascii "join")) (join_place fs u n) []

-- the output that this line names
unfoldable pub source_number : List Row → List ℕ → List ℕ → ℕ
source_number fs u n = output_number fs (word (join_of fs u n) 1) (word (join_of fs u n) 2)

-- f is an `in` line whose input no line joins
unfoldable pub is_loose : List Row → Row → Bool
is_loose fs f =
    same (word f 0) (ascii "in")
    && leb (length (lines_of fs (ascii "join"))) (join_place fs (word f 1) (word f 2))

-- the pair that a `feed` line names
unfoldable pub feed_numbers : List Row → Row → Feed
feed_numbers fs f = record {
  input = input_number fs (word f 1) (word f 2);
  output = output_number fs (word f 1) (word f 3);
}

-- the parts of the packed table: counts, owners of outputs and of inputs, kinds, sources, feeds
unfoldable pub numbered : List Row → List ℕ
numbered fs =
    let units = lines_of fs (ascii "unit") in
    let outputs = lines_of fs (ascii "out") in
    let inputs = lines_of fs (ascii "in") in
    let feeds = lines_of fs (ascii "feed") in
    length units ∷ (length outputs ∷ (length inputs ∷ (length feeds ∷
    (map (λ f. unit_number fs (word f 1)) outputs ++ (map (λ f. unit_number fs (word f 1)) inputs
    ++ (map (λ f. kind_of (word f 3)) inputs ++ (map (λ f. source_number fs (word f 1) (word f 2)) inputs
    ++ pairs (map (feed_numbers fs) feeds))))))))
