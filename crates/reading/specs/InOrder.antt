-- The table of a text that is read, part by part and place by place.
use Rattle.std.specs.Prelude.{ℕ, ◌+◌, ◌*◌, ◌<◌, ◌≡◌, List, [], length, get_or}
use Rattle.table.specs.Shape.{Shape}
use Rattle.grammar.specs.Quoted.{ascii}
use Rattle.grammar.specs.Rows.{word}
use Rattle.grammar.specs.Opening.{Row, lines_of}
use Rattle.grammar.specs.Lines.{kind_of}
use Rattle.reading.specs.Numbers.{unit_number, output_number, input_number}
use Rattle.reading.specs.Numbers.{source_number}

-- the shape s is that of the lines fs, in line order
pub record InOrder (fs : List Row) (s : Shape) : Type 0 where
  pub unit_lines : s.units ≡ length (lines_of fs (ascii "unit"))
  pub output-lines : s.outputs ≡ length (lines_of fs (ascii "out"))
  pub input-lines : s.inputs ≡ length (lines_of fs (ascii "in"))
  pub feed-lines : s.feeds ≡ length (lines_of fs (ascii "feed"))
  -- output y is declared by line y, from 0, of those that open with `out`, and so on
  pub output-owner : (y : ℕ) → y < s.outputs → let f = get_or (lines_of fs (ascii "out")) y [] in
      s.output_owner y ≡ unit_number fs (word f 1)
  pub input-owner : (x : ℕ) → x < s.inputs → let f = get_or (lines_of fs (ascii "in")) x [] in
      s.input_owner x ≡ unit_number fs (word f 1)
  pub input-kind : (x : ℕ) → x < s.inputs → let f = get_or (lines_of fs (ascii "in")) x [] in
      s.kind x ≡ kind_of (word f 3)
  pub input-source : (x : ℕ) → x < s.inputs → let f = get_or (lines_of fs (ascii "in")) x [] in
      s.source x ≡ source_number fs (word f 1) (word f 2)
  pub feed-input : (k : ℕ) → k < s.feeds → let f = get_or (lines_of fs (ascii "feed")) k [] in
      s.feed_input k ≡ input_number fs (word f 1) (word f 2)
  pub feed-output : (k : ℕ) → k < s.feeds → let f = get_or (lines_of fs (ascii "feed")) k [] in
      s.feed_output k ≡ output_number fs (word f 1) (word f 3)
