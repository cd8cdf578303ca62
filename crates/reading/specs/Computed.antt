-- What the theorems say of SPECIFICATION, Lister 7, and of texts that are refused, computed.
use Rattle.std.specs.Prelude.{ℕ, ◌≡◌, refl, List, [], ◌∷◌, ◌++◌}
use Prim.Native.String.{String}
use Rattle.std.proofs.Common.{inl, inr, arith}
use Rattle.grammar.specs.Quoted.{ascii}
use Rattle.grammar.specs.Words.{same, allowed}
use Rattle.grammar.specs.Rows.{grown, parted, rows, word, place, times, line_of, first_bad}
use Rattle.grammar.specs.Opening.{lines_of}
use Rattle.grammar.specs.Draft.{blank, unit_named, known, add_unit}
use Rattle.grammar.specs.Lines.{refused, refuse, taken, is_name, faulty, kind_of, unit_line, line}
use Rattle.grammar.specs.Reading.{stopped, pairs, version, lines_from, line_by_line, reading}
use Rattle.reading.specs.Numbers.{unit_number, port_number, join_place, join_of}
use Rattle.reading.specs.Numbers.{source_number, feed_numbers, numbered}
use Rattle.reading.specs.WhichLine.{line_count, refusals, Lined}

-- the first line, and these below it
abbrev below : String → List ℕ
below s = ascii "cosim\t1\n" ++ ascii s

-- the lister's example
abbrev example : List ℕ
example =
    below "unit\tpump\nunit\ttank\nout\tpump\tflow\nout\ttank\tlevel\n"
    ++ ascii "in\tpump\tlevel\tdelayed\nin\ttank\tflow\treactive\n"
    ++ ascii "join\tpump\tflow\ttank\tflow\njoin\ttank\tlevel\tpump\tlevel\n"

-- ports of two units with one name, and a feed
abbrev alike : List ℕ
alike =
    below "unit\ta\nunit\tb\nout\ta\ty\nout\tb\ty\nin\tb\tx\tdelayed\nin\ta\tx\treactive\n"
    ++ ascii "feed\ta\tx\ty\njoin\tb\ty\ta\tx\njoin\ta\ty\tb\tx\n"

-- ---- the bytes of the lines

pub tables :
    (numbered (rows example) ≡ 2 ∷ 2 ∷ 2 ∷ 0 ∷ 0 ∷ 1 ∷ 0 ∷ 1 ∷ 0 ∷ 1 ∷ 1 ∷ 0 ∷ [])
    × (numbered (rows alike) ≡ 2 ∷ 2 ∷ 2 ∷ 1 ∷ 0 ∷ 1 ∷ 1 ∷ 0 ∷ 0 ∷ 1 ∷ 0 ∷ 1 ∷ 1 ∷ 0 ∷ [])
unfolding same grown parted rows word place lines_of kind_of pairs unit_number port_number
    join_place
    join_of source_number feed_numbers numbered
tables = (refl, refl)

-- ---- the lines of refusals

-- a last line that is not ended
abbrev unended : List ℕ
unended = below "unit"

pub unended-lined : Lined unended (reading 644 unended)
unfolding times line_of line_count stopped reading
unended-lined = record {
  none = (
    λ z. absurd (omega arith),
    λ s. absurd (elim s [ inl e ↦ omega arith | inr e ↦ omega arith ]),
  );
  within = omega arith;
  last = λ e. refl;
  byte = λ e. absurd (omega arith);
  first = λ s. absurd (elim s [ inl e ↦ omega arith | inr e ↦ omega arith ]);
  loose = λ e. absurd (omega arith);
  refused = λ a b c. absurd (omega arith);
}

-- an unknown keyword on line 3
abbrev unknown : List ℕ
unknown = below "unit\ta\nunits\tb\n"

pub unknown-lined : Lined unknown (reading 644 unknown)
unfolding allowed same grown parted rows word place times line_of first_bad blank unit_named known
    add_unit refused refuse taken is_name faulty unit_line line stopped version lines_from
    line_by_line
    reading line_count refusals
unknown-lined = record {
  none = (
    λ z. absurd (omega arith),
    λ s. absurd (elim s [ inl e ↦ omega arith | inr e ↦ omega arith ]),
  );
  within = omega arith;
  last = λ e. absurd (omega arith);
  byte = λ e. absurd (omega arith);
  first = λ s. absurd (elim s [ inl e ↦ omega arith | inr e ↦ omega arith ]);
  loose = λ e. absurd (omega arith);
  refused = λ a b c. (refl, refl);
}
