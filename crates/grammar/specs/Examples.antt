-- Texts and what reading them gives, the packed table or a refusal with its line; all computed.
use Rattle.std.specs.Prelude.{ℕ, ◌≡◌, refl, List, [], ◌∷◌, ◌++◌, map, length, replicate}
use Prim.Native.String.{String}
use Rattle.grammar.specs.Quoted.{ascii}
use Rattle.grammar.specs.Words.{lf, same, allowed}
use Rattle.grammar.specs.Rows.{grown, parted, rows, word, place, times, line_of, first_bad}
use Rattle.grammar.specs.Draft.{blank, unit_named, output_named, input_named, feed_of, loose}
use Rattle.grammar.specs.Draft.{known, add_unit, add_output, add_input, add_feed, joined, add_join}
use Rattle.grammar.specs.Lines.{refused, refuse, taken, is_name, faulty, kind_of}
use Rattle.grammar.specs.Lines.{unit_line, out_line, in_line, feed_line, join_line, line}
use Rattle.grammar.specs.Reading.{stopped, pairs, packed, ending}
use Rattle.grammar.specs.Reading.{lines_from, version, line_by_line, reading}

-- ---- texts

-- the first line, and these below it
abbrev below : String → List ℕ
below s = ascii "cosim\t1\n" ++ ascii s

-- a unit with an output and an input on lines 2 to 4, and these below them
abbrev ported : String → List ℕ
ported s = below "unit\ta\nout\ta\ty\nin\ta\tx\tdelayed\n" ++ ascii s

-- a unit with an output and a unit with an input on lines 2 to 5, and these below them
abbrev apart : String → List ℕ
apart s = below "unit\ta\nunit\tb\nout\ta\ty\nin\tb\tx\tdelayed\n" ++ ascii s

-- the lister's example
abbrev example : List ℕ
example =
    below "unit\tpump\nunit\ttank\nout\tpump\tflow\nout\ttank\tlevel\n"
    ++ ascii "in\tpump\tlevel\tdelayed\nin\ttank\tflow\treactive\n"
    ++ ascii "join\tpump\tflow\ttank\tflow\njoin\ttank\tlevel\tpump\tlevel\n"

abbrev each : List ℕ → (ℕ → List ℕ) → List ℕ
each [] f = []
each (x ∷ xs) f = f x ++ each xs f

-- a line for each of these letters with each of eight digits, with what is before and behind it
abbrev lines : String → String → String → List ℕ
lines letters s r =
    each (ascii letters) λ a. each (ascii "01234567") λ b. ascii s ++ (a ∷ b ∷ ascii r)

-- as many as a count allows, on 33, 98, 98 and 166 lines
abbrev units32 : List ℕ
units32 = below "" ++ lines "abcd" "unit\t" "\n"

abbrev outputs96 : List ℕ
outputs96 = below "unit\tu\n" ++ lines "abcdefghijkl" "out\tu\t" "\n"

abbrev inputs96 : List ℕ
inputs96 = below "unit\tu\n" ++ lines "abcdefghijkl" "in\tu\t" "\tdelayed\n"

abbrev feeds128 : List ℕ
feeds128 =
    below "unit\tu\nout\tu\tw\nout\tu\tx\nout\tu\ty\nout\tu\tz\n"
    ++ lines "abcd" "in\tu\t" "\tdelayed\n"
    ++ lines "abcd" "feed\tu\t" "\tw\n" ++ lines "abcd" "feed\tu\t" "\tx\n"
    ++ lines "abcd" "feed\tu\t" "\ty\n" ++ lines "abcd" "feed\tu\t" "\tz\n"

-- ---- the packed bytes, and a text

abbrev tables : List (List ℕ × List ℕ)
tables =
    (2 ∷ 2 ∷ 2 ∷ 0 ∷ 0 ∷ 1 ∷ 0 ∷ 1 ∷ 0 ∷ 1 ∷ 1 ∷ 0 ∷ [], example)
    ∷ (32 ∷ 0 ∷ 0 ∷ 0 ∷ [], units32)
    ∷ (1 ∷ 96 ∷ 0 ∷ 0 ∷ replicate 96 0, outputs96)
    -- names of 16 bytes, of an underscore, of a digit, of a keyword
    ∷ (4 ∷ 0 ∷ 0 ∷ 0 ∷ [], below "unit\tabcdefghijklmnop\nunit\t_\nunit\t0\nunit\tunit\n")
    -- one name in two units; numbers by line over the whole text
    ∷ (2 ∷ 2 ∷ 0 ∷ 0 ∷ 1 ∷ 0 ∷ [], below "unit\ta\nunit\tb\nout\tb\ty\nout\ta\ty\n")
    -- one name for a unit, an output and an input
    ∷ (
      1 ∷ 1 ∷ 1 ∷ 0 ∷ 0 ∷ 0 ∷ 0 ∷ 0 ∷ [],
      below "unit\ta\nout\ta\ta\nin\ta\ta\tdelayed\njoin\ta\ta\ta\ta\n",
    )
    -- a feed from input 1 to output 0
    ∷ (
      1 ∷ 1 ∷ 2 ∷ 1 ∷ 0 ∷ 0 ∷ 0 ∷ 0 ∷ 1 ∷ 0 ∷ 0 ∷ 1 ∷ 0 ∷ [],
      ported "in\ta\tw\treactive\nfeed\ta\tw\ty\njoin\ta\ty\ta\tx\njoin\ta\ty\ta\tw\n",
    )
    ∷ []

-- ---- number and line of a refusal, and a text

abbrev refusals : List (ℕ × ℕ × List ℕ)
refusals =
    -- over the whole text: 20, then 21, then 22
    (20, 0, [])
    ∷ (20, 0, replicate 24577 lf)
    ∷ (21, 1, replicate 24576 97)
    ∷ (21, 2, ascii "cosim\t1\nunit")
    ∷ (21, 2, ascii "Cosim\t1\nunit")
    ∷ (22, 2, below "unit\tP\n")
    ∷ (22, 2, below "unit\ta\r\n")
    ∷ (22, 2, ascii "cosim\t2\nunit\t-\n")
    -- the first line
    ∷ (23, 1, ascii "cosim\t2\n")
    ∷ (23, 1, ascii "cosim\t1\t\n")
    ∷ (23, 1, ascii "cosim\n")
    ∷ (23, 1, ascii "\n")
    -- a line below it, one fault: keyword or number of fields
    ∷ (24, 2, below "cosim\t1\n")
    ∷ (24, 2, below "\n")
    ∷ (24, 2, below "units\ta\n")
    ∷ (24, 2, below "unit\n")
    ∷ (24, 2, below "unit\ta\tb\n")
    -- names and kind words
    ∷ (25, 2, below "unit\t\n")
    ∷ (25, 2, below "unit\tabcdefghijklmnopq\n")
    ∷ (25, 2, below "out\t\ty\n")
    ∷ (28, 3, below "unit\ta\nin\ta\tx\t\n")
    ∷ (27, 2, below "out\ta\tb\n")
    -- declared below its use; of another unit
    ∷ (27, 3, below "unit\ta\njoin\ta\ty\ta\tx\nout\ta\ty\nin\ta\tx\tdelayed\n")
    ∷ (27, 6, apart "feed\ta\tx\ty\n")
    ∷ (27, 6, apart "feed\tb\tx\ty\n")
    ∷ (27, 6, apart "join\ta\ty\ta\tx\n")
    ∷ (27, 6, apart "join\tb\ty\tb\tx\n")
    -- twice, and one more than a table can have
    ∷ (26, 3, below "unit\ta\nunit\ta\n")
    ∷ (26, 5, ported "out\ta\ty\n")
    ∷ (26, 5, ported "in\ta\tx\treactive\n")
    ∷ (30, 6, ported "join\ta\ty\ta\tx\njoin\ta\ty\ta\tx\n")
    ∷ (30, 7, ported "out\ta\tz\njoin\ta\ty\ta\tx\njoin\ta\tz\ta\tx\n")
    ∷ (32, 6, ported "feed\ta\tx\ty\nfeed\ta\tx\ty\n")
    ∷ (29, 34, units32 ++ ascii "unit\tz\n")
    ∷ (29, 99, outputs96 ++ ascii "out\tu\tz\n")
    ∷ (29, 99, inputs96 ++ ascii "in\tu\tz\tdelayed\n")
    ∷ (29, 168, feeds128 ++ ascii "out\tu\tv\nfeed\tu\ta0\tv\n")
    -- two faults: the one that comes first of 24, 25, 28, 27, 26, 30, 32, 29
    ∷ (24, 2, below "out\t\n")
    ∷ (25, 2, below "in\tb\t\tmaybe\n")
    ∷ (28, 2, below "in\tb\tx\tmaybe\n")
    ∷ (27, 6, ported "join\ta\ty\ta\tx\njoin\ta\tz\ta\tx\n")
    ∷ (26, 34, units32 ++ ascii "unit\ta0\n")
    ∷ (32, 167, feeds128 ++ ascii "feed\tu\ta0\ty\n")
    -- at the end: 33, then 31 of the first input that is not joined
    ∷ (33, 1, below "")
    ∷ (31, 4, ported "")
    ∷ (31, 5, ported "in\ta\tw\tdelayed\nin\ta\tv\tdelayed\njoin\ta\ty\ta\tx\n")
    ∷ []

-- ---- all of them, read into a buffer of 644 bytes; and shorter buffers

examples :
    (map (λ (e : List ℕ × List ℕ). reading 644 e.1) tables
    ≡ map (λ (e : List ℕ × List ℕ). record { number = 0; place = length e.0; bytes = e.0 })
    tables)
    × (map (λ (e : ℕ × ℕ × List ℕ). reading 644 e.2) refusals
    ≡ map (λ (e : ℕ × ℕ × List ℕ). stopped e.0 e.1) refusals)
    × (reading 12 example ≡ reading 644 example)
    × (reading 11 example ≡ stopped 34 0)
    × (reading 0 (ported "") ≡ stopped 31 4)
unfolding allowed same grown parted rows word place times line_of first_bad blank unit_named
    output_named input_named feed_of loose known add_unit add_output add_input add_feed joined
    add_join
    refused refuse taken is_name faulty kind_of unit_line out_line in_line feed_line join_line line
    stopped
    pairs packed ending lines_from version line_by_line reading
examples = (refl, refl, refl, refl, refl)
