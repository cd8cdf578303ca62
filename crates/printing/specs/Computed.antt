-- What is printed of SPECIFICATION, Lister 7, as order and as cycle, and of refusals, computed.
use Rattle.std.specs.Prelude.{ℕ, ◌≡◌, refl, List, [], ◌∷◌, ◌++◌}
use Rattle.table.specs.Outcome.{Outcome, outcome}
use Rattle.grammar.specs.Quoted.{ascii}
use Rattle.grammar.specs.Words.{same}
use Rattle.grammar.specs.Rows.{grown, parted, rows, word}
use Rattle.grammar.specs.Opening.{lines_of}
use Rattle.calls.specs.Number.{call_in}
use Rattle.pen.specs.Decimal.{spell, decimal}
use Rattle.printing.specs.Printed.{printed}
use Rattle.printing.specs.Entries.{entry, entries, calls_text, outcome_text, refusal_text}

-- the lister's example
abbrev example : List ℕ
example =
    ascii "cosim\t1\nunit\tpump\nunit\ttank\nout\tpump\tflow\nout\ttank\tlevel\n"
    ++ ascii "in\tpump\tlevel\tdelayed\nin\ttank\tflow\treactive\n"
    ++ ascii "join\tpump\tflow\ttank\tflow\njoin\ttank\tlevel\tpump\tlevel\n"

-- its lines that open with a keyword
abbrev lines : List ℕ → List (List (List ℕ))
lines = lines_of (rows example)

-- what is printed of an ordering of its table
abbrev told : Outcome → List ℕ
told = outcome_text (lines (ascii "unit")) (lines (ascii "out")) (lines (ascii "in"))

-- the calls of its order, which are those of the cycle where both inputs are reactive
abbrev calls : List ℕ
calls = 0 ∷ 2 ∷ 5 ∷ 1 ∷ 3 ∷ 4 ∷ []

abbrev call_lines : List ℕ
call_lines =
    ascii "0\tstep\tpump\t-\n1\tget\tpump\tflow\n2\tset\ttank\tflow\n"
    ++ ascii "3\tstep\ttank\t-\n4\tget\ttank\tlevel\n5\tset\tpump\tlevel\n"

pub examples :
    (told (outcome 0 6 calls) ≡ ascii "order\t6\n" ++ call_lines)
    × (told (outcome 9 6 calls) ≡ ascii "cycle\t6\n" ++ call_lines)
    × (told (outcome 8 0 []) ≡ ascii "refused\t8\t0\n")
    × (refusal_text 27 10 ≡ ascii "refused\t27\t10\n")
unfolding same grown parted rows word lines_of call_in spell decimal printed entry entries
    calls_text
    outcome_text refusal_text
examples = (refl, refl, refl, refl)
