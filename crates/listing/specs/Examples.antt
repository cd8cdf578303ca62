-- SPECIFICATION, Lister 7, a cycle, two refusals and a listing of the greatest length, computed.
use Rattle.std.specs.Prelude.{
  ℕ,
  zero,
  suc,
  ◌+◌,
  ◌/◌,
  ◌%◌,
  ◌≡◌,
  refl,
  List,
  [],
  ◌∷◌,
  ◌++◌,
  length,
  replicate,
}
use Rattle.search.specs.Every.{every, some}
use Rattle.search.specs.Least.{least_from}
use Rattle.table.specs.Packed.{
  units,
  outputs,
  inputs,
  feeds,
  output_owners,
  input_owners,
  kinds,
  sources,
  pairs as feed_bytes,
  asked,
}
use Rattle.table.specs.Check.{
  refuse as check_refuse,
  counts_in,
  all_below,
  is_pair,
  feed_known,
  feed_again,
  feeds_from,
  wiring,
  refusal,
}
use Rattle.calls.specs.Number.{call_in}
use Rattle.calls.specs.Precedence.{feeds_to, has_kind, by_kind, before, precedes}
use Rattle.orders.specs.Sort.{ready, next_call, sort, placed}
use Rattle.orders.specs.Walk.{upto, lowest_before, walk, lowest_left, met}
use Rattle.orders.specs.Turn.{lowest_of, lowest_place, shown}
use Rattle.placing.specs.Placing.{placed_of}
use Rattle.sorter.specs.Ordering.{shown_of, settled, ordering}
use Rattle.grammar.specs.Quoted.{ascii}
use Rattle.grammar.specs.Words.{same, allowed}
use Rattle.grammar.specs.Rows.{grown, parted, rows, word, place, times, line_of, first_bad}
use Rattle.grammar.specs.Draft.{
  blank,
  unit_named,
  output_named,
  input_named,
  feed_of,
  loose,
  known,
  add_unit,
  add_output,
  add_input,
  add_feed,
  joined,
  add_join,
}
use Rattle.grammar.specs.Lines.{
  refused,
  refuse,
  taken,
  is_name,
  faulty,
  kind_of,
  unit_line,
  out_line,
  in_line,
  feed_line,
  join_line,
  line,
}
use Rattle.grammar.specs.Reading.{
  stopped,
  pairs,
  packed,
  ending,
  lines_from,
  version,
  line_by_line,
  reading,
}
use Rattle.grammar.specs.Opening.{lines_of}
use Rattle.pen.specs.Decimal.{spell, decimal}
use Rattle.printing.specs.Printed.{printed}
use Rattle.printing.specs.Entries.{entry, entries, calls_text, refusal_text, outcome_text}
use Rattle.listing.specs.Listing.{listing}

-- a pump and a tank, the tank's input reactive and the pump's of this kind
abbrev pump_and_tank : List ℕ → List ℕ
pump_and_tank kind =
    ascii "cosim\t1\n"
    ++ ascii "unit\tpump\n"
    ++ ascii "unit\ttank\n"
    ++ ascii "out\tpump\tflow\n"
    ++ ascii "out\ttank\tlevel\n"
    ++ ascii "in\tpump\tlevel\t" ++ kind ++ ascii "\n"
    ++ ascii "in\ttank\tflow\treactive\n"
    ++ ascii "join\tpump\tflow\ttank\tflow\n"
    ++ ascii "join\ttank\tlevel\tpump\tlevel\n"

-- the lines of its calls
abbrev its_calls : List ℕ
its_calls =
    ascii "0\tstep\tpump\t-\n"
    ++ ascii "1\tget\tpump\tflow\n"
    ++ ascii "2\tset\ttank\tflow\n"
    ++ ascii "3\tstep\ttank\t-\n"
    ++ ascii "4\tget\ttank\tlevel\n"
    ++ ascii "5\tset\tpump\tlevel\n"

-- ---- 32 units, 96 outputs and 96 inputs, none of them reactive, under names of 16 bytes

-- the lines of the numbers below n, before the bytes s
abbrev each : (ℕ → List ℕ) → ℕ → List ℕ → List ℕ
each line zero s = s
each line (suc n) s = each line n (line n ++ s)

-- two letters and 14 more
abbrev name : ℕ → List ℕ
name i = (97 + i % 26) ∷ ((97 + i / 26) ∷ replicate 14 97)

-- the unit and the name of port i: each unit has three
abbrev port : ℕ → List ℕ
port i = name (i / 3) ++ ascii "\t" ++ name i

abbrev pub greatest_text : List ℕ
greatest_text =
    ascii "cosim\t1\n"
    ++ each (λ u. ascii "unit\t" ++ name u ++ ascii "\n") 32
    (each (λ y. ascii "out\t" ++ port y ++ ascii "\n") 96
    (each (λ x. ascii "in\t" ++ port x ++ ascii "\tdelayed\n") 96
    (each (λ x. ascii "join\t" ++ port x ++ ascii "\t" ++ port x ++ ascii "\n") 96 [])))

pub examples :
    (listing (pump_and_tank (ascii "delayed")) ≡ ascii "order\t6\n" ++ its_calls)
    × (listing (pump_and_tank (ascii "reactive")) ≡ ascii "cycle\t6\n" ++ its_calls)
    × (listing (ascii "cosim\t1\nout\tpump\tflow\n") ≡ ascii "refused\t27\t2\n")
    × (listing [] ≡ ascii "refused\t20\t0\n")
    × (length (listing greatest_text) ≡ 8860)
unfolding every some least_from units outputs inputs feeds output_owners input_owners kinds sources
    feed_bytes asked check_refuse counts_in all_below is_pair feed_known feed_again feeds_from
    wiring
    refusal call_in feeds_to has_kind by_kind before precedes ready next_call sort placed upto
    lowest_before walk lowest_left met lowest_of lowest_place shown placed_of shown_of settled
    ordering allowed same grown parted rows word place times line_of first_bad blank unit_named
    output_named input_named feed_of loose known add_unit add_output add_input add_feed joined
    add_join
    refused refuse taken is_name faulty kind_of unit_line out_line in_line feed_line join_line line
    stopped
    pairs packed ending lines_from version line_by_line reading lines_of decimal spell printed entry
    entries calls_text refusal_text outcome_text listing
examples = (refl, refl, refl, refl, refl)
