-- The lines that declare units, outputs and inputs, as many as a table has, and where they begin.
use Rattle.std.specs.Prelude.{ℕ, ◌≡◌, List, length, take}
use Rattle.table.specs.Outcome.{Outcome}
use Rattle.grammar.specs.Quoted.{ascii}
use Rattle.calls.specs.Number.{call_in}
use Rattle.declarations.specs.Noted.{declared, begins_from}
use Rattle.printing.specs.Entries.{entry, entries, calls_text, outcome_text}

module _ (t : List ℕ) where
  abbrev pub the_unit_lines : List (List (List ℕ))
  the_unit_lines = declared (ascii "unit") 32 t

  abbrev pub output_lines : List (List (List ℕ))
  output_lines = declared (ascii "out") 96 t

  abbrev pub input_lines : List (List (List ℕ))
  input_lines = declared (ascii "in") 96 t

  -- ---- what is printed with their names

  -- the line of call c at place k
  abbrev pub entry_of : ℕ → ℕ → List ℕ
  entry_of k c =
      entry the_unit_lines output_lines input_lines k
      (call_in (length the_unit_lines) (length output_lines) (length input_lines) c)

  abbrev pub entries_of : ℕ → List ℕ → List ℕ
  entries_of = entries the_unit_lines output_lines input_lines

  abbrev pub calls_of : List ℕ → List ℕ → List ℕ
  calls_of = calls_text the_unit_lines output_lines input_lines

  abbrev pub outcome_of : Outcome → List ℕ
  outcome_of = outcome_text the_unit_lines output_lines input_lines

-- these are the places where they begin
pub record Indexed (t units outputs inputs : List ℕ) : Type 0 where
  pub unit-places : units ≡ take 32 (begins_from (ascii "unit") t 0)
  pub output-places : outputs ≡ take 96 (begins_from (ascii "out") t 0)
  pub input-places : inputs ≡ take 96 (begins_from (ascii "in") t 0)
