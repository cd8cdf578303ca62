-- No listing is longer than 8,860 bytes, so that a buffer of that size has room for every listing.
use Rattle.std.specs.Prelude.{ℕ, ◌≤◌, ◌<◌, ◌≡◌, List, length, get_or}
use Rattle.std.proofs.Math.Path.{refl}
use Rattle.std.proofs.Common.{arith}
use Rattle.std.proofs.Math.Decide.{ℕ_discrete}
use borrow.Author.Tests.{eq-eqb, ne_eqb, le-ltb}
use Rattle.table.specs.Packed.{units, outputs, inputs}
use Rattle.table.proofs.Checked.{few-calls}
use Rattle.table.specs.declared.Answer.{Answer}
use Rattle.orders.specs.Turned.{Once}
use Rattle.placing.specs.Placing.{call_count}
use Rattle.sorter.specs.Ordering.{ordering}
use Rattle.sorter.proofs.Demand.{order-first, order_else}
use Rattle.grammar.specs.Quoted.{ascii}
use Rattle.grammar.specs.Words.{same}
use Rattle.grammar.specs.Rows.{rows}
use Rattle.grammar.specs.Opening.{Row, lines_of}
use Rattle.grammar.specs.Reading.{reading}
use Rattle.reading.proofs.Sound.{lines-sound}
use Rattle.reading.specs.Numbers.{numbered}
use Rattle.reading.proofs.Numbered.{read-numbered}
use Rattle.reading.specs.Names.{read-spelled}
use Rattle.pen.specs.Chain.{decimal-long}
use Rattle.printing.specs.Entries.{calls_text, outcome_text}
use Rattle.printing.specs.Lengths.{refusal-long}
use Rattle.printing.specs.Listed.{listed}
use Rattle.listing.specs.Listing.{listing}
use Rattle.listing.specs.Examples.{greatest_text, examples}
use Rattle.listing.specs.Longest.{greatest, calls-most}

-- ---- a text that is read: an order or a cycle of its calls, none of them twice
module _ (t : List ℕ) (e : (reading 644 t).number ≡ 0) where
  abbrev the_unit_lines : List Row
  the_unit_lines = lines_of (rows t) (ascii "unit")

  abbrev output_lines : List Row
  output_lines = lines_of (rows t) (ascii "out")

  abbrev input_lines : List Row
  input_lines = lines_of (rows t) (ascii "in")

  abbrev table : List ℕ
  table = numbered (rows t)

  text_most : (w cs : List ℕ) → length w ≡ 5
      → ((i : ℕ) → i < length cs → get_or cs i 0 < call_count table) → Once cs
      → length (calls_text the_unit_lines output_lines input_lines w cs) ≤ greatest
  unfolding numbered units outputs inputs same
  text_most w cs l =
      let spelled = read-spelled 644 t e in
      let c = (lines-sound 644 t e).counted in
      calls-most the_unit_lines output_lines input_lines
      (spelled (ascii "unit") tt) (spelled (ascii "out") tt) (spelled (ascii "in") tt)
      w cs l c.units-most c.outputs-most c.inputs-most

  outcome-most : length (outcome_text the_unit_lines output_lines input_lines (ordering table 224))
      ≤ greatest
  unfolding outcome_text
  outcome-most =
      let sound = lines-sound 644 t e in
      let enough = few-calls table sound in
      elim (ℕ_discrete (ordering table 224).answer.number 0) [
        | yes z ↦
            (let k = (order-first table 224 sound enough z).0.keeps in
            rw (eq-eqb _ 0 z) (text_most (ascii "order") _ refl k.calls k.once))
        | no z ↦
            (let (nine, long, s) = order_else table 224 sound enough z in
            rw (ne_eqb _ 0 z, eq-eqb _ 9 nine)
            (text_most (ascii "cycle") _ refl s.cycle.calls s.once))
      ]

  read-most : length (listing t) ≤ greatest
  unfolding listing
  read-most = rw (eq-eqb (reading 644 t).number 0 e, read-numbered 644 t e) outcome-most

-- ---- the theorem, for every text of any bytes
pub listing-most : (t : List ℕ) → length (listing t) ≤ 8860
unfolding listing
listing-most t =
    let n = (reading 644 t).number in
    let k = (reading 644 t).place in
    elim (ℕ_discrete n 0) [
      | yes e ↦ read-most t e
      | no z ↦ rw (ne_eqb n 0 z) (omega (arith, refusal-long n k, decimal-long n, decimal-long k))
    ]

-- and a text whose listing has so many
pub attained : (t : List ℕ) × (length (listing t) ≡ 8860)
attained = (greatest_text, examples.4)

-- what `list` answers where it is lent 8,860 bytes or more: 0 and the length, and never 34
pub list_fits : (t : List ℕ) (room : ℕ) (r : Answer) → r ≡ (listed (listing t) room).answer
    → 8860 ≤ room
    → (r.number ≡ 0) × (r.place ≡ length (listing t)) × (r.place ≤ 8860)
unfolding listed
list_fits t room r e h =
    rw (e, le-ltb room (length (listing t)) (omega (arith, listing-most t)))
    (refl, refl, listing-most t)
