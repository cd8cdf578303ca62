-- A text that is read: its table is that of its lines, numbered in line order.
use Rattle.std.specs.Prelude.{ℕ, ◌<◌, ◌≤◌, ◌≡◌, refl, List, [], map, length, get_or}
use Rattle.std.proofs.Common.{ap, sym, ◌∙◌}
use Rattle.std.proofs.Math.Path.{fun_ext}
use Rattle.std.proofs.lemmas.Simd.{map-map}
use Rattle.std.proofs.Math.ListN.{length-map}
use Rattle.grammar.specs.Quoted.{ascii}
use Rattle.grammar.specs.Words.{same}
use Rattle.grammar.specs.Rows.{rows, word}
use Rattle.grammar.specs.Opening.{Row, lines_of}
use Rattle.grammar.specs.Draft.{Draft, Output, Input, blank, loose}
use Rattle.grammar.specs.Reading.{Reading, reading, packed}
use Rattle.reading.specs.Proper.{Proper}
use Rattle.reading.specs.Takes.{Runs}
use Rattle.reading.specs.Declared.{bare, output_by, input_by}
use Rattle.reading.specs.Reads.{Read, text_read}
use Rattle.reading.specs.Numbers.{unit_number, output_number, input_number}
use Rattle.reading.specs.Numbers.{source_number, feed_numbers, numbered}
use Rattle.reading.specs.First.{below, unit-below, output-below}
use Rattle.reading.specs.First.{input-below, join-below, numbered_below}
use Rattle.reading.proofs.Named.{units-are, outputs-are, inputs_are, feeds-are}
use Rattle.reading.proofs.Named.{outputs-count, inputs-count, unit-named}
use Rattle.reading.proofs.Named.{feed-named, unit-at, output-at, input-at}
use Rattle.reading.proofs.Sourced.{sources-are, join-at}

module _ (d : Draft) (fs : List Row) (r : Runs blank 2 fs d) (g : Proper d)
    (all : length d.inputs ≤ loose d) where
  of_outputs : map (λ (o : Output). o.owner) d.outputs
      ≡ map (λ f. unit_number fs (word f 1)) (lines_of fs (ascii "out"))
  of_outputs =
      ap (map (λ (o : Output). o.owner)) (outputs-are d fs r g)
      ∙ map-map (λ (o : Output). o.owner) (output_by d) (lines_of fs (ascii "out"))
      ∙ ap (λ h. map h (lines_of fs (ascii "out"))) (fun_ext (λ f. unit-named d fs r g (word f 1)))

  of_inputs : {A : Type 0} (h : Input → A) → ((i : Input) → h i ≡ h (bare i))
      → map h d.inputs ≡ map (λ f. h (input_by d f)) (lines_of fs (ascii "in"))
  of_inputs h e =
      ap (λ k. map k d.inputs) (fun_ext e) ∙ sym (map-map h bare d.inputs)
      ∙ ap (map h) (inputs_are d fs r g)
      ∙ map-map h (input_by d) (lines_of fs (ascii "in"))

  of_owners : map (λ (i : Input). i.owner) d.inputs
      ≡ map (λ f. unit_number fs (word f 1)) (lines_of fs (ascii "in"))
  of_owners =
      of_inputs (λ i. i.owner) (λ i. refl)
      ∙ ap (λ h. map h (lines_of fs (ascii "in"))) (fun_ext (λ f. unit-named d fs r g (word f 1)))

  of_feeds : d.feeds ≡ map (feed_numbers fs) (lines_of fs (ascii "feed"))
  of_feeds =
      feeds-are d fs r g ∙ ap (λ h. map h (lines_of fs (ascii "feed")))
      (fun_ext (feed-named d fs r g))

  packed-numbered : packed d ≡ numbered fs
  unfolding packed numbered
  packed-numbered = rw (
    of_outputs,
    of_owners,
    of_inputs (λ i. i.kind) (λ i. refl),
    sources-are d fs r g all,
    units-are d fs r g,
    length-map (lines_of fs (ascii "unit")) (λ f. word f 1),
    outputs-count d fs r g,
    inputs-count d fs r g,
    of_feeds,
    length-map (lines_of fs (ascii "feed")) (feed_numbers fs),
  )

-- ---- the theorems
module _ (room : ℕ) (t : List ℕ) (success : (reading room t).number ≡ 0) where
  abbrev read : Read t (reading room t)
  read = text_read room t success

  -- the bytes are those of the lines, numbered in line order
  pub read-numbered : (reading room t).bytes ≡ numbered (rows t)
  read-numbered =
      ap (λ (r : Reading). r.bytes) read.result
      ∙ packed-numbered read.draft read.below read.run read.proper read.joined
      ∙ sym (numbered_below read.first read.below read.opened)
      ∙ ap numbered (sym read.lines)

  -- each `unit` line declares the unit whose number is its place among them: no name stands twice
  pub unit-numbered : (u : ℕ) → u < length (lines_of (rows t) (ascii "unit"))
      → let f = get_or (lines_of (rows t) (ascii "unit")) u [] in
      unit_number (rows t) (word f 1) ≡ u
  unfolding same
  unit-numbered = rw (
    read.lines,
    unit-below read.first read.below read.opened,
    below read.first read.below read.opened (ascii "unit") tt,
  ) (unit-at read.draft read.below read.run read.proper)

  -- so with the `out` lines and the outputs of a unit
  pub output-numbered : (y : ℕ) → y < length (lines_of (rows t) (ascii "out"))
      → let f = get_or (lines_of (rows t) (ascii "out")) y [] in
      output_number (rows t) (word f 1) (word f 2) ≡ y
  unfolding same
  output-numbered = rw (
    read.lines,
    output-below read.first read.below read.opened,
    below read.first read.below read.opened (ascii "out") tt,
  ) (output-at read.draft read.below read.run read.proper)

  -- and with the `in` lines and the inputs of a unit
  pub input-numbered : (x : ℕ) → x < length (lines_of (rows t) (ascii "in"))
      → let f = get_or (lines_of (rows t) (ascii "in")) x [] in
      input_number (rows t) (word f 1) (word f 2) ≡ x
  unfolding same
  input-numbered = rw (
    read.lines,
    input-below read.first read.below read.opened,
    below read.first read.below read.opened (ascii "in") tt,
  ) (input-at read.draft read.below read.run read.proper)

  -- each `join` line gives the input it names the output it names: no input is joined twice
  pub join-numbered : (j : ℕ) → j < length (lines_of (rows t) (ascii "join"))
      → let f = get_or (lines_of (rows t) (ascii "join")) j [] in
      source_number (rows t) (word f 3) (word f 4) ≡ output_number (rows t) (word f 1) (word f 2)
  unfolding source_number same
  join-numbered j = rw (
    read.lines,
    join-below read.first read.below read.opened,
    below read.first read.below read.opened (ascii "join") tt,
  ) (λ h. rw (join-at read.draft read.below read.run read.proper j h))
