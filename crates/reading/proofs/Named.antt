-- The numbers of the draft that the lines leave are those in line order.
use Rattle.std.specs.Prelude.{ℕ, ◌<◌, ◌≡◌, ◌&&◌}
use Rattle.std.proofs.Math.Path.{ap, sym}
use Rattle.std.proofs.Common.{◌∙◌, subst, arith, eqb→eq}
use Rattle.std.proofs.Math.Bool.{Bool}
use mathlib.Core.List.{List, [], map}
use Rattle.std.proofs.Math.ListN.{length, get_or, length-map}
use Rattle.std.proofs.Math.Dec.{eqb}
use Rattle.search.specs.Truth.{same_test, eq_true}
use Rattle.grammar.specs.Quoted.{ascii}
use Rattle.grammar.specs.Words.{same}
use Rattle.grammar.specs.Same.{same_true, same_self}
use Rattle.grammar.specs.Rows.{word, place}
use Rattle.grammar.specs.Places.{place_is}
use Rattle.grammar.specs.Opening.{Row, lines_of}
use Rattle.grammar.specs.Draft.{Draft, Output, Input, blank, no_input}
use Rattle.grammar.specs.Draft.{unit_named, output_named, input_named}
use Rattle.reading.specs.Proper.{Proper, no_output}
use Rattle.reading.specs.Parts.{map_in}
use Rattle.reading.specs.Takes.{Runs}
use Rattle.reading.specs.Found.{place_map, place-alike}
use Rattle.reading.specs.Declared.{onward, output_by, input_by, feed_by, bare, units-run}
use Rattle.reading.specs.Declared.{outputs-run, inputs-run, feeds-run, named-bare}
use Rattle.reading.specs.Once.{same_output, same_input, units-once, outputs-once, inputs-once}
use Rattle.reading.specs.Numbers.{unit_number, port_number, output_number}
use Rattle.reading.specs.Numbers.{input_number, feed_numbers}

module _ (d : Draft) (fs : List Row) (r : Runs blank 2 fs d) (g : Proper d) where
  abbrev the_unit_lines : List Row
  the_unit_lines = lines_of fs (ascii "unit")

  abbrev output_lines : List Row
  output_lines = lines_of fs (ascii "out")

  abbrev input_lines : List Row
  input_lines = lines_of fs (ascii "in")

  -- ---- what the draft holds
  pub units-are : d.units ≡ map (λ f. word f 1) the_unit_lines
  unfolding onward blank
  units-are = units-run r

  pub outputs-are : d.outputs ≡ map (output_by d) output_lines
  unfolding onward blank
  outputs-are = outputs-run r

  pub inputs_are : map bare d.inputs ≡ map (input_by d) input_lines
  unfolding onward blank
  inputs_are = inputs-run r

  pub feeds-are : d.feeds ≡ map (feed_by d) (lines_of fs (ascii "feed"))
  unfolding onward blank
  feeds-are = feeds-run r

  -- ---- a unit's number
  pub unit-named : (w : List ℕ) → unit_named d w ≡ unit_number fs w
  unfolding unit_named unit_number
  unit-named w =
      ap (place (λ n. same n w)) units-are
      ∙ place_map (λ n. same n w) (λ f. word f 1) the_unit_lines

  -- the name at the number of a unit that is known
  name_of : (w : List ℕ) → unit_named d w < length d.units
      → get_or d.units (unit_named d w) [] ≡ w
  unfolding unit_named
  name_of w h = same_true _ w ((place_is (λ n. same n w) [] d.units).passes h)

  -- one number, one name
  owner-alike : (a v : List ℕ) → unit_named d a < length d.units
      → eqb (unit_named d a) (unit_named d v) ≡ same a v
  owner-alike a v h = same_test _ _
      (λ t.
      let e : unit_named d a ≡ unit_named d v = eqb→eq _ _ t in
      let n : a ≡ v = sym (name_of a h) ∙ ap (λ u. get_or d.units u []) e
      ∙ name_of v (subst (λ u. u < length d.units) e h) in
      rw n (same_self v))
      (λ t. eq_true (unit_named d a) (unit_named d v) (ap (unit_named d) (same_true a v t)))

  -- ---- a port's number
  output-at-place : (y : ℕ) → y < length output_lines
      → get_or d.outputs y no_output ≡ output_by d (get_or output_lines y [])
  output-at-place y h = ap (λ l. get_or l y no_output) outputs-are
      ∙ map_in (output_by d) [] no_output output_lines y h

  input-at-place : (x : ℕ) → x < length input_lines
      → get_or (map bare d.inputs) x no_input ≡ input_by d (get_or input_lines x [])
  input-at-place x h =
      ap (λ l. get_or l x no_input) inputs_are ∙ map_in (input_by d) [] no_input input_lines x h

  pub outputs-count : length d.outputs ≡ length output_lines
  outputs-count = ap length outputs-are ∙ length-map output_lines (output_by d)

  pub inputs-count : length d.inputs ≡ length input_lines
  inputs-count =
      sym (length-map d.inputs bare) ∙ ap length inputs_are ∙ length-map input_lines (input_by d)

  output-known : (y : ℕ) → y < length output_lines
      → unit_named d (word (get_or output_lines y []) 1) < length d.units
  output-known y h =
      subst (λ (z : Output). z.owner < length d.units) (output-at-place y h)
      (g.output-owned y (rw outputs-count h))

  pub output-named : (v w : List ℕ) → output_named d (unit_named d v) w ≡ output_number fs v w
  unfolding output_named port_number
  output-named v w =
      let p : Output → Bool = λ o. eqb o.owner (unit_named d v) && same o.name w in
      ap (place p) outputs-are ∙ place_map p (output_by d) output_lines
      ∙ place-alike _ _ [] output_lines
      (λ i h. ap (λ b. b && same (word (get_or output_lines i []) 2) w)
      (owner-alike (word (get_or output_lines i []) 1) v (output-known i h)))

  input-known : (x : ℕ) → x < length input_lines
      → unit_named d (word (get_or input_lines x []) 1) < length d.units
  input-known x h =
      let q : x < length d.inputs = rw inputs-count h in
      subst (λ (z : Input). z.owner < length d.units)
      (sym (map_in bare no_input no_input d.inputs x q) ∙ input-at-place x h) (g.input-owned x q)

  pub input-named : (v w : List ℕ) → input_named d (unit_named d v) w ≡ input_number fs v w
  unfolding port_number
  input-named v w =
      let p : Input → Bool = λ i. eqb i.owner (unit_named d v) && same i.name w in
      sym (named-bare d (unit_named d v) w) ∙ ap (place p) inputs_are
      ∙ place_map p (input_by d) input_lines
      ∙ place-alike _ _ [] input_lines
      (λ i h. ap (λ b. b && same (word (get_or input_lines i []) 2) w)
      (owner-alike (word (get_or input_lines i []) 1) v (input-known i h)))

  pub feed-named : (f : Row) → feed_by d f ≡ feed_numbers fs f
  unfolding feed_numbers
  feed-named f = rw (input-named (word f 1) (word f 2), output-named (word f 1) (word f 3))

  -- ---- each line has its own place as its number
  pub unit-at : (u : ℕ) → u < length the_unit_lines
      → unit_number fs (word (get_or the_unit_lines u []) 1) ≡ u
  unfolding blank unit_named
  unit-at u h =
      let l : u < length d.units = rw (units-are, length-map the_unit_lines (λ f. word f 1)) h in
      let n : get_or d.units u [] ≡ word (get_or the_unit_lines u []) 1 =
      ap (λ l. get_or l u []) units-are ∙ map_in (λ f. word f 1) [] [] the_unit_lines u h in
      sym (unit-named (word (get_or the_unit_lines u []) 1)) ∙ ap (unit_named d) (sym n)
      ∙ units-once r (λ i h. absurd (omega arith)) u l

  pub output-at : (y : ℕ) → y < length output_lines
      → output_number fs (word (get_or output_lines y []) 1) (word (get_or output_lines y []) 2) ≡ y
  unfolding blank output_named
  output-at y h =
      sym (output-named (word (get_or output_lines y []) 1) (word (get_or output_lines y []) 2))
      ∙ ap (λ o. place (same_output o) d.outputs) (sym (output-at-place y h))
      ∙ outputs-once r (λ i h. absurd (omega arith)) y (rw outputs-count h)

  pub input-at : (x : ℕ) → x < length input_lines
      → input_number fs (word (get_or input_lines x []) 1) (word (get_or input_lines x []) 2) ≡ x
  unfolding blank
  input-at x h =
      let f = get_or input_lines x [] in
      sym (input-named (word f 1) (word f 2))
      ∙ sym (named-bare d (unit_named d (word f 1)) (word f 2))
      ∙ ap (λ i. place (same_input i) (map bare d.inputs)) (sym (input-at-place x h))
      ∙ inputs-once r (λ i h. absurd (omega arith)) x
      (rw (length-map d.inputs bare, inputs-count) h)
