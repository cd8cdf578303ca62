-- The table of a text that is read, part by part and place by place.
use Rattle.std.specs.Prelude.{ℕ, ◌+◌, ◌*◌, ◌<◌, ◌≡◌, refl, length}
use Rattle.std.proofs.Math.Path.{ap}
use Rattle.std.proofs.Common.{◌∙◌}
use mathlib.Core.List.{List, [], map}
use Rattle.std.proofs.Math.ListN.{get_or, length-map}
use Rattle.table.specs.Shape.{Shape}
use Rattle.table.specs.Packed.{units, outputs, inputs, feeds, shape_of}
use Rattle.grammar.specs.Quoted.{ascii}
use Rattle.grammar.specs.Rows.{rows, word}
use Rattle.grammar.specs.Opening.{Row, lines_of}
use Rattle.grammar.specs.Draft.{Feed}
use Rattle.grammar.specs.Lines.{kind_of}
use Rattle.grammar.specs.Reading.{reading, pairs as feed_pairs}
use Rattle.reading.specs.Proper.{no_feed}
use Rattle.reading.specs.Parts.{map_in, map_at, pairs-long, pairs-input}
use Rattle.reading.specs.Parts.{pairs-output, output-owners, input-owners}
use Rattle.reading.specs.Parts.{kinds-are, sources-are, pairs-are}
use Rattle.reading.specs.Numbers.{unit_number, output_number, input_number}
use Rattle.reading.specs.Numbers.{source_number, feed_numbers, numbered}
use Rattle.reading.proofs.Numbered.{read-numbered}
use Rattle.reading.specs.InOrder.{InOrder}

module _ (fs : List Row) where
  abbrev us : List Row
  us = lines_of fs (ascii "unit")

  abbrev ys : List Row
  ys = lines_of fs (ascii "out")

  abbrev xs : List Row
  xs = lines_of fs (ascii "in")

  abbrev ks : List Row
  ks = lines_of fs (ascii "feed")

  abbrev unit_of : Row → ℕ
  unit_of f = unit_number fs (word f 1)

  abbrev kind : Row → ℕ
  kind f = kind_of (word f 3)

  abbrev source : Row → ℕ
  source f = source_number fs (word f 1) (word f 2)

  abbrev qs : List ℕ
  qs = feed_pairs (map (feed_numbers fs) ks)

  long : length qs ≡ 2 * length ks
  long = pairs-long (map (feed_numbers fs) ks) ∙ ap (λ n. 2 * n) (length-map ks (feed_numbers fs))

  numbered_in_order : InOrder fs (shape_of (numbered fs))
  unfolding numbered units outputs inputs feeds feed_numbers
  numbered_in_order =
      let oo = map unit_of ys in
      let io = map unit_of xs in
      let kk = map kind xs in
      let ss = map source xs in
      let la = length-map ys unit_of in
      let lb = length-map xs unit_of in
      let lc = length-map xs kind in
      let le = length-map xs source in
      let P = output-owners (length us) (length ys) (length xs)
      (length ks) oo io kk ss qs la lb lc le long in
      let Q = input-owners (length us) (length ys) (length xs)
      (length ks) oo io kk ss qs la lb lc le long in
      let K = kinds-are (length us) (length ys) (length xs)
      (length ks) oo io kk ss qs la lb lc le long in
      let S = sources-are (length us) (length ys) (length xs)
      (length ks) oo io kk ss qs la lb lc le long in
      let F = pairs-are (length us) (length ys) (length xs)
      (length ks) oo io kk ss qs la lb lc le long in
      record {
        unit_lines = refl;
        output-lines = refl;
        input-lines = refl;
        feed-lines = refl;
        output-owner = λ y h. ap (λ l. get_or l y 0) P ∙ map_at unit_of [] ys y h;
        input-owner = λ x h. ap (λ l. get_or l x 0) Q ∙ map_at unit_of [] xs x h;
        input-kind = λ x h. ap (λ l. get_or l x 0) K ∙ map_at kind [] xs x h;
        input-source = λ x h. ap (λ l. get_or l x 0) S ∙ map_at source [] xs x h;
        feed-input = λ k h. ap (λ l. get_or l (2 * k) 0) F
            ∙ pairs-input (map (feed_numbers fs) ks) k (rw (length-map ks (feed_numbers fs)) h)
            ∙ ap (λ (f : Feed). f.input) (map_in (feed_numbers fs) [] no_feed ks k h);
        feed-output = λ k h. ap (λ l. get_or l (2 * k + 1) 0) F
            ∙ pairs-output (map (feed_numbers fs) ks) k (rw (length-map ks (feed_numbers fs)) h)
            ∙ ap (λ (f : Feed). f.output) (map_in (feed_numbers fs) [] no_feed ks k h);
      }

-- a text that is read gives a table in line order
pub read_in_order : (room : ℕ) (t : List ℕ) → (reading room t).number ≡ 0
    → InOrder (rows t) (shape_of (reading room t).bytes)
read_in_order room t e = rw (read-numbered room t e) (numbered_in_order (rows t))
