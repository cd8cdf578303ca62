-- The first line declares nothing: the numbers are those of the lines below it.
use Rattle.std.specs.Prelude.{ℕ, suc, ◌≡◌, not, List, ◌∷◌, T}
use Rattle.std.proofs.Math.Path.{fun_ext, ap}
use Rattle.std.proofs.Common.{◌∙◌}
use Rattle.grammar.specs.Quoted.{ascii}
use Rattle.grammar.specs.Words.{same}
use Rattle.grammar.specs.Rows.{word, place}
use Rattle.grammar.specs.Opening.{Row, lines_of}
use Rattle.reading.specs.Joined.{none_more}
use Rattle.reading.specs.Numbers.{unit_number, port_number, output_number}
use Rattle.reading.specs.Numbers.{input_number, join_place, join_of, source_number}
use Rattle.reading.specs.Numbers.{feed_numbers, is_loose, numbered}

module _ (first : Row) (fs : List Row) (opened : word first 0 ≡ ascii "cosim") where
  pub below : (w : List ℕ) → T (not (same (ascii "cosim") w))
      → lines_of (first ∷ fs) w ≡ lines_of fs w
  below w n = none_more w first fs (ascii "cosim") opened n

  pub unit-below : unit_number (first ∷ fs) ≡ unit_number fs
  unfolding unit_number same
  unit-below = fun_ext (λ n. rw (below (ascii "unit") tt))

  pub output-below : output_number (first ∷ fs) ≡ output_number fs
  unfolding port_number same
  output-below = fun_ext (λ u. fun_ext (λ n. rw (below (ascii "out") tt)))

  pub input-below : input_number (first ∷ fs) ≡ input_number fs
  unfolding port_number same
  input-below = fun_ext (λ u. fun_ext (λ n. rw (below (ascii "in") tt)))

  place-below : join_place (first ∷ fs) ≡ join_place fs
  unfolding join_place same
  place-below = fun_ext (λ u. fun_ext (λ n. rw (below (ascii "join") tt)))

  pub join-below : join_of (first ∷ fs) ≡ join_of fs
  unfolding join_of same
  join-below = fun_ext (λ u. fun_ext (λ n. rw (place-below, below (ascii "join") tt)))

  source-below : source_number (first ∷ fs) ≡ source_number fs
  unfolding source_number
  source-below = fun_ext (λ u. fun_ext (λ n. rw (join-below, output-below)))

  feed-below : feed_numbers (first ∷ fs) ≡ feed_numbers fs
  unfolding feed_numbers
  feed-below = fun_ext (λ f. rw (input-below, output-below))

  pub numbered_below : numbered (first ∷ fs) ≡ numbered fs
  unfolding numbered same
  numbered_below = rw (
    unit-below,
    source-below,
    feed-below,
    below (ascii "unit") tt,
    below (ascii "out") tt,
    below (ascii "in") tt,
    below (ascii "feed") tt,
  )

  loose-alike : is_loose (first ∷ fs) ≡ is_loose fs
  unfolding is_loose same
  loose-alike = fun_ext (λ f. rw (place-below, below (ascii "join") tt))

  -- nor is it an `in` line
  pub loose-below : place (is_loose (first ∷ fs)) (first ∷ fs) ≡ suc (place (is_loose fs) fs)
  unfolding place is_loose same
  loose-below = ap (λ p. place p (first ∷ fs)) loose-alike ∙ rw opened
