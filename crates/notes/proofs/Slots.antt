-- Searches through the slots behind the names: a feed, and the first input that is not joined.
use Prim.Native.Nat.{ℕ, ◌+◌, ◌*◌, ◌<◌}
use mathlib.Core.Path.{◌≡◌, sym}
use mathlib.Core.Bool.{not, ◌&&◌}
use mathlib.Core.List.{List}
use lib.ListN.{length, get_or}
use lib.Dec.{T, eqb}
use borrow.Author.Tests.{eq-eqb, ne_eqb}
use Rattle.search.specs.Least.{least_from}
use Rattle.grammar.specs.Places.{place-least}
use Rattle.grammar.specs.Draft.{no_input, input_of, feed_of, loose}
use Rattle.notes.specs.Layout.{lines_base, sources_base, feeds_base, fed_base}
use Rattle.notes.specs.Listed.{listed, listed-length, listed_at}
use Rattle.notes.specs.declared.Counts.{Counts}
use Rattle.notes.specs.Ranks.{name_at}
use Rattle.notes.specs.Notes.{output_at, input_at, feed_at, draft_of, is_fed, is_loose}

module _ (t p s : List ℕ) (c : Counts) where
  pub feed-found : (x y : ℕ) → least_from (is_fed s x y) c.feeds 0 ≡ feed_of (draft_of t p s c) x y
  unfolding feed_of draft_of is_fed feed_at
  feed-found x y =
      sym (place-least (λ f. eqb f.input x && eqb f.output y)
      (record { input = 0; output = 0 })
      (listed (feed_at s) c.feeds) (is_fed s x y) c.feeds (listed-length (feed_at s) c.feeds)
      (λ i h. rw (listed_at (feed_at s) c.feeds i (record { input = 0; output = 0 }) h)))

  pub loose-found : least_from (is_loose s) c.inputs 0 ≡ loose (draft_of t p s c)
  unfolding loose draft_of is_loose input_at
  loose-found =
      sym (place-least (λ i. eqb i.source 255) no_input
      (listed (input_at t p s) c.inputs) (is_loose s) c.inputs
      (listed-length (input_at t p s) c.inputs)
      (λ i h. rw (listed_at (input_at t p s) c.inputs i no_input h)))

  -- ---- the draft's counts are the counts

  pub units-are : length (draft_of t p s c).units ≡ c.units
  unfolding draft_of
  units-are = listed-length (name_at t p) c.units

  pub outputs-are : length (draft_of t p s c).outputs ≡ c.outputs
  unfolding draft_of
  outputs-are = listed-length (output_at t p s) c.outputs

  pub inputs_are : length (draft_of t p s c).inputs ≡ c.inputs
  unfolding draft_of
  inputs_are = listed-length (input_at t p s) c.inputs

  pub feeds-are : length (draft_of t p s c).feeds ≡ c.feeds
  unfolding draft_of
  feeds-are = listed-length (feed_at s) c.feeds

  pub source_is : (x : ℕ) → x < c.inputs
      → (input_of (draft_of t p s c) x).source ≡ get_or s (sources_base + x) 0
  unfolding draft_of input_at
  source_is x h = rw (listed_at (input_at t p s) c.inputs x no_input h)

  pub line-is : (x : ℕ) → x < c.inputs
      → (input_of (draft_of t p s c) x).line ≡ get_or p (lines_base + x) 0
  unfolding draft_of input_at
  line-is x h = rw (listed_at (input_at t p s) c.inputs x no_input h)

module _ (s : List ℕ) (x y k : ℕ) where
  pub fed-here : get_or s (feeds_base + 2 * k) 0 ≡ x → get_or s (fed_base + 2 * k) 0 ≡ y
      → T (is_fed s x y k)
  unfolding is_fed
  fed-here a b = rw (eq-eqb _ _ a, eq-eqb _ _ b) tt

  pub other-input : (get_or s (feeds_base + 2 * k) 0 ≡ x → ⊥) → T (not (is_fed s x y k))
  unfolding is_fed
  other-input n = rw (ne_eqb _ _ n) tt

  pub other-output : get_or s (feeds_base + 2 * k) 0 ≡ x → (get_or s (fed_base + 2 * k) 0 ≡ y → ⊥)
      → T (not (is_fed s x y k))
  unfolding is_fed
  other-output a n = rw (eq-eqb _ _ a, ne_eqb _ _ n) tt
