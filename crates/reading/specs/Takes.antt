-- What a line that is taken adds to the draft, and the draft that lines taken in turn give.
use Rattle.std.specs.Prelude.{ℕ, suc, ◌<◌, ◌≤◌, ◌≡◌, Bool, List, [], ◌∷◌, length, get_or}
use Rattle.std.proofs.Math.Path.{refl}
use Rattle.std.proofs.Math.Bool.{true, false}
use Rattle.std.proofs.Common.{arith, eqb-true, ltb-true, ltb-false}
use Rattle.std.proofs.lemmas.Bool.{not-false}
use Rattle.grammar.specs.Quoted.{ascii}
use Rattle.grammar.specs.Rows.{word}
use Rattle.grammar.specs.Opening.{Row}
use Rattle.grammar.specs.Draft.{Draft, unjoined, no_input, unit_named, output_named, input_named}
use Rattle.grammar.specs.Draft.{known, add_unit, add_output, add_input, add_feed, add_join}
use Rattle.grammar.specs.Lines.{Outcome, refuse, refused, taken, kind_of, unit_line}
use Rattle.grammar.specs.Lines.{out_line, in_line, feed_line, join_line, line}
use Rattle.reading.specs.Keyword.{by-keyword}

-- line k, with fields f, is taken and leaves this draft
pub data Takes (d : Draft) (k : ℕ) (f : Row) : Draft → Type 0 where
  takes-unit : word f 0 ≡ ascii "unit" → length d.units ≤ unit_named d (word f 1)
      → Takes d k f (add_unit d (word f 1))
  takes-output : word f 0 ≡ ascii "out" → unit_named d (word f 1) < length d.units
      → length d.outputs ≤ output_named d (unit_named d (word f 1)) (word f 2)
      → Takes d k f (add_output d (record { owner = unit_named d (word f 1); name = word f 2 }))
  takes-input : word f 0 ≡ ascii "in" → unit_named d (word f 1) < length d.units
      → length d.inputs ≤ input_named d (unit_named d (word f 1)) (word f 2)
      → Takes d k f (add_input d (record {
        owner = unit_named d (word f 1);
        name = word f 2;
        kind = kind_of (word f 3);
        source = unjoined;
        line = k;
      }))
  takes-feed : word f 0 ≡ ascii "feed" → unit_named d (word f 1) < length d.units
      → input_named d (unit_named d (word f 1)) (word f 2) < length d.inputs
      → output_named d (unit_named d (word f 1)) (word f 3) < length d.outputs
      → Takes d k f (add_feed d (record {
        input = input_named d (unit_named d (word f 1)) (word f 2);
        output = output_named d (unit_named d (word f 1)) (word f 3);
      }))
  takes-join : word f 0 ≡ ascii "join" → unit_named d (word f 1) < length d.units
      → output_named d (unit_named d (word f 1)) (word f 2) < length d.outputs
      → unit_named d (word f 3) < length d.units
      → input_named d (unit_named d (word f 3)) (word f 4) < length d.inputs
      → (get_or d.inputs (input_named d (unit_named d (word f 3)) (word f 4)) no_input).source
      ≡ unjoined
      → Takes d k f (add_join d (input_named d (unit_named d (word f 3)) (word f 4))
      (output_named d (unit_named d (word f 1)) (word f 2)))

module _ (d : Draft) (k : ℕ) (f : Row) where
  -- not refused: the test did not pass, and what is left was taken
  passed : (b : Bool) (n : ℕ) (o : Outcome) → 0 < n
      → (b ≡ false → o.number ≡ 0 → Takes d k f o.draft)
      → (refuse b n d o).number ≡ 0 → Takes d k f (refuse b n d o).draft
  unfolding refuse refused
  passed true n o p h e = absurd (omega arith)
  passed false n o p h e = h refl e

  unit-taken : word f 0 ≡ ascii "unit" → (unit_line d f).number ≡ 0
      → Takes d k f (unit_line d f).draft
  unfolding unit_line taken known
  unit-taken w =
      passed _ 24 _ (omega arith) λ a.
      passed _ 25 _ (omega arith) λ a.
      passed _ 26 _ (omega arith) λ n.
      passed _ 29 _ (omega arith) λ a z.
      takes-unit w (ltb-false _ _ n)

  output-taken : word f 0 ≡ ascii "out" → (out_line d f).number ≡ 0
      → Takes d k f (out_line d f).draft
  unfolding out_line taken known
  output-taken w =
      passed _ 24 _ (omega arith) λ a.
      passed _ 25 _ (omega arith) λ a.
      passed _ 27 _ (omega arith) λ u.
      passed _ 26 _ (omega arith) λ n.
      passed _ 29 _ (omega arith) λ a z.
      takes-output w (ltb-true _ _ (not-false _ u)) (ltb-false _ _ n)

  input-taken : word f 0 ≡ ascii "in" → (in_line d k f).number ≡ 0
      → Takes d k f (in_line d k f).draft
  unfolding in_line taken known
  input-taken w =
      passed _ 24 _ (omega arith) λ a.
      passed _ 25 _ (omega arith) λ a.
      passed _ 28 _ (omega arith) λ a.
      passed _ 27 _ (omega arith) λ u.
      passed _ 26 _ (omega arith) λ n.
      passed _ 29 _ (omega arith) λ a z.
      takes-input w (ltb-true _ _ (not-false _ u)) (ltb-false _ _ n)

  feed-taken : word f 0 ≡ ascii "feed" → (feed_line d f).number ≡ 0
      → Takes d k f (feed_line d f).draft
  unfolding feed_line taken known
  feed-taken w =
      passed _ 24 _ (omega arith) λ a.
      passed _ 25 _ (omega arith) λ a.
      passed _ 27 _ (omega arith) λ u.
      passed _ 27 _ (omega arith) λ x.
      passed _ 27 _ (omega arith) λ y.
      passed _ 32 _ (omega arith) λ a.
      passed _ 29 _ (omega arith) λ a z.
      takes-feed w (ltb-true _ _ (not-false _ u)) (ltb-true _ _ (not-false _ x))
      (ltb-true _ _ (not-false _ y))

  join-taken : word f 0 ≡ ascii "join" → (join_line d f).number ≡ 0
      → Takes d k f (join_line d f).draft
  unfolding join_line taken known
  join-taken w =
      passed _ 24 _ (omega arith) λ a.
      passed _ 25 _ (omega arith) λ a.
      passed _ 27 _ (omega arith) λ u.
      passed _ 27 _ (omega arith) λ y.
      passed _ 27 _ (omega arith) λ v.
      passed _ 27 _ (omega arith) λ x.
      passed _ 30 _ (omega arith) λ s z.
      takes-join w (ltb-true _ _ (not-false _ u)) (ltb-true _ _ (not-false _ y))
      (ltb-true _ _ (not-false _ v))
      (ltb-true _ _ (not-false _ x)) (eqb-true _ _ (not-false _ s))

  -- a line with no refusal is one of the five, and adds what it declares
  pub line_taken : (line d k f).number ≡ 0 → Takes d k f (line d k f).draft
  unfolding refused
  line_taken = by-keyword (λ o. o.number ≡ 0 → Takes d k f o.draft) d k f
      unit-taken output-taken input-taken feed-taken join-taken (λ z. absurd (omega arith))

-- the lines from line k on are taken one after the other, and leave the last draft
pub data Runs : Draft → ℕ → List Row → Draft → Type 0 where
  ends : {d : Draft} {k : ℕ} → Runs d k [] d
  goes_on : {d e last : Draft} {k : ℕ} {f : Row} {fs : List Row}
      → Takes d k f e → Runs e (suc k) fs last → Runs d k (f ∷ fs) last
