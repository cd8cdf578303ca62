-- Each line keeps a proper draft proper.
use Rattle.std.specs.Prelude.{ℕ, ◌<◌, ◌≤◌, ◌≡◌, List, length}
use Rattle.std.proofs.Math.Path.{refl, sym}
use Rattle.std.proofs.Common.{◌∙◌, arith}
use mathlib.Core.Bool.{Bool, true, false, not, cond, ◌&&◌}
use Rattle.std.proofs.Math.ListN.{get_or}
use Rattle.std.proofs.Math.Dec.{T, eqb}
use borrow.Author.Tests.{eqb-true, leb-false, ltb-true, ltb-false, not-false, eq-eqb}
use Rattle.search.specs.Truth.{T_and, is_true}
use Rattle.grammar.specs.Words.{same}
use Rattle.grammar.specs.Rows.{word}
use Rattle.grammar.specs.Places.{place_is}
use Rattle.grammar.specs.Draft.{Draft, unjoined, no_input, unit_named}
use Rattle.grammar.specs.Draft.{output_named, input_named, feed_of, known}
use Rattle.grammar.specs.Lines.{Outcome, refuse, refused, taken, kind_of, unit_line}
use Rattle.grammar.specs.Lines.{out_line, in_line, feed_line, join_line, line}
use Rattle.reading.specs.Proper.{Proper, no_output, no_feed, unit-proper, output-proper}
use Rattle.reading.specs.Proper.{input-proper, feed-proper, join-proper}
use Rattle.reading.specs.Keyword.{by-keyword}

-- a refusal keeps the draft
or_refused : (b : Bool) (n : ℕ) (d : Draft) (o : Outcome) → Proper d
    → (b ≡ false → Proper o.draft)
    → Proper (refuse b n d o).draft
unfolding refuse refused
or_refused true n d o g h = g
or_refused false n d o g h = h refl

kind-low : (w : List ℕ) → eqb (kind_of w) 2 ≡ false → kind_of w ≤ 1
unfolding kind_of
kind-low w = go (same w _) (same w _)
  where
    go : (a b : Bool) → eqb (cond a 0 (cond b 1 2)) 2 ≡ false → cond a 0 (cond b 1 2) ≤ 1
    go true b e = omega arith
    go false true e = omega arith
    go false false e = absurd (mathlib.Core.Bool.true≢false e)

known-low : {A : Type 0} (l : List A) (i : ℕ) → not (known l i) ≡ false → i < length l
unfolding known
known-low l i e = ltb-true _ _ (not-false _ e)

module _ (d : Draft) (g : Proper d) where
  -- what is found by its unit is owned by it
  input_of : (u : ℕ) (w : List ℕ) → input_named d u w < length d.inputs
      → (get_or d.inputs (input_named d u w) no_input).owner ≡ u
  unfolding input_named
  input_of u w h =
      let i = get_or d.inputs (input_named d u w) no_input in
      let l = place_is (λ i. eqb i.owner u && same i.name w) no_input d.inputs in
      eqb-true i.owner u
      (is_true (eqb i.owner u) (T_and (eqb i.owner u) (same i.name w) (l.passes h)).0)

  output_of : (u : ℕ) (w : List ℕ) → output_named d u w < length d.outputs
      → (get_or d.outputs (output_named d u w) no_output).owner ≡ u
  unfolding output_named
  output_of u w h =
      let o = get_or d.outputs (output_named d u w) no_output in
      let l = place_is (λ o. eqb o.owner u && same o.name w) no_output d.outputs in
      eqb-true o.owner u
      (is_true (eqb o.owner u) (T_and (eqb o.owner u) (same o.name w) (l.passes h)).0)

  feed-new : (x y : ℕ) → known d.feeds (feed_of d x y) ≡ false → (k : ℕ) → k < length d.feeds
      → (get_or d.feeds k no_feed).input ≡ x → (get_or d.feeds k no_feed).output ≡ y → ⊥
  unfolding known feed_of
  feed-new x y e k h p q =
      let l = place_is (λ f. eqb f.input x && eqb f.output y) no_feed d.feeds in
      let n : T (not (eqb (get_or d.feeds k no_feed).input x
      && eqb (get_or d.feeds k no_feed).output y))
      = l.below k (omega (arith, ltb-false (feed_of d x y) (length d.feeds) e)) in
      let w : T (not (true && true)) = (rw (eq-eqb _ _ p, eq-eqb _ _ q) at n) in
      w

  unit_kept : (f : List (List ℕ)) → Proper (unit_line d f).draft
  unfolding unit_line taken
  unit_kept f =
      or_refused _ 24 d _ g λ e.
      or_refused _ 25 d _ g λ e.
      or_refused _ 26 d _ g λ e.
      or_refused _ 29 d _ g λ e.
      unit-proper d g (word f 1) (leb-false _ _ e)

  out_kept : (f : List (List ℕ)) → Proper (out_line d f).draft
  unfolding out_line taken
  out_kept f =
      or_refused _ 24 d _ g λ e.
      or_refused _ 25 d _ g λ e.
      or_refused _ 27 d _ g λ u.
      or_refused _ 26 d _ g λ e.
      or_refused _ 29 d _ g λ e.
      output-proper d g (record { owner = unit_named d (word f 1); name = word f 2 })
      (known-low d.units _ u) (leb-false _ _ e)

  in_kept : (k : ℕ) (f : List (List ℕ)) → Proper (in_line d k f).draft
  unfolding in_line taken
  in_kept k f =
      or_refused _ 24 d _ g λ e.
      or_refused _ 25 d _ g λ e.
      or_refused _ 28 d _ g λ w.
      or_refused _ 27 d _ g λ u.
      or_refused _ 26 d _ g λ e.
      or_refused _ 29 d _ g λ e.
      input-proper d g
      (record {
        owner = unit_named d (word f 1);
        name = word f 2;
        kind = kind_of (word f 3);
        source = unjoined;
        line = k;
      })
      (known-low d.units _ u) (kind-low (word f 3) w) refl (leb-false _ _ e)

  feed-kept : (f : List (List ℕ)) → Proper (feed_line d f).draft
  unfolding feed_line taken
  feed-kept f =
      let u = unit_named d (word f 1) in
      or_refused _ 24 d _ g λ e.
      or_refused _ 25 d _ g λ e.
      or_refused _ 27 d _ g λ a.
      or_refused _ 27 d _ g λ i.
      or_refused _ 27 d _ g λ o.
      or_refused _ 32 d _ g λ n.
      or_refused _ 29 d _ g λ e.
      feed-proper d g (record
      { input = input_named d u (word f 2); output = output_named d u (word f 3) })
      (known-low d.inputs _ i) (known-low d.outputs _ o)
      (input_of u (word f 2) (known-low d.inputs _ i)
      ∙ sym (output_of u (word f 3) (known-low d.outputs _ o)))
      (feed-new _ _ n) (leb-false _ _ e)

  join_kept : (f : List (List ℕ)) → Proper (join_line d f).draft
  unfolding join_line taken
  join_kept f =
      or_refused _ 24 d _ g λ e.
      or_refused _ 25 d _ g λ e.
      or_refused _ 27 d _ g λ a.
      or_refused _ 27 d _ g λ o.
      or_refused _ 27 d _ g λ b.
      or_refused _ 27 d _ g λ i.
      or_refused _ 30 d _ g λ e.
      join-proper d g _ _ (known-low d.inputs _ i) (known-low d.outputs _ o)

  pub line_kept : (k : ℕ) (f : List (List ℕ)) → Proper (line d k f).draft
  unfolding refused
  line_kept k f = by-keyword (λ o. Proper o.draft) d k f
      (λ w. unit_kept f) (λ w. out_kept f) (λ w. in_kept k f) (λ w. feed-kept f)
      (λ w. join_kept f) g
