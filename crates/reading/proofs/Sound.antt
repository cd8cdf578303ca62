-- A table that is read is sound: the packed check answers 0 on what was written.
use Rattle.std.specs.Prelude.{ℕ, ◌<◌, ◌≤◌, ◌≡◌, List, map, get_or}
use Rattle.std.proofs.Common.{sym, subst, inl, inr}
use native.Mathlib.Omega.{arith}
use Rattle.std.proofs.Math.ListN.{length}
use Rattle.std.proofs.lemmas.List.{length-map}
use Rattle.table.specs.Shape.{Wired}
use Rattle.table.specs.Packed.{units, outputs, inputs, feeds, shape_of}
use Rattle.table.specs.Sound.{Sound}
use Rattle.table.specs.Check.{refusal}
use Rattle.table.proofs.Checked.{sound-passed}
use Rattle.grammar.specs.Rows.{rows}
use Rattle.grammar.specs.Draft.{Draft, Output, Input, no_input, loose}
use Rattle.grammar.specs.Reading.{Reading, reading, packed, pairs as feed_pairs}
use Rattle.reading.specs.Proper.{Proper, no_output, no_feed}
use Rattle.reading.specs.Reads.{not-loose, text_read}
use Rattle.reading.specs.Numbers.{numbered}
use Rattle.reading.proofs.Numbered.{read-numbered}
use Rattle.reading.specs.Parts.{map_at, pairs-long, pairs-input, pairs-output}
use Rattle.reading.specs.Parts.{long, output-owners, input-owners, kinds-are}
use Rattle.reading.specs.Parts.{sources-are, pairs-are}

-- ---- a proper draft with a unit, whose inputs are all joined
module _ (d : Draft) (g : Proper d) (some : 0 < length d.units)
    (all : (x : ℕ) → x < length d.inputs
    → (get_or d.inputs x no_input).source < length d.outputs) where
  abbrev oo : List ℕ
  oo = map (λ (o : Output). o.owner) d.outputs

  abbrev io : List ℕ
  io = map (λ (i : Input). i.owner) d.inputs

  abbrev ks : List ℕ
  ks = map (λ (i : Input). i.kind) d.inputs

  abbrev ss : List ℕ
  ss = map (λ (i : Input). i.source) d.inputs

  la : length oo ≡ length d.outputs
  la = length-map d.outputs (λ (o : Output). o.owner)

  lb : length io ≡ length d.inputs
  lb = length-map d.inputs (λ (i : Input). i.owner)

  lc : length ks ≡ length d.inputs
  lc = length-map d.inputs (λ (i : Input). i.kind)

  le : length ss ≡ length d.inputs
  le = length-map d.inputs (λ (i : Input). i.source)

  packed-wired : Wired (shape_of (packed d))
  unfolding packed units outputs inputs feeds
  packed-wired =
      let P = output-owners (length d.units) (length d.outputs) (length d.inputs)
      (length d.feeds)
      oo io ks ss (feed_pairs d.feeds) la lb lc le (pairs-long d.feeds) in
      let Q = input-owners (length d.units) (length d.outputs) (length d.inputs)
      (length d.feeds)
      oo io ks ss (feed_pairs d.feeds) la lb lc le (pairs-long d.feeds) in
      let K = kinds-are (length d.units) (length d.outputs) (length d.inputs)
      (length d.feeds)
      oo io ks ss (feed_pairs d.feeds) la lb lc le (pairs-long d.feeds) in
      let S = sources-are (length d.units) (length d.outputs) (length d.inputs)
      (length d.feeds)
      oo io ks ss (feed_pairs d.feeds) la lb lc le (pairs-long d.feeds) in
      let F = pairs-are (length d.units) (length d.outputs) (length d.inputs)
      (length d.feeds)
      oo io ks ss (feed_pairs d.feeds) la lb lc le (pairs-long d.feeds) in
      record {
        output-owned = λ y h. rw (P, map_at (λ (o : Output). o.owner) no_output d.outputs y h)
            (g.output-owned y h);
        input-owned = λ x h. rw (Q, map_at (λ (i : Input). i.owner) no_input d.inputs x h)
            (g.input-owned x h);
        kind-known = λ x h. rw (K, map_at (λ (i : Input). i.kind) no_input d.inputs x h)
            (g.kind-known x h);
        sourced =
            λ x h. rw (S, map_at (λ (i : Input). i.source) no_input d.inputs x h) (all x h);
        feed-input = λ k h. rw (F, pairs-input d.feeds k h) (g.feed-input k h);
        feed-output = λ k h. rw (F, pairs-output d.feeds k h) (g.feed-output k h);
        feed-unit = λ k h. rw (
          F,
          pairs-input d.feeds k h,
          pairs-output d.feeds k h,
          P,
          Q,
          map_at (λ (i : Input). i.owner) no_input d.inputs (get_or d.feeds k no_feed).input
              (g.feed-input k h),
          map_at (λ (o : Output). o.owner) no_output d.outputs (get_or d.feeds k no_feed).output
              (g.feed-output k h),
        )
            (g.feed-unit k h);
        feed-once = λ j k h l. let i : j < length d.feeds = omega arith in
            rw (
              F,
              pairs-input d.feeds j i,
              pairs-input d.feeds k l,
              pairs-output d.feeds j i,
              pairs-output d.feeds k l,
            )
            (g.feed-once j k h l);
      }

  pub packed-sound : Sound (packed d)
  unfolding packed units outputs inputs feeds
  packed-sound = record {
    four = omega arith;
    counted = record {
      units-some = some;
      units-most = g.units-most;
      outputs-most = g.outputs-most;
      inputs-most = g.inputs-most;
      feeds-most = g.feeds-most;
    };
    long = long (length d.units) (length d.outputs) (length d.inputs) (length d.feeds)
        oo io ks ss (feed_pairs d.feeds) la lb lc le (pairs-long d.feeds);
    wired = packed-wired;
  }

-- a source of a proper draft that is there is an output
joined-all : (d : Draft) → Proper d → length d.inputs ≤ loose d
    → (x : ℕ) → x < length d.inputs → (get_or d.inputs x no_input).source < length d.outputs
joined-all d g all x h =
    elim (g.sourced x h) [ inr z ↦ z | inl z ↦ absurd (not-loose d all x h z) ]

-- a text that is read gives a sound table
pub read-sound : (room : ℕ) (t : List ℕ) → (reading room t).number ≡ 0
    → Sound (reading room t).bytes
read-sound room t e =
    let r = text_read room t e in
    subst (λ (z : Reading). Sound z.bytes) (sym r.result)
    (packed-sound r.draft r.proper r.some (joined-all r.draft r.proper r.joined))

-- and the packed check answers 0 on it
pub read-checked : (room : ℕ) (t : List ℕ) → (reading room t).number ≡ 0
    → refusal (reading room t).bytes ≡ 0
read-checked room t e = sound-passed (reading room t).bytes (read-sound room t e)

-- so is the table of its lines, numbered in line order, which is the same
pub lines-sound : (room : ℕ) (t : List ℕ) → (reading room t).number ≡ 0 → Sound (numbered (rows t))
lines-sound room t e = subst Sound (read-numbered room t e) (read-sound room t e)
