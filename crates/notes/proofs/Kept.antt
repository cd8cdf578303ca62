-- Writes that leave a range of an array as it was, and what of the draft they leave.
use Prim.Native.Nat.{ℕ, ◌+◌, ◌*◌, ◌≤◌, ◌<◌}
use mathlib.Core.Path.{◌≡◌, refl, ap, ◌∙◌}
use mathlib.Core.List.{List}
use native.Mathlib.Omega.{arith}
use lib.ListN.{get_or, set}
use lib.Seq.{get_or-set_other}
use Rattle.grammar.specs.Rows.{field_at}
use Rattle.notes.specs.Layout.{outputs_base, inputs_base, lines_base, owners_base, output_owners}
use Rattle.notes.specs.Layout.{input_owners, kinds_base, sources_base, feeds_base, fed_base}
use Rattle.notes.specs.Ranks.{name_at, key_at, rank_at, Ranked}
use Rattle.notes.specs.Listed.{listed, listed_same}
use Rattle.notes.specs.Noted.{Kept}
use Rattle.notes.specs.Notes.{output_at, input_at, feed_at}

pub kept-all : {a b : ℕ} {xs : List ℕ} → Kept a b xs xs
kept-all = record { at = λ i h g. refl }

pub kept_set : {a b : ℕ} {xs ys : List ℕ} (k v : ℕ) → Kept a b xs ys
    → ((i : ℕ) → a ≤ i → i < b → i ≡ k → ⊥)
    → Kept a b xs (set ys k v)
kept_set {a} {b} {xs} {ys} k v w n =
    record { at = λ i h g. get_or-set_other ys k i v 0 (n i h g) ∙ w.at i h g }

module _ (t p s q r : List ℕ) where
  pub units-kept : (n : ℕ) → Kept 0 n p q → listed (name_at t q) n ≡ listed (name_at t p) n
  unfolding name_at
  units-kept n a =
      listed_same (name_at t q) (name_at t p) n (λ i h. ap (field_at t) (a.at i (omega arith) h))

  pub output-kept : (y : ℕ) → Kept (outputs_base + y) (outputs_base + y + 1) p q
      → Kept (output_owners + y) (output_owners + y + 1) s r → output_at t q r y ≡ output_at t p s y
  unfolding output_at name_at
  output-kept y a b =
      rw (
        a.at (outputs_base + y) (omega arith) (omega arith),
        b.at (output_owners + y) (omega arith) (omega arith),
      )

  pub outputs-kept : (n : ℕ) → Kept outputs_base (outputs_base + n) p q
      → Kept output_owners (output_owners + n) s r
      → listed (output_at t q r) n ≡ listed (output_at t p s) n
  outputs-kept n a b = listed_same (output_at t q r) (output_at t p s) n (λ y h.
      output-kept y
      (record { at = λ i k g. a.at i (omega arith) (omega arith) })
      (record { at = λ i k g. b.at i (omega arith) (omega arith) }))

  pub inputs-kept : (n : ℕ) → Kept inputs_base (inputs_base + n) p q
      → Kept lines_base (lines_base + n) p q → Kept input_owners (input_owners + n) s r
      → Kept kinds_base (kinds_base + n) s r → Kept sources_base (sources_base + n) s r
      → listed (input_at t q r) n ≡ listed (input_at t p s) n
  unfolding input_at name_at
  inputs-kept n a b c d e = listed_same (input_at t q r) (input_at t p s) n (λ x h.
      rw (
        a.at (inputs_base + x) (omega arith) (omega arith),
        b.at (lines_base + x) (omega arith) (omega arith),
        c.at (input_owners + x) (omega arith) (omega arith),
        d.at (kinds_base + x) (omega arith) (omega arith),
        e.at (sources_base + x) (omega arith) (omega arith),
      ))

  pub feeds-kept : (n : ℕ) → Kept feeds_base (feeds_base + 2 * n) s r
      → listed (feed_at r) n ≡ listed (feed_at s) n
  unfolding feed_at
  feeds-kept n a = listed_same (feed_at r) (feed_at s) n (λ k h.
      rw (
        a.at (feeds_base + 2 * k) (omega arith) (omega arith),
        a.at (fed_base + 2 * k) (omega arith) (omega arith),
      ))

  -- a key of a name that is kept
  key-kept : (k : ℕ) → get_or q k 0 ≡ get_or p k 0
      → get_or r (owners_base + k) 0 ≡ get_or s (owners_base + k) 0 → key_at t q r k
      ≡ key_at t p s k
  unfolding key_at name_at
  key-kept k a b = rw (a, b)

  pub ranked-kept : (b n : ℕ) → Kept b (b + n) p q → Kept b (b + n) s r
      → Kept (owners_base + b) (owners_base + (b + n)) s r
      → Ranked t p s b n → Ranked t q r b n
  ranked-kept b n x y z f = record {
    low = f.low;
    number = λ i h. rw (slot i h) (f.number i h);
    order = λ i j h g. rw (at i (omega arith), at j g) (f.order i j h g);
    rank = λ k h. let (i, g, e) = f.rank k h in (i, g, slot i g ∙ e);
  }
    where
      slot : (i : ℕ) → i < n → get_or r (b + i) 0 ≡ get_or s (b + i) 0
      slot i h = y.at (b + i) (omega arith) (omega arith)

      key : (k : ℕ) → k < n → key_at t q r (b + k) ≡ key_at t p s (b + k)
      key k h = key-kept (b + k) (x.at (b + k) (omega arith) (omega arith))
          (z.at (owners_base + (b + k)) (omega arith) (omega arith))

      at : (i : ℕ) → i < n → rank_at t q r b i ≡ rank_at t p s b i
      at i h = ap (λ k. key_at t q r (b + k)) (slot i h) ∙ key (get_or s (b + i) 0) (f.number i h)
