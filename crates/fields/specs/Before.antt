-- The fields of a line told one after the other: what holds of those before a place.
use Rattle.std.specs.Prelude.{ℕ, ◌+◌, ◌<◌, ◌≤◌, ◌≡◌, refl, length, drop}
use Rattle.std.proofs.Math.Path.{ap, sym}
use Rattle.std.proofs.Common.{◌∙◌, length-set, drop-drop, get_or-set_same, get_or-set_other, le-leb}
use mathlib.Core.List.{List, [], ◌∷◌}
use Rattle.std.proofs.Math.Decide.{dec_lt}
use native.Mathlib.Omega.{arith}
use Rattle.std.proofs.Math.ListN.{get_or}
use Rattle.std.proofs.Math.Seq.{get_or-drop}
use Rattle.std.proofs.lemmas.Bool.{lt-leb}
use Rattle.grammar.specs.Words.{lf}
use Rattle.grammar.specs.Rows.{rows, word, row_at, field_at, word_end}
use Rattle.grammar.specs.Lexed.{Lexed}
use Rattle.fields.specs.declared.Fields.{Fields}
use Rattle.fields.specs.Spans.{no_fields, keep, one_more}
use Rattle.fields.specs.Places.{row_ends, row-parts, rows_behind, line-ends, end-behind}
use Rattle.fields.specs.Rows.{first-row}

-- the promise, of a value of `Fields`
abbrev pub Told : List ℕ → ℕ → Fields → Type 0
Told t a l = Lexed t a l.from l.to l.count l.next

-- ---- one field more

module _ (xs : List ℕ) (n v : ℕ) (r : length xs ≡ 5) where
  pub keep-long : length (keep xs n v) ≡ 5
  unfolding keep
  keep-long =
      elim (dec_lt n 5) [
        | yes h ↦ rw (lt-leb 5 n h, length-set) r
        | no h ↦ rw (le-leb 5 n (omega arith)) r
      ]

  pub keep-new : n < 5 → get_or (keep xs n v) n 0 ≡ v
  unfolding keep
  keep-new h = rw (lt-leb 5 n h) (get_or-set_same xs n v 0 (omega arith))

  pub keep-old : (i : ℕ) → i < n → get_or (keep xs n v) i 0 ≡ get_or xs i 0
  unfolding keep
  keep-old i g = elim (dec_lt n 5) [
    | yes h ↦ rw (lt-leb 5 n h) (get_or-set_other xs n i v 0 (λ p. absurd (omega arith)))
    | no h ↦ rw (le-leb 5 n (omega arith))
  ]

-- a field of the line f stands from place a up to place e
pub record Stands (t : List ℕ) (f : List (List ℕ)) (i a e : ℕ) : Type 0 where
  pub is : field_at t a ≡ word f i
  pub end : e ≡ word_end t a
  pub within : e < length t

-- l has the fields of the line at place a that stand before place at
pub record Before (t : List ℕ) (a : ℕ) (l : Fields) (at : ℕ) : Type 0 where
  pub froms : length l.from ≡ 5
  pub tos : length l.to ≡ 5
  pub long : length (row_at t a) ≡ l.count + length (row_at t at)
  pub left : drop l.count (row_at t a) ≡ row_at t at
  pub tail : drop 1 (rows (drop a t)) ≡ drop 1 (rows (drop at t))
  pub fields : (i : ℕ) → i < 5 → i < l.count
      → Stands t (row_at t a) i (get_or l.from i 0) (get_or l.to i 0)
  pub low : a ≤ at

pub before-none : (t : List ℕ) (a : ℕ) → Before t a no_fields a
unfolding no_fields
before-none t a = record {
  froms = refl;
  tos = refl;
  long = omega arith;
  left = refl;
  tail = refl;
  fields = λ i p q. absurd (omega arith);
  low = omega arith;
}

module _ (t : List ℕ) (a : ℕ) (l : Fields) (at : ℕ) (g : Before t a l at)
    (h : word_end t at < length t) where
  -- the field at place at is the line's next
  next_field : (fs : List (List ℕ)) → row_at t at ≡ field_at t at ∷ fs
      → field_at t at ≡ word (row_at t a) l.count
  unfolding word
  next_field fs r =
      let n : l.count + 0 ≡ l.count = omega arith in
      ap (λ f. get_or f 0 []) (sym r) ∙ ap (λ f. get_or f 0 []) (sym g.left)
      ∙ get_or-drop l.count (row_at t a) 0 [] ∙ ap (λ k. get_or (row_at t a) k []) n

  module _ (fs : List (List ℕ)) (r : row_at t at ≡ field_at t at ∷ fs) where
    more-fields :
        (i : ℕ) → i < 5 → i < l.count + 1 →
        Stands t (row_at t a) i (get_or (one_more l at (word_end t at)).from i 0)
        (get_or (one_more l at (word_end t at)).to i 0)
    unfolding one_more
    more-fields i five k = elim (dec_lt i l.count) [
      | yes q ↦
          rw (
            keep-old l.from l.count at g.froms i q,
            keep-old l.to l.count (word_end t at) g.tos i q,
          )
          (g.fields i five q)
      | no q ↦
          let n : i ≡ l.count = omega arith in
          rw (
            n,
            keep-new l.from l.count at g.froms (omega arith),
            keep-new l.to l.count (word_end t at) g.tos (omega arith),
          )
          (record { is = next_field fs r; end = refl; within = h })
    ]

    more-long : length (row_at t a) ≡ l.count + 1 + length fs
    more-long = omega (arith, g.long, ap length r)

  last_rest :
      get_or t (word_end t at) 0 ≡ lf → length (row_at t a) ≡ l.count + 1 + 0 →
      rows (drop a t) ≡ row_at t a ∷ rows (drop (word_end t at + 1) t)
  unfolding row_at
  last_rest b n =
      first-row (rows (drop a t)) (omega (arith, n))
      ∙ ap {B = List (List (List ℕ))} (λ rs. row_at t a ∷ rs)
      (g.tail ∙ ap (drop 1) (line-ends t at h b))

  pub told-last : get_or t (word_end t at) 0 ≡ lf → Told t a (one_more l at (word_end t at))
  unfolding one_more
  told-last b =
      let r = row_ends t at h b in
      let n = more-long [] r in
      let f = more-fields [] r in
      record {
        count-is = omega (arith, n);
        some = omega arith;
        words = λ i p q. (f i p q).is;
        ends = λ i p q. (f i p q).end;
        within = λ i p q. (f i p q).within;
        rest = last_rest b n;
        further = omega (arith, g.low, end-behind t at);
        inside = omega (arith, h);
      }

  pub before_more :
      (get_or t (word_end t at) 0 ≡ lf → ⊥) → 0 < length (row_at t (word_end t at + 1)) →
      Before t a (one_more l at (word_end t at)) (word_end t at + 1)
  unfolding one_more
  before_more b s =
      let r = row-parts t at h b s in
      record {
        froms = keep-long l.from l.count at g.froms;
        tos = keep-long l.to l.count (word_end t at) g.tos;
        long = more-long (row_at t (word_end t at + 1)) r;
        left = sym (drop-drop 1 l.count (row_at t a)) ∙ ap (drop 1) (g.left ∙ r);
        tail = g.tail ∙ rows_behind t at h b;
        fields = more-fields (row_at t (word_end t at + 1)) r;
        low = omega (arith, g.low, end-behind t at);
      }
