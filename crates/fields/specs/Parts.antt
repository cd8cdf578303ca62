-- Each of a line's first five fields as a part of the text, the empty part where it has none.
use Rattle.std.specs.Prelude.{ℕ, ◌+◌, ◌<◌, ◌≤◌, ◌≡◌, refl, length}
use Rattle.std.proofs.Common.{sym, ◌∙◌, arith, get_or-set_other, le-leb, le-ltb}
use mathlib.Core.List.{List, [], ◌∷◌}
use Rattle.std.proofs.Math.Decide.{dec_lt}
use Rattle.std.proofs.Math.ListN.{get_or, get_or-replicate, get_or-eq_default}
use Rattle.std.proofs.lemmas.Bool.{lt-leb}
use Rattle.grammar.specs.Rows.{row_at, word, stretch}
use Rattle.grammar.specs.Lexed.{stretch_field}
use Rattle.fields.specs.declared.Fields.{Fields}
use Rattle.fields.specs.Spans.{no_fields, keep, one_more, spans, span, fields_at}
use Rattle.fields.specs.Places.{end-behind}
use Rattle.fields.specs.Promise.{fields_told}

-- where field i of the line at place a stands
pub record Part (t : List ℕ) (a i : ℕ) (l : Fields) : Type 0 where
  pub order : get_or l.from i 0 ≤ get_or l.to i 0
  pub within : get_or l.to i 0 ≤ length t
  pub bytes : stretch t (get_or l.from i 0) (get_or l.to i 0) ≡ word (row_at t a) i

keep_far : (xs : List ℕ) (n v i : ℕ) → n < i → get_or (keep xs n v) i 0 ≡ get_or xs i 0
unfolding keep
keep_far xs n v i g = elim (dec_lt n 5) [
  | yes h ↦ rw (lt-leb 5 n h) (get_or-set_other xs n i v 0 (λ p. absurd (omega arith)))
  | no h ↦ rw (le-leb 5 n (omega arith))
]

-- what stands behind the last field is as it was
spans-far :
    (a : ℕ) (r : List (List ℕ)) (l : Fields) (i : ℕ) → l.count + length r ≤ i →
    (get_or (spans a r l).from i 0 ≡ get_or l.from i 0)
    × (get_or (spans a r l).to i 0 ≡ get_or l.to i 0)
unfolding spans one_more
spans-far a [] l i h = (refl, refl)
spans-far a (f ∷ fs) l i h =
    let m = spans-far (a + length f + 1) fs (one_more l a (a + length f)) i (omega arith) in (
      m.0 ∙ keep_far l.from l.count a i (omega arith),
      m.1
          ∙ keep_far l.to l.count (a + length f) i (omega arith),
    )

spans-next : (a : ℕ) (f : List ℕ) (fs : List (List ℕ)) (l : Fields)
    → (spans a (f ∷ fs) l).next ≡ a + span (f ∷ fs)
unfolding spans span one_more
spans-next a f [] l = omega arith
spans-next a f (g ∷ gs) l =
    spans-next (a + length f + 1) g gs (one_more l a (a + length f)) ∙ omega arith

module _ (t : List ℕ) (a : ℕ) (small : length t ≤ 65535) where
  whole : fields_at t a ≡ spans a (row_at t a) no_fields
  unfolding fields_at
  whole = rw (le-ltb 65535 (length t) small)

  module _ (i : ℕ) (five : i < 5) where
    told_part : i < length (row_at t a) → Part t a i (fields_at t a)
    told_part h =
        let told = fields_told t a small (omega arith) in
        let n : i < (fields_at t a).count = omega (arith, told.count-is) in
        let e = told.ends i five n in
        record {
          order = rw e (end-behind t _);
          within = omega (arith, told.within i five n);
          bytes = rw e (stretch_field t _ ∙ told.words i five n);
        }

    no_part : length (row_at t a) ≤ i → Part t a i (fields_at t a)
    unfolding no_fields word stretch
    no_part h =
        let far = spans-far a (row_at t a) no_fields i (omega arith) in
        let f : get_or (fields_at t a).from i 0 ≡ 0 =
        rw whole (far.0 ∙ get_or-replicate 5 i 0 0 five) in
        let e : get_or (fields_at t a).to i 0
        ≡ 0 = rw whole (far.1 ∙ get_or-replicate 5 i 0 0 five) in
        record {
          order = omega (arith, f, e);
          within = omega (arith, e);
          bytes = rw (f, e)
              (sym (get_or-eq_default (row_at t a) [] h));
        }

    -- what `fields_at` tells of each of the first five fields
    pub field_part : Part t a i (fields_at t a)
    field_part =
        elim (dec_lt i (length (row_at t a))) [ yes h ↦ told_part h | no h ↦ no_part (omega arith) ]

  -- the next line begins behind this one
  pub next-line : 0 < length (row_at t a) → (fields_at t a).next ≡ a + span (row_at t a)
  next-line s = rw whole (go (row_at t a) s)
    where
      go : (r : List (List ℕ)) → 0 < length r → (spans a r no_fields).next ≡ a + span r
      go [] s = absurd (omega arith)
      go (f ∷ fs) s = spans-next a f fs no_fields

  -- no field is told where no line begins
  pub no_line : row_at t a ≡ [] → (fields_at t a).count ≡ 0
  unfolding spans no_fields
  no_line e = rw (whole, e)
