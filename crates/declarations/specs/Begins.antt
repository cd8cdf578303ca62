-- Laws of where lines begin: the next one, and the line that stands at each.
use Rattle.std.specs.Prelude.{ℕ, ◌+◌, ◌<◌, ◌≤◌, ◌≡◌, true, false, cond, drop}
use Rattle.std.proofs.Math.Path.{refl}
use Rattle.std.proofs.Common.{◌∙◌, arith, le-ltb, lt-ltb}
use mathlib.Core.List.{List, [], ◌∷◌}
use Rattle.std.proofs.Math.Decide.{dec_lt, dec_le}
use Rattle.std.proofs.Math.ListN.{length}
use Rattle.grammar.specs.Rows.{rows, row_at}
use Rattle.grammar.specs.Lexed.{Lexed}
use Rattle.fields.specs.Spans.{no_fields, span, fields_at}
use Rattle.fields.specs.Places.{rows_none}
use Rattle.fields.specs.Promise.{fields_told}
use Rattle.fields.specs.Parts.{next-line, no_line}
use Rattle.declarations.specs.Noted.{opens, begins_of, begins_from}

-- a line that is told stands in a text that is not too long
pub told-small : (t : List ℕ) (a : ℕ) → 0 < (fields_at t a).count → length t ≤ 65535
unfolding fields_at no_fields
told-small t a h = elim (dec_le (length t) 65535) [
  | yes s ↦ s
  | no g ↦ let z : 0 < 0 = rw (lt-ltb 65535 (length t) (omega arith)) at h in absurd (omega arith)
]

module _ (w t : List ℕ) (a : ℕ) where
  pub begins-none : (fields_at t a).count ≡ 0 → begins_from w t a ≡ []
  unfolding begins_from begins_of
  begins-none e = elim (dec_le (length t) 65535) [
    | no g ↦ rw (lt-ltb 65535 (length t) (omega arith))
    | yes s ↦ elim (dec_lt 0 (length (row_at t a))) [
      | yes h ↦ absurd (omega (arith, (fields_told t a s h).some))
      | no h ↦ rw (le-ltb 65535 (length t) s, rows_none t a (empty (row_at t a) h))
    ]
  ]
    where
      empty : (fs : List (List ℕ)) → (0 < length fs → ⊥) → fs ≡ []
      empty [] n = refl
      empty (f ∷ fs) n = absurd (n (omega arith))

  module _ (h : 0 < (fields_at t a).count) where
    small : length t ≤ 65535
    small = told-small t a h

    row-there : 0 < length (row_at t a)
    row-there = elim (dec_lt 0 (length (row_at t a))) [
      | yes s ↦ s
      | no n ↦ absurd (omega (arith, no_line t a small (empty (row_at t a) n)))
    ]
      where
        empty : (fs : List (List ℕ)) → (0 < length fs → ⊥) → fs ≡ []
        empty [] n = refl
        empty (f ∷ fs) n = absurd (n (omega arith))

    pub line-told :
        let l = fields_at t a in Lexed t a l.from l.to l.count l.next
    line-told = fields_told t a small row-there

    from-here : begins_from w t a ≡ begins_of w a (rows (drop a t))
    unfolding begins_from
    from-here = rw (le-ltb 65535 (length t) small)

    from_next : begins_from w t (fields_at t a).next
        ≡ begins_of w (a + span (row_at t a)) (rows (drop (fields_at t a).next t))
    unfolding begins_from
    from_next = rw (le-ltb 65535 (length t) small, next-line t a small row-there)

    split :
        let rest = begins_from w t (fields_at t a).next in
        begins_from w t a ≡ cond (opens w (row_at t a)) (a ∷ rest) rest
    unfolding begins_of
    split = from-here ∙ rw (line-told.rest, from_next)

    pub begins-here : opens w (row_at t a) ≡ true
        → begins_from w t a ≡ a ∷ begins_from w t (fields_at t a).next
    begins-here e = split ∙ rw e

    pub begins-later : opens w (row_at t a) ≡ false
        → begins_from w t a ≡ begins_from w t (fields_at t a).next
    begins-later e = split ∙ rw e
