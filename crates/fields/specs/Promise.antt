-- What `fields_at` tells of a line: each of its first five fields begins and ends where it says.
use Rattle.std.specs.Prelude.{ℕ, ◌+◌, ◌<◌, ◌≤◌, ◌≡◌, List, [], ◌∷◌, length, get_or, drop}
use Rattle.std.proofs.Math.Path.{refl, sym}
use Rattle.std.proofs.Common.{ap, ◌∙◌, subst, arith, le-ltb}
use Rattle.std.proofs.Math.Decide.{dec_lt, ℕ_discrete}
use Rattle.grammar.specs.Words.{lf}
use Rattle.grammar.specs.Rows.{row_at, field_at, word_end}
use Rattle.fields.specs.declared.Fields.{Fields}
use Rattle.fields.specs.Spans.{no_fields, one_more, spans, fields_at}
use Rattle.fields.specs.Places.{row-runs, row_ends, row-parts, row-lost}
use Rattle.fields.specs.Before.{Told, Before, before-none, told-last, before_more}

spans-one :
    (t : List ℕ) (at : ℕ) (l : Fields) (fs : List (List ℕ)) →
    spans at (field_at t at ∷ fs) l ≡ spans (word_end t at + 1) fs (one_more l at (word_end t at))
unfolding spans word_end
spans-one t at l fs = refl

empty : (fs : List (List ℕ)) → (0 < length fs → ⊥) → fs ≡ []
empty [] n = refl
empty (f ∷ fs) n = absurd (n (omega arith))

module _ (t : List ℕ) (at : ℕ) (l : Fields) (f : List ℕ) (fs : List (List ℕ))
    (e : row_at t at ≡ f ∷ fs) (h : word_end t at < length t) where
  spans-last : get_or t (word_end t at) 0 ≡ lf → one_more l at (word_end t at) ≡ spans at (f ∷ fs) l
  unfolding spans
  spans-last b = sym (ap (λ r. spans at r l) (sym e ∙ row_ends t at h b) ∙ spans-one t at l [])

  module _ (b : get_or t (word_end t at) 0 ≡ lf → ⊥) where
    tail-some : 0 < length (row_at t (word_end t at + 1))
    tail-some = elim (dec_lt 0 (length (row_at t (word_end t at + 1)))) [
      | yes m ↦ m
      | no n ↦ absurd (omega (arith, ap length (sym e ∙ row-lost t at h b (empty _ n))))
    ]

    tail-is : row_at t (word_end t at + 1) ≡ fs
    tail-is = ap (drop 1) (sym (row-parts t at h b tail-some) ∙ e)

    spans-more : spans (word_end t at + 1) fs (one_more l at (word_end t at)) ≡ spans at (f ∷ fs) l
    spans-more =
        sym (ap (λ r. spans at r l) (sym e ∙ row-parts t at h b tail-some)
        ∙ spans-one t at l (row_at t (word_end t at + 1))
        ∙ ap (λ r. spans (word_end t at + 1) r (one_more l at (word_end t at))) tail-is)

module _ (t : List ℕ) (a : ℕ) where
  told :
      (r : List (List ℕ)) (at : ℕ) (l : Fields) → row_at t at ≡ r → 0 < length r → Before t a l at
      → Told t a (spans at r l)
  told [] at l e s g = absurd (omega arith)
  told (f ∷ fs) at l e s g = elim (dec_lt (word_end t at) (length t)) [
    | no h ↦ absurd (omega (arith, ap length (sym e ∙ row-runs t at (omega arith))))
    | yes h ↦ elim (ℕ_discrete (get_or t (word_end t at) 0) lf) [
      | yes b ↦ subst (Told t a) (spans-last t at l f fs e h b) (told-last t a l at g h b)
      | no b ↦
          let s = tail-some t at l f fs e h b in
          let i = tail-is t at l f fs e h b in
          subst (Told t a) (spans-more t at l f fs e h b)
          (told fs (word_end t at + 1) (one_more l at (word_end t at)) i (rw i at s)
          (before_more t a l at g h b s))
    ]
  ]

  -- where an ended line begins at place a, `fields_at` tells its fields
  pub fields_told : length t ≤ 65535 → 0 < length (row_at t a) → Told t a (fields_at t a)
  unfolding fields_at
  fields_told h s =
      rw (le-ltb 65535 (length t) h) (told (row_at t a) a no_fields refl s (before-none t a))
