-- The loop over a line's fields: those before place at are in l, and the line goes on there.
use Prim.Native.Nat.{ℕ, ◌+◌, ◌<◌, ◌≤◌}
use mathlib.Core.Path.{◌≡◌, refl, ap, sym, ◌∙◌}
use mathlib.Core.List.{List, [], ◌∷◌}
use native.Mathlib.Omega.{arith}
use lib.ListN.{length, get_or}
use borrow.Author.Tests.{le-ltb, lt-ltb}
use Rattle.grammar.specs.Words.{lf}
use Rattle.grammar.specs.Rows.{row_at, field_at, word_end}
use Rattle.fields.specs.declared.Fields.{Fields}
use Rattle.fields.specs.Spans.{no_fields, one_more, spans, fields_at}
use Rattle.fields.specs.Places.{row-runs, row_ends, row-parts, row-lost, end-behind}

-- where the line that goes on at that place does not end, the whole line does not
pub record Lexing (t : List ℕ) (a : ℕ) (l : Fields) (at : ℕ) : Type 0 where
  pub small : length t ≤ 65535
  pub few : l.count ≤ at
  pub lost : row_at t at ≡ [] → row_at t a ≡ []
  pub left : 0 < length (row_at t at) → spans a (row_at t a) no_fields ≡ spans at (row_at t at) l

pub lexing_starts : (t : List ℕ) (a : ℕ) → length t ≤ 65535 → Lexing t a no_fields a
unfolding no_fields
lexing_starts t a h = record { small = h; few = omega arith; lost = λ e. e; left = λ s. refl }

pub too_long : (t : List ℕ) (a : ℕ) → 65535 < length t → no_fields ≡ fields_at t a
unfolding fields_at
too_long t a h = rw (lt-ltb 65535 (length t) h)

module _ {t : List ℕ} {a : ℕ} {l : Fields} {at : ℕ} (g : Lexing t a l at) (e : ℕ)
    (p : e ≡ word_end t at) where
  pub lexing_low : at ≤ e
  lexing_low = rw p (end-behind t at)

  whole : fields_at t a ≡ spans a (row_at t a) no_fields
  unfolding fields_at
  whole = rw (le-ltb 65535 (length t) g.small)

  one : (fs : List (List ℕ)) → spans at (field_at t at ∷ fs) l ≡ spans (e + 1) fs (one_more l at e)
  unfolding spans word_end
  one fs = rw p

  pub lexing_lost : length t ≤ e → no_fields ≡ fields_at t a
  unfolding spans
  lexing_lost h =
      let n : row_at t a ≡ [] = g.lost (row-runs t at (rw (← p) h)) in
      sym (whole ∙ rw n)

  module _ (h : e < length t) where
    within : word_end t at < length t
    within = rw (← p) h

    pub lexing_ends : get_or t e 0 ≡ lf → one_more l at e ≡ fields_at t a
    unfolding spans
    lexing_ends b =
        let r : row_at t at ≡ field_at t at ∷ [] = row_ends t at within (rw (← p) b) in
        sym (whole ∙ g.left (rw r (omega arith)) ∙ ap (λ fs. spans at fs l) r ∙ one [])

    pub lexing_on : (get_or t e 0 ≡ lf → ⊥) → Lexing t a (one_more l at e) (e + 1)
    unfolding one_more
    lexing_on b =
        let c : get_or t (word_end t at) 0 ≡ lf → ⊥ = λ q. b (rw p q) in
        record {
          small = g.small;
          few = omega (arith, g.few, lexing_low);
          lost = λ n. g.lost (row-lost t at within c (rw p at n));
          left = λ s.
              let r : row_at t at ≡ field_at t at ∷ row_at t (e + 1) =
              rw p (row-parts t at within c (rw p at s)) in
              g.left (rw r (omega arith)) ∙ ap (λ fs. spans at fs l) r ∙ one (row_at t (e + 1));
        }
