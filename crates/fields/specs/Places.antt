-- Laws of lines at a place of the text: the field there, and what follows it.
use Rattle.std.specs.Prelude.{ℕ, suc, ◌+◌, ◌-◌, ◌<◌, ◌≤◌, ◌≡◌}
use Rattle.std.proofs.Common.{inl, inr, ◌∙◌, add-one, add-suc}
use Rattle.std.proofs.Math.Path.{ap, sym}
use mathlib.Core.List.{List, [], ◌∷◌}
use native.Mathlib.Omega.{arith}
use Rattle.std.proofs.Math.ListN.{length, get_or, drop, length-drop}
use Rattle.std.proofs.Math.Seq.{drop-drop, get_or-drop}
use Rattle.grammar.specs.Words.{lf}
use Rattle.grammar.specs.Rows.{rows, front, field_at, word_end, row_at}
use Rattle.fields.specs.Rows.{added, runs, ends, parts, Some, some_field}
use Rattle.fields.specs.Rows.{lf-some, added-row, added-tail}

-- ---- the field at a place, and the byte behind it
module _ (t : List ℕ) (a : ℕ) where
  byte-behind : get_or (drop a t) (length (front (drop a t))) 0 ≡ get_or t (word_end t a) 0
  unfolding word_end field_at
  byte-behind = get_or-drop a t (length (front (drop a t))) 0

  bytes-behind : drop (suc (length (front (drop a t)))) (drop a t) ≡ drop (word_end t a + 1) t
  unfolding word_end field_at
  bytes-behind =
      drop-drop (suc (length (front (drop a t)))) a t
      ∙ ap (λ n. drop n t) (add-suc a (length (front (drop a t)))
      ∙ sym (add-one (a + length (front (drop a t)))))

  inside : word_end t a < length t → length (front (drop a t)) < length (drop a t)
  unfolding word_end field_at
  inside h = rw length-drop (omega arith)

  -- no tab and no LF follows: no ended line begins here
  pub line-runs : length t ≤ word_end t a → rows (drop a t) ≡ []
  unfolding word_end field_at
  line-runs h = runs (drop a t) (rw length-drop (omega arith))

  -- an LF follows: the field is the line's last
  pub line-ends :
      word_end t a < length t → get_or t (word_end t a) 0 ≡ lf →
      rows (drop a t) ≡ (field_at t a ∷ []) ∷ rows (drop (word_end t a + 1) t)
  unfolding field_at
  line-ends h e = rw (← bytes-behind) (ends (drop a t) (inside h) (byte-behind ∙ e))

  -- a tab follows: the field goes before those of the line that begins behind the tab
  pub line-parts :
      word_end t a < length t → (get_or t (word_end t a) 0 ≡ lf → ⊥) →
      rows (drop a t) ≡ added (field_at t a) (rows (drop (word_end t a + 1) t))
  unfolding field_at
  line-parts h e = rw (← bytes-behind) (parts (drop a t) (inside h) (λ p. e (sym byte-behind ∙ p)))

  pub end-behind : a ≤ word_end t a
  unfolding word_end
  end-behind = omega arith

-- ---- the fields of the line that begins at a place
module _ (t : List ℕ) (a : ℕ) where
  pub row-runs : length t ≤ word_end t a → row_at t a ≡ []
  unfolding row_at
  row-runs h = rw (line-runs t a h)

  module _ (h : word_end t a < length t) where
    pub row_ends : get_or t (word_end t a) 0 ≡ lf → row_at t a ≡ field_at t a ∷ []
    unfolding row_at
    row_ends e = rw (line-ends t a h e)

    -- the line goes on behind the tab, or it does not end
    pub row-parts :
        (get_or t (word_end t a) 0 ≡ lf → ⊥) → 0 < length (row_at t (word_end t a + 1)) →
        row_at t a ≡ field_at t a ∷ row_at t (word_end t a + 1)
    unfolding row_at
    row-parts e s =
        rw (line-parts t a h e) (added-row (field_at t a) (rows (drop (word_end t a + 1) t)) s)

    pub row-lost :
        (get_or t (word_end t a) 0 ≡ lf → ⊥) → row_at t (word_end t a + 1) ≡ [] → row_at t a ≡ []
    unfolding row_at added
    row-lost e z = go (some_field (drop (word_end t a + 1) t))
      where
        go : Some (drop (word_end t a + 1) t) → get_or (rows (drop a t)) 0 [] ≡ []
        go (inl n) = rw (line-parts t a h e, n)
        go (inr s) = absurd (omega (arith, ap length z))

    pub rows_behind : (get_or t (word_end t a) 0 ≡ lf → ⊥)
        → drop 1 (rows (drop a t)) ≡ drop 1 (rows (drop (word_end t a + 1) t))
    rows_behind e =
        rw (line-parts t a h e) (added-tail (field_at t a) (rows (drop (word_end t a + 1) t)))

  -- in a text whose last byte is an LF each place below its end begins a line
  pub row-some : a < length t → get_or t (length t - 1) 0 ≡ lf → 0 < length (row_at t a)
  unfolding row_at
  row-some h e =
      let n : a + (length t - 1 - a) ≡ length t - 1 = omega arith in
      lf-some (drop a t) (length t - 1 - a) (rw length-drop (omega arith))
      (rw (get_or-drop a t, n) e)

-- where the line has no field, no line is left
pub rows_none : (t : List ℕ) (a : ℕ) → row_at t a ≡ [] → rows (drop a t) ≡ []
unfolding row_at
rows_none t a e = go (some_field (drop a t))
  where
    go : Some (drop a t) → rows (drop a t) ≡ []
    go (inl n) = n
    go (inr s) = absurd (omega (arith, ap length e))
