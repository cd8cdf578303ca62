-- One law for each return of the noting of a text.
use Prim.Native.Nat.{ℕ, ◌+◌, ◌≤◌, ◌<◌}
use mathlib.Core.Path.{◌≡◌, refl, ◌∙◌}
use mathlib.Core.Bool.{cond}
use mathlib.Core.List.{List}
use native.Mathlib.Omega.{arith}
use lib.ListN.{get_or, drop}
use lib.Dec.{eqb}
use borrow.Author.Tests.{ne_eqb}
use Rattle.grammar.specs.Rows.{rows, row_at}
use Rattle.grammar.specs.Draft.{blank, loose}
use Rattle.grammar.specs.Reading.{reading, line_by_line, lines_from, ending, stopped, version}
use Rattle.fields.specs.declared.Fields.{Fields}
use Rattle.notes.specs.Layout.{lines_base}
use Rattle.notes.specs.declared.Counts.{Counts}
use Rattle.notes.specs.Notes.{draft_of}
use Rattle.notes.proofs.Slots.{units-are, line-is}
use Rattle.text.specs.declared.Answer.{Answer}
use Rattle.text.specs.declared.Noted.{Noted}
use Rattle.lines.specs.Took.{Told}
use Rattle.text.specs.Walked.{Whole, Walked, Closed, Noticed, roomed}
use Rattle.lines.proofs.Outcomes.{is-input, no-input}

-- ---- 33, 31

module _ (t p s : List ℕ) (c : Counts) where
  pub close_33 : c.units ≡ 0 → Closed t p s c (record { number = 33; place = 1; counts = c })
  unfolding ending
  close_33 z = record { kept = refl; left = λ room. rw (units-are t p s c ∙ z) }

  module _ (n : c.units ≡ 0 → ⊥) (x : ℕ) (q : x ≡ loose (draft_of t p s c)) where
    pub close_31 : x < c.inputs → (k : ℕ) → k ≡ get_or p (lines_base + x) 0
        → Closed t p s c (record { number = 31; place = k; counts = c })
    unfolding ending
    close_31 h k e = record {
      kept = refl;
      left = λ room. rw (
        units-are t p s c,
        ne_eqb c.units 0 n,
        ← q,
        is-input t p s c x h,
        line-is t p s c x h,
        ← e,
      );
    }

    pub close_none : c.inputs ≤ x → Closed t p s c (record { number = 0; place = 0; counts = c })
    unfolding ending roomed
    close_none h = record {
      kept = refl;
      left = λ room. rw (units-are t p s c, ne_eqb c.units 0 n, ← q, no-input t p s c x h);
    }

-- ---- the whole

module _ (t p s : List ℕ) (w : Answer) (h : Whole t w) where
  pub notice_whole : (w.number ≡ 0 → ⊥) → (c : Counts)
      → Noticed t p s (record { number = w.number; place = w.place; counts = c })
  notice_whole n c = record {
    fit = λ z. absurd (n z);
    left = λ room. h.left room ∙ rw (ne_eqb w.number 0 n);
  }

  module _ (z : w.number ≡ 0) (l : Fields) (told : Told t 0 l) (v : ℕ)
      (q : v ≡ version (row_at t 0)) where
    first : (room : ℕ) → reading room t
        ≡ cond (eqb v 0) (stopped 23 1) (lines_from room blank 2 (rows (drop l.next t)))
    unfolding line_by_line
    first room = h.left room ∙ rw (z) (rw (told.rest, ← q))

    pub notice_23 : v ≡ 0 → (c : Counts)
        → Noticed t p s (record { number = 23; place = 1; counts = c })
    notice_23 e c = record { fit = λ k. absurd (omega arith); left = λ room. first room ∙ rw e }

    module _ (n : v ≡ 0 → ⊥) (r : Noted) (a : ℕ) (b : a ≡ l.next)
        (k : Walked t p s r (λ room. lines_from room blank 2 (rows (drop a t)))) where
      lined : (room : ℕ) → reading room t ≡
          cond (eqb r.number 0) (ending room (draft_of t p s r.counts))
          (stopped r.number r.place)
      lined room = first room ∙ rw (ne_eqb v 0 n, ← b) (k.left room)

      pub notice_line : (r.number ≡ 0 → ⊥) → Noticed t p s r
      notice_line i =
          record { fit = λ e. k.fit; left = λ room. lined room ∙ rw (ne_eqb r.number 0 i) }

      pub notice_close : (g : Noted) → r.number ≡ 0 → Closed t p s r.counts g → Noticed t p s g
      notice_close g i c = record {
        fit = λ e. rw c.kept k.fit;
        left = λ room. lined room ∙ rw (i, c.kept) (c.left room);
      }
