-- From what the notes hold to what a line's definition asks: refusals, a line taken, tests.
use Prim.Native.Nat.{ℕ, ◌≤◌, ◌<◌}
use mathlib.Core.Path.{◌≡◌, refl, sym, ap, subst, ◌∙◌}
use mathlib.Core.Bool.{true, false}
use mathlib.Core.List.{List}
use native.Mathlib.Omega.{arith}
use lib.ListN.{length, get_or}
use lib.Dec.{leb}
use borrow.Author.Tests.{lt-ltb, le-ltb, le-leb, lt-leb}
use Rattle.grammar.specs.Draft.{Draft, known}
use Rattle.grammar.specs.Lines.{Outcome, refused, taken}
use Rattle.grammar.specs.Rows.{row_at, word, front, field_at, word_end, stretch}
use Rattle.grammar.specs.Lexed.{stretch_field}
use Rattle.fields.specs.declared.Fields.{Fields}
use Rattle.notes.specs.declared.Counts.{Counts}
use Rattle.notes.specs.declared.Entry.{Entry}
use Rattle.notes.specs.Notes.{draft_of}
use Rattle.notes.specs.Noted.{no_entry, Declares}
use Rattle.notes.proofs.Slots.{units-are, outputs-are, inputs_are, feeds-are}
use Rattle.names.specs.Alike.{Wordy}
use Rattle.lines.specs.declared.Taken.{Taken}
use Rattle.lines.specs.Took.{Told, shape_of, Shaped, Took}

-- a refusal, and what is declared, as they are handed back
abbrev pub refusal : ℕ → ℕ → Taken
refusal n x = record { number = n; field = x; entry = no_entry }

abbrev pub takes : Entry → Taken
takes e = record { number = 0; field = 0; entry = e }

module _ (t p s : List ℕ) (c : Counts) (k : ℕ) (entry : ℕ → Entry) (o : Outcome) where
  -- refused, at whatever field
  pub stops : (n x : ℕ) (r : Taken) → r ≡ refusal n x → (n ≡ 0 → ⊥)
      → refused n (draft_of t p s c) ≡ o
      → Took t p s c k entry r o
  unfolding refused
  stops n x r e z q =
      subst (λ v. Took t p s c k entry v o) (sym e) (record {
        number = ap (λ (v : Outcome). v.number) q;
        none = λ y. refl;
        is = λ y. absurd (z y);
        declares = λ y. absurd (z y);
      })

  -- refused for its shape
  pub shape_refused : (f : List (List ℕ)) (count names : ℕ) (r : Taken) → Shaped f count names r
      → (r.number ≡ 0 → ⊥)
      → refused r.number (draft_of t p s c) ≡ o → Took t p s c k entry r o
  unfolding refused
  shape_refused f count names r h z q = record {
    number = ap (λ (v : Outcome). v.number) q;
    none = λ y. h.entry;
    is = λ y. absurd (z y);
    declares = λ y. absurd (z y);
  }

  -- taken
  pub declared : (e : Entry) (d : Draft) → Declares t p s c k e d → taken d ≡ o
      → e ≡ entry e.rank
      → Took t p s c k entry (takes e) o
  unfolding taken
  declared e d h q z = record {
    number = ap (λ (v : Outcome). v.number) q;
    none = λ y. absurd (y refl);
    is = λ y. z;
    declares = λ y. subst (Declares t p s c k e) (ap (λ (v : Outcome). v.draft) q) h;
  }

pub handed : {t p s : List ℕ} {c : Counts} {k : ℕ} {x : ℕ → Entry} {r v : Taken} {o : Outcome}
    → r ≡ v → Took t p s c k x v o → Took t p s c k x r o
handed {t} {p} {s} {c} {k} {x} {r} {v} {o} e h =
    subst (λ (y : Taken). Took t p s c k x y o) (sym e) h

pub shaped : (f : List (List ℕ)) (count names n x : ℕ) (r : Taken) → r ≡ refusal n x
    → n ≡ shape_of f count names
    → Shaped f count names r
shaped f count names n x r e q = record {
  number = ap (λ (v : Taken). v.number) e ∙ q;
  entry = ap (λ (v : Taken). v.entry) e;
}

-- the same outcome and the same entry by other names
pub retold : {t p s : List ℕ} {c : Counts} {k : ℕ} {x y : ℕ → Entry} {r : Taken} {o q : Outcome}
    → Took t p s c k x r o → ((i : ℕ) → x i ≡ y i) → o ≡ q → Took t p s c k y r q
retold {t} {p} {s} {c} {k} {x} {y} {r} h g e = record {
  number = h.number ∙ ap (λ (v : Outcome). v.number) e;
  none = h.none;
  is = λ z. h.is z ∙ g r.entry.rank;
  declares =
      λ z. subst (Declares t p s c k r.entry) (ap (λ (v : Outcome). v.draft) e) (h.declares z);
}

-- ---- what is declared, and what is not

module _ (t p s : List ℕ) (c : Counts) (u : ℕ) where
  pub is-unit : u < c.units → known (draft_of t p s c).units u ≡ true
  unfolding known
  is-unit h = lt-ltb u (length (draft_of t p s c).units) (omega (arith, units-are t p s c))

  pub no_unit : c.units ≤ u → known (draft_of t p s c).units u ≡ false
  unfolding known
  no_unit h = le-ltb u (length (draft_of t p s c).units) (omega (arith, units-are t p s c))

  pub is-output : u < c.outputs → known (draft_of t p s c).outputs u ≡ true
  unfolding known
  is-output h = lt-ltb u (length (draft_of t p s c).outputs) (omega (arith, outputs-are t p s c))

  pub no-output : c.outputs ≤ u → known (draft_of t p s c).outputs u ≡ false
  unfolding known
  no-output h = le-ltb u (length (draft_of t p s c).outputs) (omega (arith, outputs-are t p s c))

  pub is-input : u < c.inputs → known (draft_of t p s c).inputs u ≡ true
  unfolding known
  is-input h = lt-ltb u (length (draft_of t p s c).inputs) (omega (arith, inputs_are t p s c))

  pub no-input : c.inputs ≤ u → known (draft_of t p s c).inputs u ≡ false
  unfolding known
  no-input h = le-ltb u (length (draft_of t p s c).inputs) (omega (arith, inputs_are t p s c))

  pub is-feed : u < c.feeds → known (draft_of t p s c).feeds u ≡ true
  unfolding known
  is-feed h = lt-ltb u (length (draft_of t p s c).feeds) (omega (arith, feeds-are t p s c))

  pub no-feed : c.feeds ≤ u → known (draft_of t p s c).feeds u ≡ false
  unfolding known
  no-feed h = le-ltb u (length (draft_of t p s c).feeds) (omega (arith, feeds-are t p s c))

-- a count that is, or is not, at its limit
pub full : (n k m : ℕ) → n ≡ k → m ≤ k → leb m n ≡ true
full n k m e h = le-leb m n (omega arith)

pub space : (n k m : ℕ) → n ≡ k → k < m → leb m n ≡ false
space n k m e h = lt-leb m n (omega arith)

-- ---- a field as the stretch between its ends

module _ (t : List ℕ) (a : ℕ) (l : Fields) (told : Told t a l) (i b e : ℕ) (h : i < 5)
    (g : i < l.count)
    (p : b ≡ get_or l.from i 0) (q : e ≡ get_or l.to i 0) where
  pub word-is : stretch t b e ≡ word (row_at t a) i
  word-is = rw (p, q, told.ends i h g) (stretch_field t (get_or l.from i 0)) ∙ told.words i h g

  pub word-here : stretch t b e ≡ field_at t (get_or l.from i 0)
  word-here = rw (p, q, told.ends i h g) (stretch_field t (get_or l.from i 0))

  -- its ends are in the text
  pub word-ends : (b ≤ e) × (e ≤ length t)
  unfolding word_end
  word-ends = (omega (arith, told.ends i h g), omega (arith, told.within i h g))

  pub word_wordy : Wordy (stretch t b e)
  unfolding field_at
  word_wordy = record {
    whole = subst (λ w. front w ≡ w) (sym (word-is ∙ sym (told.words i h g)))
        (Rattle.names.proofs.Walk.front-front (lib.ListN.drop (get_or l.from i 0) t));
  }

-- the first word of a line
pub first_word : (t : List ℕ) (a : ℕ) (l : Fields) → Told t a l → (b e : ℕ) → b ≡ get_or l.from 0 0
    → e ≡ get_or l.to 0 0 → stretch t b e ≡ word (row_at t a) 0
first_word t a l told b e p q = word-is t a l told 0 b e (omega arith) told.some p q
