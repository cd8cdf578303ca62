-- A line by its keyword.
use Prim.Native.Nat.{ℕ}
use Prim.Native.String.{String}
use mathlib.Core.Path.{◌≡◌, refl, sym, ap, ◌∙◌}
use mathlib.Core.Bool.{Bool, true, false, cond}
use mathlib.Core.List.{List}
use borrow.Author.Tests.{ne_eqb}
use Rattle.grammar.specs.Quoted.{ascii}
use Rattle.grammar.specs.Words.{same}
use Rattle.grammar.specs.Rows.{word}
use Rattle.grammar.specs.Draft.{Draft}
use Rattle.grammar.specs.Lines.{Outcome, refused, line, unit_line}
use Rattle.grammar.specs.Lines.{out_line, in_line, feed_line, join_line}
use Rattle.lines.specs.Took.{keyword_of, unit_entry, out_entry}
use Rattle.lines.specs.Took.{in_entry, feed_entry, join_entry, entry_of}

-- what is done for keyword number k
unfoldable pub by_keyword : Draft → ℕ → List (List ℕ) → ℕ → Outcome
by_keyword d n f k =
    cond (lib.Dec.eqb k 1) (unit_line d f)
    (cond (lib.Dec.eqb k 2) (out_line d f)
    (cond (lib.Dec.eqb k 3) (in_line d n f)
    (cond (lib.Dec.eqb k 4) (feed_line d f)
    (cond (lib.Dec.eqb k 5) (join_line d f)
    (refused 24 d)))))

module _ (d : Draft) (n : ℕ) (f : List (List ℕ)) where
  abbrev is : String → Bool
  is s = same (word f 0) (ascii s)

  by-keyword : line d n f ≡ by_keyword d n f (keyword_of (word f 0))
  unfolding line by_keyword keyword_of
  by-keyword = go (is "unit") (is "out") (is "in") (is "feed") (is "join")
    where
      go : (a b c e g : Bool)
          → cond a (unit_line d f)
          (cond b (out_line d f) (cond c (in_line d n f) (cond e (feed_line d f)
          (cond g (join_line d f) (refused 24 d)))))
          ≡ by_keyword d n f (cond a 1 (cond b 2 (cond c 3 (cond e 4 (cond g 5 0)))))
      go true b c e g = refl
      go false true c e g = refl
      go false false true e g = refl
      go false false false true g = refl
      go false false false false true = refl
      go false false false false false = refl

  module _ (k : ℕ) (w : List ℕ) (e : k ≡ keyword_of w) (q : w ≡ word f 0) where
    line-is : line d n f ≡ by_keyword d n f k
    line-is = by-keyword ∙ ap (by_keyword d n f) (sym (e ∙ ap keyword_of q))

    pub line-unit : k ≡ 1 → unit_line d f ≡ line d n f
    unfolding by_keyword
    line-unit z = sym (line-is ∙ rw z)

    pub line_out : k ≡ 2 → out_line d f ≡ line d n f
    unfolding by_keyword
    line_out z = sym (line-is ∙ rw z)

    pub line_in : k ≡ 3 → in_line d n f ≡ line d n f
    unfolding by_keyword
    line_in z = sym (line-is ∙ rw z)

    pub line-feed : k ≡ 4 → feed_line d f ≡ line d n f
    unfolding by_keyword
    line-feed z = sym (line-is ∙ rw z)

    pub line-join : k ≡ 5 → join_line d f ≡ line d n f
    unfolding by_keyword
    line-join z = sym (line-is ∙ rw z)

    pub line-none : (k ≡ 1 → ⊥) → (k ≡ 2 → ⊥) → (k ≡ 3 → ⊥) → (k ≡ 4 → ⊥) → (k ≡ 5 → ⊥)
        → refused 24 d ≡ line d n f
    unfolding by_keyword
    line-none a b c g h =
        sym (line-is ∙ rw (ne_eqb k 1 a, ne_eqb k 2 b, ne_eqb k 3 c, ne_eqb k 4 g, ne_eqb k 5 h))

    -- ---- what it declares, by its keyword
    module _ (from : List ℕ) (i : ℕ) where
      keyword_is : keyword_of (word f 0) ≡ k
      keyword_is = sym (e ∙ ap keyword_of q)

      pub entry-unit : k ≡ 1 → unit_entry from i ≡ entry_of d f from i
      unfolding entry_of
      entry-unit z = sym (rw (keyword_is, z))

      pub entry_out : k ≡ 2 → out_entry d f from i ≡ entry_of d f from i
      unfolding entry_of
      entry_out z = sym (rw (keyword_is, z))

      pub entry_in : k ≡ 3 → in_entry d f from i ≡ entry_of d f from i
      unfolding entry_of
      entry_in z = sym (rw (keyword_is, z))

      pub entry-feed : k ≡ 4 → feed_entry d f i ≡ entry_of d f from i
      unfolding entry_of
      entry-feed z = sym (rw (keyword_is, z))

      pub entry-join : k ≡ 5 → join_entry d f i ≡ entry_of d f from i
      unfolding entry_of
      entry-join z = sym (rw (keyword_is, z))
