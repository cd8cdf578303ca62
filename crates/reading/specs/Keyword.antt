-- A line by the word that opens it.
use Rattle.std.specs.Prelude.{ℕ, ◌≡◌, refl, Bool, true, false, cond, List}
use Rattle.search.specs.Truth.{holds}
use Rattle.grammar.specs.Quoted.{ascii}
use Rattle.grammar.specs.Words.{same}
use Rattle.grammar.specs.Same.{same_true}
use Rattle.grammar.specs.Rows.{word}
use Rattle.grammar.specs.Opening.{Row}
use Rattle.grammar.specs.Draft.{Draft}
use Rattle.grammar.specs.Lines.{Outcome, refused, unit_line, out_line}
use Rattle.grammar.specs.Lines.{in_line, feed_line, join_line, line}

-- what holds of the outcome of each of the five, and of 24, holds of every line's
pub by-keyword : (P : Outcome → Type 0) (d : Draft) (k : ℕ) (f : Row)
    → (word f 0 ≡ ascii "unit" → P (unit_line d f)) → (word f 0 ≡ ascii "out" → P (out_line d f))
    → (word f 0 ≡ ascii "in" → P (in_line d k f)) → (word f 0 ≡ ascii "feed" → P (feed_line d f))
    → (word f 0 ≡ ascii "join" → P (join_line d f)) → P (refused 24 d) → P (line d k f)
unfolding line
by-keyword P d k f u o i c j n = go (is _) refl (is _) refl (is _) refl (is _) refl (is _) refl
  where
    is : List ℕ → Bool
    is w = same (word f 0) w

    opened : (w : List ℕ) → is w ≡ true → word f 0 ≡ w
    opened w e = same_true (word f 0) w (holds _ e)

    go : (a : Bool) → is (ascii "unit") ≡ a → (b : Bool) → is (ascii "out") ≡ b → (e : Bool)
        → is (ascii "in") ≡ e
        → (g : Bool) → is (ascii "feed") ≡ g → (h : Bool) → is (ascii "join") ≡ h
        → P (cond a (unit_line d f) (cond b (out_line d f)
        (cond e (in_line d k f) (cond g (feed_line d f) (cond h (join_line d f) (refused 24 d))))))
    go true p b q e r g s h t = u (opened _ p)
    go false p true q e r g s h t = o (opened _ q)
    go false p false q true r g s h t = i (opened _ r)
    go false p false q false r true s h t = c (opened _ s)
    go false p false q false r false s true t = j (opened _ t)
    go false p false q false r false s false t = n
