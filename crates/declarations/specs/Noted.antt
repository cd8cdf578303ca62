-- Where the lines that open with a keyword begin, as many as there is room to note.
use Rattle.std.specs.Prelude.{ℕ, ◌+◌, ◌≡◌, Bool, cond, List, [], ◌∷◌, length, take, drop, ltb}
use Rattle.search.specs.Front.{fronted}
use Rattle.grammar.specs.Words.{same}
use Rattle.grammar.specs.Rows.{rows, word}
use Rattle.fields.specs.Spans.{span}
use Rattle.grammar.specs.Opening.{lines_of}

-- the line f opens with the keyword w
abbrev pub opens : List ℕ → List (List ℕ) → Bool
opens w f = same (word f 0) w

-- the lines that are told: a text over 65,535 bytes has none
unfoldable pub told : List ℕ → List (List (List ℕ))
told t = cond (ltb 65535 (length t)) [] (rows t)

-- the first n lines of the text that open with w
unfoldable pub declared : List ℕ → ℕ → List ℕ → List (List (List ℕ))
declared w n t = take n (lines_of (told t) w)

-- where they begin, the first of all lines at place a
unfoldable pub begins_of : List ℕ → ℕ → List (List (List ℕ)) → List ℕ
begins_of w a [] = []
begins_of w a (f ∷ fs) =
    cond (opens w f) (a ∷ begins_of w (a + span f) fs) (begins_of w (a + span f) fs)

-- where the lines of the text from place a on begin that open with w
unfoldable pub begins_from : List ℕ → List ℕ → ℕ → List ℕ
begins_from w t a = cond (ltb 65535 (length t)) [] (begins_of w a (rows (drop a t)))

-- as many of them as there is room for stand at the front of the lent places, and n are there
pub record Noted (w t places after : List ℕ) (n : ℕ) : Type 0 where
  pub front : after ≡ fronted (take (length places) (begins_from w t 0)) places
  pub count : n ≡ length (take (length places) (begins_from w t 0))
