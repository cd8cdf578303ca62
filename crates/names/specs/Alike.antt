-- A name in the text beside a word, byte by byte.
use Rattle.std.specs.Prelude.{
  ℕ,
  ◌+◌,
  ◌-◌,
  ◌≤◌,
  ◌<◌,
  ◌≡◌,
  Bool,
  not,
  cond,
  List,
  length,
  get_or,
  drop,
  eqb,
  ltb,
}
use Rattle.grammar.specs.Rows.{front, field_at}
use Rattle.notes.specs.Compared.{compared}

-- a word has no tab and no LF in it
pub record Wordy (w : List ℕ) : Type 0 where
  pub whole : front w ≡ w

-- the lists have different numbers at place i
unfoldable pub differs : List ℕ → List ℕ → ℕ → Bool
differs xs ys i = not (eqb (get_or xs i 0) (get_or ys i 0))

-- the length of the shorter list
unfoldable pub shorter : List ℕ → List ℕ → ℕ
shorter xs ys = cond (ltb (length ys) (length xs)) (length ys) (length xs)

-- the field at place a and the word are alike in their first i bytes
pub record Alike (t : List ℕ) (a : ℕ) (w : List ℕ) (i : ℕ) : Type 0 where
  pub most : i ≤ length w
  pub left : compared (field_at t a) w ≡ compared (field_at t (a + i)) (drop i w)

-- they have i first bytes in common, and no more
pub record Common (t : List ℕ) (a : ℕ) (w : List ℕ) (i : ℕ) : Type 0 where
  pub alike : Alike t a w i
  pub low : i ≤ length t - a
  pub differ : i < length w → a + i < length t → get_or t (a + i) 0 ≡ get_or w i 0 → ⊥
