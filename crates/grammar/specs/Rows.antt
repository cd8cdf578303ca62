-- A text as lines of fields, and places in it: SPECIFICATION, Text 2.
use Rattle.std.specs.Prelude.{
  ℕ,
  suc,
  ◌+◌,
  ◌-◌,
  Bool,
  not,
  cond,
  List,
  [],
  ◌∷◌,
  length,
  get_or,
  take,
  drop,
  eqb,
}
use Rattle.grammar.specs.Words.{tab, lf, allowed}

-- a byte more at the front of the first line's first field
unfoldable pub grown : ℕ → List (List (List ℕ)) → List (List (List ℕ))
grown x [] = []
grown x ([] ∷ rs) = [] ∷ rs
grown x ((f ∷ fs) ∷ rs) = ((x ∷ f) ∷ fs) ∷ rs

-- an empty field more at the front of the first line
unfoldable pub parted : List (List (List ℕ)) → List (List (List ℕ))
parted [] = []
parted (r ∷ rs) = ([] ∷ r) ∷ rs

-- an LF ends a line, and a tab stands between two fields;
-- what no LF follows is no line: 21 precedes
unfoldable pub rows : List ℕ → List (List (List ℕ))
rows [] = []
rows (x ∷ xs) = cond (eqb x lf) (([] ∷ []) ∷ rows xs) (cond (eqb x tab) (parted (rows xs)) (grown x (rows xs)))

-- field i of a line, from 0
unfoldable pub word : List (List ℕ) → ℕ → List ℕ
word f i = get_or f i []

-- the place of the first that passes, or the length
unfoldable pub place : {A : Type 0} → (A → Bool) → List A → ℕ
place p [] = 0
place p (x ∷ xs) = cond (p x) 0 (suc (place p xs))

-- how many are c
unfoldable pub times : ℕ → List ℕ → ℕ
times c [] = 0
times c (x ∷ xs) = cond (eqb x c) (suc (times c xs)) (times c xs)

-- the line, counted from 1, on which the byte at place i stands
-- for 21 i is the text's length, and the line is the one that is not ended
unfoldable pub line_of : List ℕ → ℕ → ℕ
line_of t i = suc (times lf (take i t))

-- the place of the first byte that is not allowed, or the length
unfoldable pub first_bad : List ℕ → ℕ
first_bad t = place (λ b. not (allowed b)) t

-- ---- places of fields in the text, for the contracts of those who read it

-- the bytes from place a up to place e
unfoldable pub stretch : List ℕ → ℕ → ℕ → List ℕ
stretch t a e = take (e - a) (drop a t)

-- the bytes before the first tab or LF
unfoldable pub front : List ℕ → List ℕ
front [] = []
front (x ∷ xs) = cond (eqb x lf) [] (cond (eqb x tab) [] (x ∷ front xs))

-- the field that begins at place a, and where it ends
unfoldable pub field_at : List ℕ → ℕ → List ℕ
field_at t a = front (drop a t)

unfoldable pub word_end : List ℕ → ℕ → ℕ
word_end t a = a + length (field_at t a)

-- the fields of the line that begins at place a
unfoldable pub row_at : List ℕ → ℕ → List (List ℕ)
row_at t a = get_or (rows (drop a t)) 0 []
