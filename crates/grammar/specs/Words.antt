-- The bytes that a text may have, and words compared: SPECIFICATION, Text 1 and 5.
use Rattle.std.specs.Prelude.{ℕ, Bool, true, false, ◌&&◌, ◌||◌, List, [], ◌∷◌, eqb, leb}

abbrev pub tab : ℕ
tab = 9

abbrev pub lf : ℕ
lf = 10

-- letters a to z, digits, underscore, tab, LF
unfoldable pub allowed : ℕ → Bool
allowed b = (leb 97 b && leb b 122) || ((leb 48 b && leb b 57) || (eqb b 95 || (eqb b tab || eqb b lf)))

-- the very same word
unfoldable pub same : List ℕ → List ℕ → Bool
same [] [] = true
same [] (y ∷ ys) = false
same (x ∷ xs) [] = false
same (x ∷ xs) (y ∷ ys) = eqb x y && same xs ys
