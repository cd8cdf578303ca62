-- A printed line: SPECIFICATION, Lister 1.
use Rattle.std.specs.Prelude.{ℕ, List, [], ◌∷◌, ◌++◌}
use Rattle.grammar.specs.Words.{tab, lf}

-- a tab behind each field but the last, which has an LF behind it
unfoldable pub printed : List (List ℕ) → List ℕ
printed [] = []
printed (f ∷ []) = f ++ (lf ∷ [])
printed (f ∷ g ∷ fs) = f ++ (tab ∷ printed (g ∷ fs))
