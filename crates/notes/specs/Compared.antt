-- Lists of bytes compared.
use Rattle.std.specs.Prelude.{ℕ, cond, List, [], ◌∷◌, ltb}

-- 0 where the one list is before the other, byte by byte, 1 where they are equal, 2 where after it
unfoldable pub compared : List ℕ → List ℕ → ℕ
compared [] [] = 1
compared [] (y ∷ ys) = 0
compared (x ∷ xs) [] = 2
compared (x ∷ xs) (y ∷ ys) = cond (ltb x y) 0 (cond (ltb y x) 2 (compared xs ys))
