-- Words that are compared byte for byte: they are the same exactly when they are equal.
use Rattle.std.specs.Prelude.{ℕ, ◌≡◌, refl, List, [], ◌∷◌, T, eqb}
use Rattle.std.proofs.Math.Dec.{eqb_refl}
use Rattle.std.proofs.Common.{eqb-true}
use Rattle.search.specs.Truth.{T_and, and_T, is_true}
use Rattle.grammar.specs.Words.{same}

pub same_true : (v w : List ℕ) → T (same v w) → v ≡ w
unfolding same
same_true [] [] h = refl
same_true [] (y ∷ ys) h = absurd h
same_true (x ∷ xs) [] h = absurd h
same_true (x ∷ xs) (y ∷ ys) h =
    let (a, b) = T_and (eqb x y) (same xs ys) h in
    rw (eqb-true x y (is_true (eqb x y) a), same_true xs ys b)

pub same_self : (w : List ℕ) → T (same w w)
unfolding same
same_self [] = tt
same_self (x ∷ xs) = and_T (eqb x x) (same xs xs) (eqb_refl x) (same_self xs)
