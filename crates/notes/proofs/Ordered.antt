-- The order of names is strict and total.
use Prim.Native.Nat.{ℕ, ◌≤◌, ◌<◌}
use mathlib.Core.Path.{◌≡◌, refl, sym, ◌∙◌}
use mathlib.Core.Bool.{Bool, true, false, cond}
use mathlib.Core.List.{List, [], ◌∷◌}
use native.Mathlib.Omega.{arith}
use native.Mathlib.Decide.{dec_lt}
use lib.Dec.{ltb}
use borrow.Author.Tests.{lt-ltb, le-ltb}
use Rattle.notes.specs.Compared.{compared}

-- ---- by the first bytes

module _ (x y : ℕ) (xs ys : List ℕ) where
  pub first-before : x < y → compared (x ∷ xs) (y ∷ ys) ≡ 0
  unfolding compared
  first-before h = rw (lt-ltb x y h)

  pub first-after : y < x → compared (x ∷ xs) (y ∷ ys) ≡ 2
  unfolding compared
  first-after h = rw (le-ltb x y (omega arith), lt-ltb y x h)

  pub first-same : x ≡ y → compared (x ∷ xs) (y ∷ ys) ≡ compared xs ys
  unfolding compared
  first-same e = rw (le-ltb x y (omega arith), le-ltb y x (omega arith))

pub compared-self : (xs : List ℕ) → compared xs xs ≡ 1
unfolding compared
compared-self [] = refl
compared-self (x ∷ xs) = first-same x x xs xs refl ∙ compared-self xs

pub compared_equal : (xs ys : List ℕ) → compared xs ys ≡ 1 → xs ≡ ys
unfolding compared
compared_equal [] [] e = refl
compared_equal [] (y ∷ ys) e = absurd (omega arith)
compared_equal (x ∷ xs) [] e = absurd (omega arith)
compared_equal (x ∷ xs) (y ∷ ys) e = elim (dec_lt x y) [
  | yes h ↦ absurd (omega (arith, first-before x y xs ys h))
  | no h ↦ elim (dec_lt y x) [
    | yes g ↦ absurd (omega (arith, first-after x y xs ys g))
    | no g ↦
        let z : x ≡ y = omega arith in
        rw (z, compared_equal xs ys (sym (first-same x y xs ys z) ∙ e))
  ]
]

pub compared-low : (xs ys : List ℕ) → compared xs ys ≤ 2
unfolding compared
compared-low [] [] = omega arith
compared-low [] (y ∷ ys) = omega arith
compared-low (x ∷ xs) [] = omega arith
compared-low (x ∷ xs) (y ∷ ys) = go (ltb x y) (ltb y x) (compared-low xs ys)
  where
    go : (a b : Bool) → compared xs ys ≤ 2 → cond a 0 (cond b 2 (compared xs ys)) ≤ 2
    go true b h = omega arith
    go false true h = omega arith
    go false false h = h

-- ---- before and after, seen from the other side

pub before-after : (xs ys : List ℕ) → compared xs ys ≡ 0 → compared ys xs ≡ 2
unfolding compared
before-after [] [] e = absurd (omega arith)
before-after [] (y ∷ ys) e = refl
before-after (x ∷ xs) [] e = absurd (omega arith)
before-after (x ∷ xs) (y ∷ ys) e = elim (dec_lt x y) [
  | yes h ↦ first-after y x ys xs h
  | no h ↦ elim (dec_lt y x) [
    | yes g ↦ absurd (omega (arith, first-after x y xs ys g))
    | no g ↦
        let z : x ≡ y = omega arith in
        first-same y x ys xs (sym z) ∙ before-after xs ys (sym (first-same x y xs ys z) ∙ e)
  ]
]

pub after-before : (xs ys : List ℕ) → compared xs ys ≡ 2 → compared ys xs ≡ 0
unfolding compared
after-before [] [] e = absurd (omega arith)
after-before [] (y ∷ ys) e = absurd (omega arith)
after-before (x ∷ xs) [] e = refl
after-before (x ∷ xs) (y ∷ ys) e = elim (dec_lt y x) [
  | yes h ↦ first-before y x ys xs h
  | no h ↦ elim (dec_lt x y) [
    | yes g ↦ absurd (omega (arith, first-before x y xs ys g))
    | no g ↦
        let z : x ≡ y = omega arith in
        first-same y x ys xs (sym z) ∙ after-before xs ys (sym (first-same x y xs ys z) ∙ e)
  ]
]

-- ---- one after the other

pub before-before : (xs ys zs : List ℕ) → compared xs ys ≡ 0 → compared ys zs ≡ 0
    → compared xs zs ≡ 0
unfolding compared
before-before [] [] zs e f = absurd (omega arith)
before-before [] (y ∷ ys) [] e f = absurd (omega arith)
before-before [] (y ∷ ys) (z ∷ zs) e f = refl
before-before (x ∷ xs) [] zs e f = absurd (omega arith)
before-before (x ∷ xs) (y ∷ ys) [] e f = absurd (omega arith)
before-before (x ∷ xs) (y ∷ ys) (z ∷ zs) e f = elim (dec_lt x z) [
  | yes h ↦ first-before x z xs zs h
  | no h ↦ elim (dec_lt y x) [
    | yes g ↦ absurd (omega (arith, first-after x y xs ys g))
    | no g ↦ elim (dec_lt z y) [
      | yes k ↦ absurd (omega (arith, first-after y z ys zs k))
      | no k ↦
          let a : x ≡ y = omega arith in
          let b : y ≡ z = omega arith in
          first-same x z xs zs (a ∙ b)
          ∙ before-before xs ys zs (sym (first-same x y xs ys a) ∙ e)
          (sym (first-same y z ys zs b) ∙ f)
    ]
  ]
]
