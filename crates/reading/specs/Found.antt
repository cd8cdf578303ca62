-- Searching a list by place; lists in which each is found at its own place.
use Prim.Native.Nat.{ℕ, suc, ◌+◌, ◌<◌, ◌≤◌}
use Rattle.std.specs.Prelude.{◌≡◌, Bool, get_or}
use Rattle.std.proofs.Math.Path.{refl, ap}
use Rattle.std.proofs.Common.{◌∙◌, length-append}
use Rattle.std.proofs.Math.Bool.{true, false, cond}
use mathlib.Core.List.{List, [], ◌∷◌, ◌++◌, map}
use native.Mathlib.Omega.{arith}
use Rattle.std.proofs.Math.Decide.{dec_lt}
use Rattle.std.proofs.Math.ListN.{length, get_or-append}
use Rattle.std.proofs.Math.Seq.{get_or-append_seam}
use Rattle.grammar.specs.Rows.{place}

module _ {A : Type 0} (p : A → Bool) where
  pub place-most : (xs : List A) → place p xs ≤ length xs
  unfolding place
  place-most [] = omega arith
  place-most (x ∷ xs) = go (p x) (place-most xs)
    where
      go : (b : Bool) → place p xs ≤ length xs → cond b 0 (suc (place p xs)) ≤ suc (length xs)
      go true h = omega arith
      go false h = omega arith

  -- what is found in the front is found there in the whole
  pub place-front : (xs ys : List A) → place p xs < length xs → place p (xs ++ ys) ≡ place p xs
  unfolding place
  place-front [] ys h = absurd (omega arith)
  place-front (x ∷ xs) ys h = go (p x) (place-front xs ys) h
    where
      go : (b : Bool) → (place p xs < length xs → place p (xs ++ ys) ≡ place p xs)
          → cond b 0 (suc (place p xs)) < suc (length xs)
          → cond b 0 (suc (place p (xs ++ ys))) ≡ cond b 0 (suc (place p xs))
      go true ih h = refl
      go false ih h = ap suc (ih (omega arith))

  -- what is not found in the front is found behind it
  pub place-behind : (xs : List A) (y : A) → length xs ≤ place p xs → p y ≡ true
      → place p (xs ++ (y ∷ [])) ≡ length xs
  unfolding place
  place-behind [] y h e = rw e
  place-behind (x ∷ xs) y h e = go (p x) (λ n. place-behind xs y n e) h
    where
      go : (b : Bool) → (length xs ≤ place p xs → place p (xs ++ (y ∷ [])) ≡ length xs)
          → suc (length xs) ≤ cond b 0 (suc (place p xs))
          → cond b 0 (suc (place p (xs ++ (y ∷ [])))) ≡ suc (length xs)
      go true ih h = absurd (omega arith)
      go false ih h = ap suc (ih (omega arith))

pub place_map : {A B : Type 0} (p : B → Bool) (f : A → B) (xs : List A)
    → place p (map f xs) ≡ place (λ x. p (f x)) xs
unfolding place
place_map p f [] = refl
place_map p f (x ∷ xs) = ap (λ n. cond (p (f x)) 0 (suc n)) (place_map p f xs)

-- two tests that agree at each place find the same place
pub place-along : {A B : Type 0} (p : A → Bool) (q : B → Bool) (a : A) (b : B) (xs : List A)
    (ys : List B)
    → length xs ≡ length ys
    → ((i : ℕ) → i < length xs → p (get_or xs i a) ≡ q (get_or ys i b)) → place p xs ≡ place q ys
unfolding place
place-along p q a b [] [] l h = refl
place-along p q a b [] (y ∷ ys) l h = absurd (omega arith)
place-along p q a b (x ∷ xs) [] l h = absurd (omega arith)
place-along p q a b (x ∷ xs) (y ∷ ys) l h =
    rw (h 0 (omega arith), place-along p q a b xs ys (omega arith) (λ i g. h (suc i) (omega arith)))

pub place-alike : {A : Type 0} (p q : A → Bool) (e : A) (xs : List A)
    → ((i : ℕ) → i < length xs → p (get_or xs i e) ≡ q (get_or xs i e)) → place p xs ≡ place q xs
place-alike p q e xs h = place-along p q e e xs xs refl h

-- ---- each is found at its own place: no other before it is alike
module _ {A : Type 0} (alike : A → A → Bool) (e : A) where
  abbrev pub Once : List A → Type 0
  Once xs = (i : ℕ) → i < length xs → place (alike (get_or xs i e)) xs ≡ i

  pub once_more : (xs : List A) (x : A) → Once xs → length xs ≤ place (alike x) xs
      → alike x x ≡ true
      → Once (xs ++ (x ∷ []))
  once_more xs x h n s i g =
      let q : length (xs ++ (x ∷ [])) ≡ length xs + 1 = length-append xs (x ∷ []) in
      elim (dec_lt i (length xs)) [
        | yes k ↦ rw (get_or-append xs (x ∷ []) e i k)
            (place-front (alike (get_or xs i e)) xs (x ∷ []) (rw (h i k) k) ∙ h i k)
        | no k ↦ let z : i ≡ length xs = omega arith in
            rw (z, get_or-append_seam xs x [] e) (place-behind (alike x) xs x n s)
      ]
