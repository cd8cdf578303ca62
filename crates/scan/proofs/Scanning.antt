-- Laws of the two walks over a text, and of the byte test.
use Prim.Native.Nat.{ℕ, zero, suc, ◌+◌, ◌≤◌, ◌<◌}
use mathlib.Core.Path.{◌≡◌, refl, sym, ap, ◌∙◌}
use mathlib.Core.Bool.{Bool, true, false, not, ◌||◌, cond}
use mathlib.Core.List.{List, [], ◌∷◌, ◌++◌}
use native.Mathlib.Numerals.{add-one}
use native.Mathlib.Omega.{arith}
use lib.ListN.{length, get_or, take}
use lib.Seq.{take-suc}
use lib.Dec.{eqb, leb}
use borrow.Author.Tests.{eq-eqb, ne_eqb, le-leb, lt-leb}
use Rattle.search.specs.Least.{least_from}
use Rattle.grammar.specs.Words.{lf, allowed}
use Rattle.grammar.specs.Rows.{times, first_bad}
use Rattle.grammar.specs.Places.{place-least}

pub bad_least : (t : List ℕ) → first_bad t
    ≡ least_from (λ i. not (allowed (get_or t i 0))) (length t) 0
unfolding first_bad
bad_least t =
    place-least (λ b. not (allowed b)) 0 t (λ i. not (allowed (get_or t i 0))) (length t) refl
    (λ i h. refl)

times_append : (c x : ℕ) (xs : List ℕ) → times c (xs ++ (x ∷ [])) ≡ times c xs + cond (eqb x c) 1 0
unfolding times
times_append c x [] = go (eqb x c)
  where
    go : (b : Bool) → cond b 1 0 ≡ 0 + cond b 1 0
    go true = omega arith
    go false = omega arith
times_append c x (y ∷ ys) = go (eqb y c) (times_append c x ys)
  where
    go : (b : Bool) → times c (ys ++ (x ∷ [])) ≡ times c ys + cond (eqb x c) 1 0
        → cond b (suc (times c (ys ++ (x ∷ [])))) (times c (ys ++ (x ∷ [])))
        ≡ cond b (suc (times c ys)) (times c ys) + cond (eqb x c) 1 0
    go true e = omega arith
    go false e = e

module _ (t : List ℕ) (i n : ℕ) (h : i < length t) (e : n ≡ times lf (take i t)) where
  one-more : times lf (take (i + 1) t) ≡ n + cond (eqb (get_or t i 0) lf) 1 0
  one-more =
      rw (add-one i, take-suc t i 0 h)
      (times_append lf (get_or t i 0) (take i t)
      ∙ ap (λ k. k + cond (eqb (get_or t i 0) lf) 1 0) (sym e))

  pub counts : get_or t i 0 ≡ 10 → n + 1 ≡ times lf (take (i + 1) t)
  counts q = sym (one-more ∙ rw (eq-eqb _ _ q))

  pub passes : (get_or t i 0 ≡ 10 → ⊥) → n ≡ times lf (take (i + 1) t)
  passes q = sym (one-more ∙ rw (ne_eqb _ _ q) (omega arith))

module _ (b : ℕ) where
  pub letter : 97 ≤ b → leb b 122 ≡ allowed b
  unfolding allowed
  letter h =
      rw (
        le-leb 97 b h,
        le-leb 48 b (omega arith),
        lt-leb b 57 (omega arith),
        ne_eqb b 95 (λ e. omega arith),
        ne_eqb b 9 (λ e. omega arith),
        ne_eqb b 10 (λ e. omega arith),
      ) (go (leb b 122))
    where
      go : (x : Bool) → x ≡ (x || false)
      go true = refl
      go false = refl

  module _ (h : b < 97) where
    pub underscore : b ≡ 95 → true ≡ allowed b
    unfolding allowed
    underscore e = rw e

    module _ (n : b ≡ 95 → ⊥) where
      pub digit : 48 ≤ b → leb b 57 ≡ allowed b
      unfolding allowed
      digit g =
          rw (
            lt-leb 97 b h,
            le-leb 48 b g,
            ne_eqb b 95 n,
            ne_eqb b 9 (λ e. omega arith),
            ne_eqb b 10 (λ e. omega arith),
          ) (go (leb b 57))
        where
          go : (x : Bool) → x ≡ (x || false)
          go true = refl
          go false = refl

      module _ (g : b < 48) where
        pub a_tab : b ≡ 9 → true ≡ allowed b
        unfolding allowed
        a_tab e = rw e

        pub an_lf : (b ≡ 9 → ⊥) → eqb b 10 ≡ allowed b
        unfolding allowed
        an_lf k = rw (lt-leb 97 b h, lt-leb 48 b g, ne_eqb b 95 n, ne_eqb b 9 k)

pub take_all : (t : List ℕ) (i : ℕ) → length t ≤ i → take i t ≡ t
take_all [] zero h = refl
take_all [] (suc i) h = refl
take_all (x ∷ xs) zero h = absurd (omega arith)
take_all (x ∷ xs) (suc i) h = rw (take_all xs i (omega arith))

pub times-all : (c : ℕ) (t : List ℕ) (i : ℕ) → length t ≤ i → times c (take i t) ≡ times c t
times-all c t i h = ap (times c) (take_all t i h)
