-- Comparing two lists of bytes, and finding the end of a field, one byte at a time.
use Prim.Native.Nat.{ℕ, suc, ◌+◌, ◌<◌, ◌≤◌}
use mathlib.Core.Path.{◌≡◌, refl, ap}
use mathlib.Core.Bool.{true, false, and-false}
use mathlib.Core.List.{List, [], ◌∷◌}
use native.Mathlib.Numerals.{add-one}
use native.Mathlib.Nat.{add-zero}
use native.Mathlib.Omega.{arith}
use lib.ListN.{length, get_or, drop, drop_of_length-le}
use lib.Seq.{drop-cons}
use borrow.Author.Tests.{eq-eqb, ne_eqb}
use Rattle.grammar.specs.Words.{tab, lf, same}
use Rattle.grammar.specs.Rows.{front, field_at, word_end}

pub same_lengths : (a b : List ℕ) → (length a ≡ length b → ⊥) → false ≡ same a b
unfolding same
same_lengths [] [] n = absurd (n refl)
same_lengths [] (y ∷ ys) n = refl
same_lengths (x ∷ xs) [] n = refl
same_lengths (x ∷ xs) (y ∷ ys) n = rw (← same_lengths xs ys (λ e. n (ap suc e)), and-false)

module _ (a b : List ℕ) (i : ℕ) where
  pub same-on :
      i < length a → i < length b → get_or a i 0 ≡ get_or b i 0 →
      same (drop i a) (drop i b) ≡ same (drop (i + 1) a) (drop (i + 1) b)
  unfolding same
  same-on h g e = rw (
    add-one,
    drop-cons a i 0,
    drop-cons b i 0,
    eq-eqb (get_or a i 0)
        (get_or b i 0) e,
  )

  pub same_stop :
      i < length a → i < length b → (get_or a i 0 ≡ get_or b i 0 → ⊥)
      → same (drop i a) (drop i b) ≡ false
  unfolding same
  same_stop h g e = rw (drop-cons a i 0, drop-cons b i 0, ne_eqb (get_or a i 0) (get_or b i 0) e)

  pub same_end : length a ≤ i → length b ≤ i → same (drop i a) (drop i b) ≡ true
  unfolding same
  same_end h g = rw (drop_of_length-le a h, drop_of_length-le b g)

module _ (t : List ℕ) (i : ℕ) where
  pub word_on :
      i < length t → (get_or t i 0 ≡ lf → ⊥) → (get_or t i 0 ≡ tab → ⊥)
      → word_end t i ≡ word_end t (i + 1)
  unfolding word_end field_at front
  word_on h p q = rw (drop-cons t i 0, ne_eqb _ _ p, ne_eqb _ _ q, add-one i) (omega arith)

  pub word-lf : i < length t → get_or t i 0 ≡ lf → word_end t i ≡ i
  unfolding word_end field_at front
  word-lf h p = rw (drop-cons t i 0, eq-eqb _ _ p, add-zero)

  pub word-tab : i < length t → (get_or t i 0 ≡ lf → ⊥) → get_or t i 0 ≡ tab → word_end t i ≡ i
  unfolding word_end field_at front
  word-tab h p q = rw (drop-cons t i 0, ne_eqb _ _ p, eq-eqb _ _ q, add-zero)

  pub word_none : length t ≤ i → word_end t i ≡ i
  unfolding word_end field_at front
  word_none h = rw (drop_of_length-le t h, add-zero)
