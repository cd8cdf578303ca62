-- Two stretches of bytes compared byte by byte.
use Prim.Native.Nat.{ℕ, zero, suc, ◌+◌, ◌-◌, ◌≤◌, ◌<◌}
use mathlib.Core.Path.{◌≡◌, sym, ◌∙◌}
use mathlib.Core.Bool.{not}
use mathlib.Core.List.{List}
use native.Mathlib.Omega.{arith}
use native.Mathlib.Nat.{min-le_left, min_comm, min-eq_left, le_of_lt}
use native.Mathlib.Decide.{dec_lt}
use lib.ListN.{length, get_or, take, drop, length-take, length-drop}
use lib.Seq.{length-take-le, get_or-take, get_or-drop}
use lib.Dec.{T, eqb}
use borrow.Author.Tests.{lt-ltb, le-ltb, eq-eqb, ne_eqb, eqb-true}
use Rattle.search.specs.Least.{least_from, Lowest, lowest-is}
use Rattle.search.specs.Truth.{clash, is_true, not-not}
use Rattle.names.specs.Alike.{Wordy, differs, shorter, Alike, Common}
use Rattle.names.proofs.Walk.{alike-none, alike-more}

module _ (xs ys : List ℕ) where
  pub second-shorter : length ys < length xs → length ys ≡ shorter xs ys
  unfolding shorter
  second-shorter h = rw (lt-ltb _ _ h)

  pub first-shorter : length xs ≤ length ys → length xs ≡ shorter xs ys
  unfolding shorter
  first-shorter h = rw (le-ltb _ _ h)

  pub shorter-first : shorter xs ys ≤ length xs
  shorter-first = elim (dec_lt (length ys) (length xs)) [
    | yes h ↦ omega (arith, second-shorter h)
    | no h ↦ omega (arith, first-shorter (omega arith))
  ]

  pub shorter-second : shorter xs ys ≤ length ys
  shorter-second = elim (dec_lt (length ys) (length xs)) [
    | yes h ↦ omega (arith, second-shorter h)
    | no h ↦ omega (arith, first-shorter (omega arith))
  ]

  pub shorter_inside : (i : ℕ) → i < length xs → i < length ys → i < shorter xs ys
  shorter_inside i h g = elim (dec_lt (length ys) (length xs)) [
    | yes k ↦ omega (arith, second-shorter k)
    | no k ↦ omega (arith, first-shorter (omega arith))
  ]

  pub alike_at : (i : ℕ) → get_or xs i 0 ≡ get_or ys i 0 → T (not (differs xs ys i))
  unfolding differs
  alike_at i e = rw (eq-eqb _ _ e) tt

  pub alike_is : (i : ℕ) → T (not (differs xs ys i)) → get_or xs i 0 ≡ get_or ys i 0
  unfolding differs
  alike_is i h =
      eqb-true _ _ (is_true (eqb (get_or xs i 0) (get_or ys i 0))
      (not-not (eqb (get_or xs i 0) (get_or ys i 0)) h))

  pub differ-at : (i : ℕ) → (get_or xs i 0 ≡ get_or ys i 0 → ⊥) → T (differs xs ys i)
  unfolding differs
  differ-at i n = rw (ne_eqb _ _ n) tt

-- ---- the stretch of at most n bytes from place a on

module _ (t : List ℕ) (a n : ℕ) where
  abbrev stretch : List ℕ
  stretch = take n (drop a t)

  pub stretch-low : length stretch ≤ length t - a
  stretch-low =
      rw (length-take n (drop a t), min_comm n (length (drop a t)), ← length-drop a t)
      (min-le_left (length (drop a t)) n)

  pub stretch-inside : (i : ℕ) → i < n → a + i < length t → i < length stretch
  stretch-inside i h g = elim (dec_lt (length (drop a t)) n) [
    | yes k ↦ omega (
      arith,
      length-take n (drop a t) ∙ min_comm n (length (drop a t)) ∙ min-eq_left (le_of_lt k),
      length-drop a t,
    )
    | no k ↦ omega (arith, length-take-le n (drop a t) (omega arith))
  ]

  pub stretch-at : (i : ℕ) → i < n → get_or stretch i 0 ≡ get_or t (a + i) 0
  stretch-at i h = get_or-take n (drop a t) i 0 h ∙ get_or-drop a t i 0

-- ---- what the field at place a and the word have in common

module _ (t : List ℕ) (a : ℕ) (w : List ℕ) (k : Wordy w) (r : ℕ) (v : List ℕ)
    (vs : v ≡ take (length w) (drop a t)) (q : r ≡ least_from (differs v w) (shorter v w) 0) where
  abbrev x : List ℕ
  x = take (length w) (drop a t)

  least : Lowest (differs x w) (shorter x w) r
  least = rw (← vs, q) (lowest-is (differs v w) (shorter v w))

  common_most : r ≤ length w
  common_most = omega (arith, least.high, shorter-second x w)

  common_low : r ≤ length t - a
  common_low = omega (arith, least.high, shorter-first x w, stretch-low t a (length w))

  same_byte : (i : ℕ) → i < r → get_or t (a + i) 0 ≡ get_or w i 0
  same_byte i h =
      let l : i < length w = omega (arith, common_most) in
      sym (stretch-at t a (length w) i l) ∙ alike_is x w i (least.below i h)

  common_differ : r < length w → a + r < length t → get_or t (a + r) 0 ≡ get_or w r 0 → ⊥
  common_differ h g z =
      clash (differs x w r)
      (least.passes (shorter_inside x w r (stretch-inside t a (length w) r h g) h))
      (alike_at x w r (stretch-at t a (length w) r h ∙ z))

  common_alike : Alike t a w r
  common_alike = upto r common_most common_low same_byte
    where
      upto : (i : ℕ) → i ≤ length w → i ≤ length t - a
          → ((j : ℕ) → j < i → get_or t (a + j) 0 ≡ get_or w j 0)
          → Alike t a w i
      upto zero h g f = alike-none t a w
      upto (suc i) h g f =
          alike-more t a w i k (upto i (omega arith) (omega arith) (λ j l. f j (omega arith)))
          (omega arith)
          (omega arith) (f i (omega arith))

  pub in_common : Common t a w r
  in_common = record { alike = common_alike; low = common_low; differ = common_differ }
