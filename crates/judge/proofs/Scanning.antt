-- A chain over the elements of a slice, or over numbers, answers whether some place passes.
use Rattle.std.proofs.Common.{
  ◌≡◌,
  refl,
  sym,
  ap,
  ◌∙◌,
  inl,
  inr,
  Bool,
  true,
  false,
  not,
  ◌&&◌,
  ◌||◌,
  T,
  List,
  ℕ,
  zero,
  suc,
  ◌+◌,
  ◌-◌,
  ◌/◌,
  ◌<◌,
  ◌≤◌,
  length,
  get_or,
  take,
  arith,
}
use Rattle.std.proofs.Math.Decide.{dec_lt}
use Rattle.std.proofs.lemmas.List.{take_all}
use Rattle.std.proofs.lemmas.List.Folds.{list_any_more}
use Rattle.std.specs.List.{list_any}
use Rattle.search.specs.Every.{every, some, some-found, found_some}
use Rattle.search.specs.Truth.{T_or, or_left, or_right, same_test}

-- one more place
some_more : (q : ℕ → Bool) (n : ℕ) → some q (suc n) ≡ (some q n || q n)
unfolding some every
some_more q n = go (every (λ i. not (q i)) n) (q n)
  where
    go : (a b : Bool) → not (a && not b) ≡ (not a || b)
    go true true = refl
    go true false = refl
    go false b = refl

module _ {X : Type 0} (test : X → Bool) (q : ℕ → Bool) (xs : List X) (d : X) where
  some_front : (n : ℕ) → n ≤ length xs → ((i : ℕ) → i < n → test (get_or xs i d) ≡ q i)
      → list_any test (take n xs) ≡ some q n
  unfolding some every
  some_front zero h e = refl
  some_front (suc n) h e =
      let before = some_front n (omega arith) (λ i l. e i (omega arith)) in
      let here = e n (omega arith) in
      let next : suc n ≡ n + 1 = omega arith in
      ap (λ i. list_any test (take i xs)) next ∙ list_any_more test xs n d (omega arith)
      ∙ ap (λ b. b || test (get_or xs n d)) before ∙ ap (λ b. some q n || b) here
      ∙ sym (some_more q n)

  -- a test that some element passes is one that some place passes
  pub some-place : (n : ℕ) → length xs ≡ n → ((i : ℕ) → i < n → test (get_or xs i d) ≡ q i)
      → list_any test xs ≡ some q n
  some-place n h e =
      ap (list_any test) (sym (take_all n xs (omega arith))) ∙ some_front n (omega arith) e

-- ---- a chain that looks at two places a turn, one of either half

-- the halves hold every place; the middle one of an odd number is in both
pub some-halves : (q : ℕ → Bool) (n : ℕ)
    → some (λ k. q k || q (n / 2 + k)) (n - n / 2) ≡ some q n
some-halves q n = same_test _ _ to from
  where
    to : T (some (λ k. q k || q (n / 2 + k)) (n - n / 2)) → T (some q n)
    to t =
        let (k, h, p) = some-found _ _ t in
        elim (T_or (q k) (q (n / 2 + k)) p) [
          | inl a ↦ found_some q n k (omega arith) a
          | inr a ↦ found_some q n (n / 2 + k) (omega arith) a
        ]

    from : T (some q n) → T (some (λ k. q k || q (n / 2 + k)) (n - n / 2))
    from t =
        let (i, h, p) = some-found q n t in
        elim (dec_lt i (n / 2)) [
          | yes l ↦ found_some _ _ i (omega arith) (or_left (q i) _ p)
          | no l ↦
              (let e : n / 2 + (i - n / 2) ≡ i = omega arith in
              found_some _ _ (i - n / 2) (omega arith) (or_right (q (i - n / 2)) _ (rw e p)))
        ]
