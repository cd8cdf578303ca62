-- Laws of the functions that check a part of a table, and its feeds one after another.
use Prim.Native.Nat.{ℕ, suc, ◌+◌, ◌-◌, ◌*◌, ◌/◌, ◌%◌, ◌<◌, ◌≤◌}
use mathlib.Core.Path.{◌≡◌}
use mathlib.Core.Bool.{Bool, true, false, ◌||◌}
use mathlib.Core.List.{List}
use native.Mathlib.Numerals.{add-one}
use native.Mathlib.Omega.{arith}
use lib.ListN.{length, get_or}
use lib.Dec.{T, ltb}
use Rattle.std.specs.Prelude.{◌↔◌}
use Rattle.std.proofs.Common.{inl, inr, ltb→lt, lt→ltb}
use Rattle.std.proofs.Math.Decide.{ℕ_discrete, dec_lt}
use Rattle.search.specs.Every.{every, every-each, each-every, some, some-found, found_some}
use Rattle.search.specs.Truth.{is_true, holds, same_test, T_or, or_left, or_right}
use Rattle.table.specs.Check.{refuse, all_below, feed_known, feed_again, feeds_from}

-- a part is held to a bound exactly where each of its bytes is below it
pub below_iff : {r : Bool} (bytes : List ℕ) (bound : ℕ)
    → ((r ≡ true) ↔ ((k : ℕ) → k < length bytes → get_or bytes k 0 < bound))
    → r ≡ all_below bound bytes
unfolding all_below
below_iff {r} bytes bound h =
    let q : ℕ → Bool = λ k. ltb (get_or bytes k 0) bound in
    same_test r (every q (length bytes))
    (λ t. each-every q (length bytes) (λ k l. lt→ltb _ _ (h.0 (is_true r t) k l)))
    (λ t. holds r (h.1 (λ k l. ltb→lt _ _ (every-each q (length bytes) t k l))))

-- ---- a chain that looks at four places a turn, and one at the rest

-- a test of the four places from j on
abbrev pub of_four : (ℕ → Bool) → ℕ → Bool
of_four q j = q j || (q (j + 1) || (q (j + 2) || q (j + 3)))

in_four : (q : ℕ → Bool) (j i : ℕ) → j ≤ i → i < j + 4 → T (q i) → T (of_four q j)
in_four q j i l h p = elim (ℕ_discrete i j) [
  | yes e ↦ or_left (q j) _ (rw e at p)
  | no a ↦ or_right (q j) _ (elim (ℕ_discrete i (j + 1)) [
    | yes e ↦ or_left (q (j + 1)) _ (rw e at p)
    | no b ↦ or_right (q (j + 1)) _ (elim (ℕ_discrete i (j + 2)) [
      | yes e ↦ or_left (q (j + 2)) _ (rw e at p)
      | no c ↦ (let e : i ≡ j + 3 = omega (arith, a, b, c) in
          or_right (q (j + 2)) _ (rw e at p))
    ])
  ])
]

four_found : (q : ℕ → Bool) (n j : ℕ) → j + 3 < n → T (of_four q j) → T (some q n)
four_found q n j h t = elim (T_or (q j) _ t) [
  | inl p ↦ found_some q n j (omega arith) p
  | inr t ↦ elim (T_or (q (j + 1)) _ t) [
    | inl p ↦ found_some q n (j + 1) (omega arith) p
    | inr t ↦ elim (T_or (q (j + 2)) _ t) [
      | inl p ↦ found_some q n (j + 2) (omega arith) p
      | inr p ↦ found_some q n (j + 3) h p
    ]
  ]
]

pub some-fours : (q : ℕ → Bool) (n : ℕ)
    → (some (λ j. of_four q (4 * j)) (n / 4) || some (λ j. q (n / 4 * 4 + j)) (n % 4)) ≡ some q n
some-fours q n = same_test _ _ to from
  where
    fours : ℕ → Bool
    fours j = of_four q (4 * j)

    rest : ℕ → Bool
    rest j = q (n / 4 * 4 + j)

    to : T (some fours (n / 4) || some rest (n % 4)) → T (some q n)
    to t = elim (T_or (some fours (n / 4)) _ t) [
      | inl a ↦
          (let (j, h, p) = some-found fours (n / 4) a in four_found q n (4 * j) (omega arith) p)
      | inr b ↦
          (let (j, h, p) = some-found rest (n % 4) b in
          found_some q n (n / 4 * 4 + j) (omega arith) p)
    ]

    from : T (some q n) → T (some fours (n / 4) || some rest (n % 4))
    from t =
        let (i, h, p) = some-found q n t in
        elim (dec_lt i (n / 4 * 4)) [
          | yes l ↦
              or_left (some fours (n / 4)) _
              (found_some fours (n / 4) (i / 4) (omega arith)
              (in_four q (4 * (i / 4)) i (omega arith) (omega arith) p))
          | no l ↦
              (let e : n / 4 * 4 + (i - n / 4 * 4) ≡ i = omega arith in
              or_right (some fours (n / 4)) _
              (found_some rest (n % 4) (i - n / 4 * 4) (omega arith) (rw e p)))
        ]

-- ---- the feeds, of f pairs k passed

module _ (outs ins ps : List ℕ) (f k : ℕ) where
  left : k < f → f - k ≡ suc (f - (k + 1))
  left h = omega arith

  pub feeds-end : f ≤ k → feeds_from outs ins ps (f - k) k ≡ 0
  unfolding feeds_from
  feeds-end h = let e : f - k ≡ 0 = omega arith in rw e

  pub feeds-unknown : k < f → feed_known outs ins ps k ≡ false
      → feeds_from outs ins ps (f - k) k ≡ 6
  unfolding feeds_from refuse
  feeds-unknown h a = rw (left h, a)

  pub feeds-again : k < f → feed_known outs ins ps k ≡ true → feed_again ps k ≡ true
      → feeds_from outs ins ps (f - k) k ≡ 7
  unfolding feeds_from refuse
  feeds-again h a b = rw (left h, a, b)

  pub feeds_on : k < f → feed_known outs ins ps k ≡ true → feed_again ps k ≡ false
      → feeds_from outs ins ps (f - k) k ≡ feeds_from outs ins ps (f - (k + 1)) (k + 1)
  unfolding feeds_from refuse
  feeds_on h a b = rw (left h, a, b, add-one)
