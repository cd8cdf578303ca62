-- Tests over all numbers below a bound: every one passes, or some one does.
use Rattle.std.specs.Prelude.{◌≡◌, refl, Bool, true, false, not, ◌&&◌, ℕ, zero, suc, ◌≤◌, ◌<◌, T}
use Rattle.std.proofs.Common.{inl, inr, arith}
use Rattle.std.proofs.Math.Decide.{ℕ_discrete}
use Rattle.search.specs.Truth.{T_and, and_T, is_true, is_false, either, clash}

-- each number below n passes
unfoldable pub every : (ℕ → Bool) → ℕ → Bool
every q zero = true
every q (suc n) = every q n && q n

-- some number below n passes
unfoldable pub some : (ℕ → Bool) → ℕ → Bool
some q n = not (every (λ i. not (q i)) n)

pub every-each : (q : ℕ → Bool) (n : ℕ) → T (every q n) → (i : ℕ) → i < n → T (q i)
unfolding every
every-each q zero t i h = absurd (omega arith)
every-each q (suc n) t i h =
    let (a, b) = T_and (every q n) (q n) t in
    elim (ℕ_discrete i n) [ yes e ↦ rw e b | no e ↦ every-each q n a i (omega arith) ]

pub each-every : (q : ℕ → Bool) (n : ℕ) → ((i : ℕ) → i < n → T (q i)) → T (every q n)
unfolding every
each-every q zero h = tt
each-every q (suc n) h =
    and_T (every q n) (q n) (each-every q n (λ i l. h i (omega arith))) (h n (omega arith))

-- ---- what a loop over the numbers below n answers

pub every-yes : (q : ℕ → Bool) (n i : ℕ) → n ≤ i → ((k : ℕ) → k < i → T (q k)) → true ≡ every q n
every-yes q n i h b = rw (is_true (every q n) (each-every q n (λ k l. b k (omega arith))))

pub every_no : (q : ℕ → Bool) (n i : ℕ) → i < n → T (not (q i)) → false ≡ every q n
every_no q n i h t = elim (either (every q n)) [
  | inl e ↦ absurd (clash (q i) (every-each q n e i h) t)
  | inr e ↦ rw (is_false (every q n) e)
]

pub some-yes : (q : ℕ → Bool) (n i : ℕ) → i < n → T (q i) → true ≡ some q n
unfolding some
some-yes q n i h t = rw (← every_no (λ k. not (q k)) n i h (twice (q i) t))
  where
    twice : (b : Bool) → T b → T (not (not b))
    twice true z = tt
    twice false z = z

pub some_no : (q : ℕ → Bool) (n i : ℕ) → n ≤ i → ((k : ℕ) → k < i → T (not (q k)))
    → false ≡ some q n
unfolding some
some_no q n i h b = rw (← every-yes (λ k. not (q k)) n i h b)

-- ---- some one passes: there is one

pub some-found : (q : ℕ → Bool) (n : ℕ) → T (some q n) → (i : ℕ) × (i < n) × T (q i)
unfolding some every
some-found q zero t = absurd t
some-found q (suc n) t = go (q n) refl (λ s. some-found q n s)
  where
    go : (b : Bool) → q n ≡ b → (T (some q n) → (i : ℕ) × (i < n) × T (q i))
        → (i : ℕ) × (i < suc n) × T (q i)
    go true e ih = (n, omega arith, rw e tt)
    go false e ih =
        let (i, h, p) = ih (less (every (λ k. not (q k)) n) (rw e at t)) in (i, omega arith, p)
      where
        less : (b : Bool) → T (not (b && true)) → T (not b)
        less true z = z
        less false z = tt

pub found_some : (q : ℕ → Bool) (n i : ℕ) → i < n → T (q i) → T (some q n)
found_some q n i h t = rw (← some-yes q n i h t) tt
