-- What is placed and what remains: where placing stops early, each that remains waits for another.
use Rattle.std.specs.Prelude.{
  ◌≡◌,
  refl,
  Bool,
  true,
  false,
  not,
  ◌||◌,
  ◌&&◌,
  List,
  ◌∷◌,
  T,
  eqb,
  length,
  get_or,
}
use Rattle.std.proofs.Common.{sym, ◌∙◌}
use Rattle.std.proofs.Math.Path.{ap, subst, fun_ext}
use Prim.Native.Nat.{ℕ, zero, suc, ◌+◌, ◌≤◌, ◌<◌}
use native.Mathlib.Omega.{arith}
use Rattle.std.proofs.Math.Decide.{dec_lt}
use Rattle.search.specs.Truth.{T_and, clash, not-not}
use Rattle.search.specs.Sets.{none, add}
use Rattle.search.specs.Least.{least_from, lowest-is}
use Rattle.search.specs.Count.{count, count-le, count_none, count_add, count-all}
use Rattle.orders.specs.Sort.{lacks, ready, next_call, sort, placed}
use Rattle.orders.proofs.Sorted.{Ready→ready, next-is, sort-step, sort-stop}
use Rattle.orders.specs.Walk.{among}
use Rattle.orders.proofs.Walked.{Stuck}

-- ---- what was placed, as a set: that of a list, beside those done before
abbrev both : List ℕ → (ℕ → Bool) → ℕ → Bool
both l done x = among l x || done x

both_cons : (c : ℕ) (l : List ℕ) (done : ℕ → Bool) → both (c ∷ l) done ≡ both l (add c done)
both_cons c l done = fun_ext (λ x. go (eqb x c) (among l x) (done x))
  where
    go : (p q r : Bool) → ((p || q) || r) ≡ (q || (p || r))
    go true true r = refl
    go true false r = refl
    go false q r = refl

both-none : (l : List ℕ) → both l none ≡ among l
both-none l = fun_ext (λ x. go (among l x))
  where
    go : (p : Bool) → (p || false) ≡ p
    go true = refl
    go false = refl

-- a list of calls with one more at its front
pub cons_calls : (N c : ℕ) (l : List ℕ) → c < N → ((i : ℕ) → i < length l → get_or l i 0 < N)
    → (i : ℕ)
    → i < length (c ∷ l) → get_or (c ∷ l) i 0 < N
cons_calls N c l h f zero k = h
cons_calls N c l h f (suc i) k = f i (omega arith)

module _ (N : ℕ) (pred : ℕ → ℕ → Bool) where
  sort-count : (n : ℕ) (done : ℕ → Bool)
      → count (both (sort N pred n done) done) N ≡ length (sort N pred n done) + count done N
  unfolding sort
  sort-count zero done = omega arith
  sort-count (suc n) done = elim (dec_lt (next_call N pred done) N) [
    | no p ↦ rw (sort-stop N pred (suc n) done (omega arith)) (omega arith)
    | yes p ↦
        (let c = next_call N pred done in
        rw (sort-step N pred n done p, both_cons c (sort N pred n (add c done)) done)
        (omega (
          arith,
          sort-count n (add c done),
          count_add done c N p ((next-is N pred done).is p).0,
        )))
  ]

  -- where none is ready, each remaining call has a remaining direct predecessor
  pub none-ready : (done : ℕ → Bool) → ((c : ℕ) → c < N → T (not (ready N pred done c)))
      → Stuck N pred done
  none-ready done none c hc t =
      let l = lowest-is (lacks pred done c) N in
      let a = least_from (lacks pred done c) N 0 in
      elim (dec_lt a N) [
        | yes p ↦ (let (u, v) = T_and (pred a c) (not (done a)) (l.passes p) in (a, p, u, v))
        | no p ↦
            absurd
            (clash (ready N pred done c)
            (Ready→ready N pred done c
            (t, λ b hb u. go (pred b c) (done b) u (l.below b (omega arith)))) (none c hc))
      ]
    where
      go : (p q : Bool) → T p → T (not (p && not q)) → T q
      go true q s n = not-not q n
      go false q s n = absurd s

  sort-stuck : (n : ℕ) (done : ℕ → Bool) → N ≤ n + count done N
      → length (sort N pred n done) + count done N < N
      → Stuck N pred (both (sort N pred n done) done)
  unfolding sort next_call
  sort-stuck zero done e h = absurd (omega arith)
  sort-stuck (suc n) done e h = elim (dec_lt (next_call N pred done) N) [
    | no p ↦
        rw (sort-stop N pred (suc n) done (omega arith))
        (none-ready done (λ c hc. (lowest-is (ready N pred done) N).below c (omega arith)))
    | yes p ↦
        (let c = next_call N pred done in
        let q = sort-step N pred n done p in
        let h' = (rw q at h) in
        let a = count_add done c N p ((next-is N pred done).is p).0 in
        rw q
        (subst (Stuck N pred) (sym (both_cons c (sort N pred n (add c done)) done))
        (sort-stuck n (add c done) (omega arith) (omega arith))))
  ]

  -- ---- the calls that were placed, and those that remain
  pub placed-count : count (among (placed N pred)) N ≡ length (placed N pred)
  unfolding placed
  placed-count =
      ap (λ q. count q N) (sym (both-none (sort N pred N none)))
      ∙ omega (arith, sort-count N none, count_none none N (λ i h. tt))

  pub placed-le : length (placed N pred) ≤ N
  placed-le = omega (arith, placed-count, count-le (among (placed N pred)) N)

  pub placed-stuck : length (placed N pred) < N → Stuck N pred (among (placed N pred))
  unfolding placed
  placed-stuck h =
      let z = count_none none N (λ i h. tt) in
      subst (Stuck N pred) (both-none (sort N pred N none))
      (sort-stuck N none (omega arith) (omega arith))

  -- one remains
  pub left_one : length (placed N pred) < N → (c : ℕ) × (c < N) × T (not (among (placed N pred) c))
  left_one h =
      let l = lowest-is (λ c. not (among (placed N pred) c)) N in
      let c = least_from (λ c. not (among (placed N pred) c)) N 0 in
      elim (dec_lt c N) [
        | yes p ↦ (c, p, l.passes p)
        | no p ↦
            absurd
            (omega (
              arith,
              placed-count,
              count-all (among (placed N pred)) N
                  (λ i hi. not-not (among (placed N pred) i) (l.below i (omega arith))),
            ))
      ]

  -- ---- nothing but calls is placed
  sort-calls : (n : ℕ) (done : ℕ → Bool) (i : ℕ) → i < length (sort N pred n done)
      → get_or (sort N pred n done) i 0 < N
  unfolding sort
  sort-calls zero done i h = absurd (omega arith)
  sort-calls (suc n) done i h = elim (dec_lt (next_call N pred done) N) [
    | no p ↦ (let h' = (rw (sort-stop N pred (suc n) done (omega arith)) at h) in
        absurd (omega arith))
    | yes p ↦
        (let q = sort-step N pred n done p in
        let more = add (next_call N pred done) done in
        rw q (cons_calls N (next_call N pred done) (sort N pred n more) p (sort-calls n more) i
        (rw q at h)))
  ]

  pub placed-calls : (i : ℕ) → i < length (placed N pred) → get_or (placed N pred) i 0 < N
  unfolding placed
  placed-calls = sort-calls N none
