-- One visit of the backward walk, and that it stays among calls that remain.
use Rattle.std.specs.Prelude.{
  ◌≡◌,
  Bool,
  List,
  [],
  ◌∷◌,
  ℕ,
  zero,
  suc,
  ◌<◌,
  T,
  eqb,
  length,
  get_or,
  take,
}
use Rattle.std.proofs.Common.{sym, ap, arith}
use Rattle.std.proofs.Math.Bool.{not}
use Rattle.std.proofs.Math.Decide.{dec_lt}
use Rattle.search.specs.Truth.{T_and, and_T, clash, is_true, is_false, eq_true, eq_false}
use Rattle.search.specs.Least.{lowest-is}
use Rattle.orders.specs.Sort.{lacks}
use Rattle.orders.specs.Walk.{among, upto, lowest_before, lowest_left, walk}

-- ---- one visit
module _ (N : ℕ) (pred : ℕ → ℕ → Bool) (done : ℕ → Bool) where
  pub walk-met : (n : ℕ) (seen : List ℕ) (c : ℕ) → T (among seen c)
      → walk N pred done (suc n) seen c ≡ upto c seen
  unfolding walk
  walk-met n seen c t = rw (is_true (among seen c) t, walk)

  pub walk_on : (n : ℕ) (seen : List ℕ) (c : ℕ) → T (not (among seen c))
      → walk N pred done (suc n) seen c
      ≡ walk N pred done n (c ∷ seen) (lowest_before N pred done c)
  unfolding walk
  walk_on n seen c t = rw (is_false (among seen c) t, walk)

-- the front through a call ends at its first place
pub upto_take : (l : List ℕ) (c p : ℕ) → p < length l → get_or l p 0 ≡ c
    → ((i : ℕ) → i < p → get_or l i 0 ≡ c → ⊥) → upto c l ≡ take (suc p) l
unfolding upto
upto_take [] c p h e b = absurd (omega arith)
upto_take (x ∷ l) c zero h e b = rw (is_true (eqb c x) (eq_true c x (sym e)), upto)
upto_take (x ∷ l) c (suc p) h e b =
    rw (is_false (eqb c x) (eq_false c x (λ z. b 0 (omega arith) (sym z))), upto)
    (ap (λ m. x ∷ m) (upto_take l c p (omega arith) e (λ i k. b (suc i) (omega arith))))

module _ (N : ℕ) (pred : ℕ → ℕ → Bool) where
  -- each remaining call has a remaining direct predecessor
  abbrev pub Stuck : (ℕ → Bool) → Type 0
  Stuck done =
      (c : ℕ) → c < N → T (not (done c)) → (a : ℕ) × (a < N) × T (pred a c) × T (not (done a))

  -- where one remains, the walk begins at one that does
  pub lowest-left : (done : ℕ → Bool) (c : ℕ) → c < N → T (not (done c))
      → (lowest_left N pred done < N) × T (not (done (lowest_left N pred done)))
  unfolding lowest_left
  lowest-left done c h t =
      let l = lowest-is (λ a. not (done a)) N in
      elim (dec_lt (lowest_left N pred done) N) [
        | yes p ↦ (p, l.passes p)
        | no p ↦ absurd (clash (not (done c)) t (l.below c (omega arith)))
      ]

  -- and the lowest direct predecessor that remains is one
  pub back : (done : ℕ → Bool) → Stuck done → (c : ℕ) → c < N → T (not (done c))
      → (lowest_before N pred done c < N) × T (pred (lowest_before N pred done c) c)
      × T (not (done (lowest_before N pred done c)))
  unfolding lowest_before
  back done stuck c h t =
      let l = lowest-is (lacks pred done c) N in
      let b = lowest_before N pred done c in
      elim (dec_lt b N) [
        | yes p ↦ (let (u, v) = T_and (pred b c) (not (done b)) (l.passes p) in (p, u, v))
        | no p ↦
            absurd
            (let (a, ha, u, v) = stuck c h t in
            clash (lacks pred done c a) (and_T (pred a c) (not (done a)) u v)
            (l.below a (omega arith)))
      ]
