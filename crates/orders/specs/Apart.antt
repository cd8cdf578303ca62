-- A list that keeps the rules has N places, and there is none where there is a cycle.
use Rattle.std.specs.Prelude.{◌≡◌, Bool, List, ℕ, zero, suc, ◌+◌, ◌-◌, ◌≤◌, ◌<◌, length, get_or}
use Rattle.std.proofs.Common.{sym, ◌∙◌, arith}
use Rattle.search.specs.Sets.{none}
use Rattle.search.specs.Count.{count_none}
use Rattle.orders.specs.Keeps.{Keeps}
use Rattle.orders.specs.Cycle.{Cycle}
use Rattle.orders.specs.Follows.{keeps→follows, follows_length}

pub keeps-length : (N : ℕ) (pred : ℕ → ℕ → Bool) (l : List ℕ) → Keeps N pred l → length l ≡ N
keeps-length N pred l k =
    omega (
      arith,
      follows_length N pred none l (keeps→follows N pred l k),
      count_none none N (λ i h. tt),
    )

module _ (N : ℕ) (pred : ℕ → ℕ → Bool) (l : List ℕ) (k : Keeps N pred l) (cs : List ℕ)
    (cy : Cycle N pred cs) where
  -- from the place p of the cycle's first call on, the places of its calls rise
  rising : (p : ℕ) → p < length l → get_or l p 0 ≡ get_or cs 0 0 → (i q : ℕ) → i < length cs
      → q < length l
      → get_or l q 0 ≡ get_or cs i 0 → p + i ≤ q
  rising p hp ep zero q hi hq eq = omega (arith, k.once p q hp hq (ep ∙ sym eq))
  rising p hp ep (suc i) q hi hq eq =
      let hi' : i < length cs = omega arith in
      let (r, hr, er) = k.holds (get_or cs i 0) (cy.calls i hi') in
      let lt : r < q = k.rules r q hr hq (rw (er, eq) (cy.next i hi)) in
      omega (arith, rising p hp ep i r hi' hr er)

  -- an order that keeps the rules and a cycle exclude each other
  pub apart : ⊥
  apart =
      let h0 = cy.any in
      let h1 : length cs - 1 < length cs = omega arith in
      let (p, hp, ep) = k.holds (get_or cs 0 0) (cy.calls 0 h0) in
      let (q, hq, eq) = k.holds (get_or cs (length cs - 1) 0) (cy.calls (length cs - 1) h1) in
      let lt : q < p = k.rules q p hq hp (rw (ep, eq) cy.last) in
      omega (arith, rising p hp ep (length cs - 1) q h1 hq eq)
