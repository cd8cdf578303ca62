-- Demand 2 over any calls and rules: all are placed exactly where no cycle is; else one is shown.
use Rattle.std.specs.Prelude.{◌≡◌, ◌↔◌, Bool, List, ℕ, ◌≤◌, ◌<◌, length, get_or}
use Rattle.std.proofs.Common.{arith}
use Rattle.std.proofs.Math.Decide.{dec_lt}
use Rattle.orders.specs.Cycle.{Cycle}
use Rattle.orders.specs.First.{First}
use Rattle.orders.specs.Apart.{apart}
use Rattle.orders.specs.Sort.{placed}
use Rattle.orders.proofs.Sorted.{placed_first}
use Rattle.orders.proofs.Remains.{placed-le}
use Rattle.orders.specs.Walk.{among, met}
use Rattle.orders.proofs.Again.{placed-meets, met-cycle, met-once}
use Rattle.orders.specs.Turn.{lowest_place, shown}
use Rattle.orders.specs.Turned.{Once, turn-length, turn-cycle}
use Rattle.orders.specs.Turned.{turn-once, lowest_place-is, lowest-first}
use Rattle.orders.specs.Shown.{Shown}

module _ (N : ℕ) (pred : ℕ → ℕ → Bool) where
  pub shown-is : length (placed N pred) < N → Shown N pred (shown N pred (among (placed N pred)))
  unfolding shown
  shown-is h =
      let done = among (placed N pred) in
      let m = met N pred done in
      let cy = met-cycle N pred done (placed-meets N pred h) in
      let p = (lowest_place-is N m cy.any cy.calls).0 in
      let e = turn-length (lowest_place N m) m p in
      record {
        cycle = turn-cycle (lowest_place N m) m p N pred cy;
        lowest = λ i hi. lowest-first N m cy.any cy.calls i (omega arith);
        once = turn-once (lowest_place N m) m p (met-once N pred done (placed-meets N pred h));
      }

  -- ---- demand 2
  -- all are placed exactly where no cycle exists
  pub placed_iff : (length (placed N pred) ≡ N) ↔ ((cs : List ℕ) → Cycle N pred cs → ⊥)
  placed_iff = (
    (λ e cs cy. apart N pred (placed N pred) (placed_first N pred e).keeps cs cy),
    (λ n. elim (dec_lt (length (placed N pred)) N) [
      | yes p ↦ absurd (n (shown N pred (among (placed N pred))) (shown-is p).cycle)
      | no p ↦ omega (arith, placed-le N pred)
    ]),
  )

  -- and then they stand in the first order, which has each call once
  pub acyclic_first : ((cs : List ℕ) → Cycle N pred cs → ⊥) → First N pred (placed N pred)
  acyclic_first n = placed_first N pred (placed_iff.1 n)
