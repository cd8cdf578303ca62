-- A list that has no call twice marks as many calls as it has places, so that it has at most N.
use Rattle.std.specs.Prelude.{◌≡◌, not, List, [], ◌∷◌, ℕ, suc, ◌≤◌, ◌<◌, T, length, get_or}
use Rattle.std.proofs.Common.{sym, ap, ◌∙◌, arith}
use Rattle.std.proofs.Math.Dec.{not_T}
use Rattle.search.specs.Count.{count, count-le, count_none, count_add}
use Rattle.orders.specs.Walk.{among}
use Rattle.orders.specs.Turned.{Once, at-among}

-- ---- the first call of such a list, and the rest

module _ (c : ℕ) (l : List ℕ) (once : Once (c ∷ l)) where
  pub first-once : T (not (among l c))
  first-once = not_T (among l c) (λ t.
      let (i, h, e) = at-among c l t in
      let z = once 0 (suc i) (omega arith) (omega arith) (sym e) in
      omega arith)

  pub rest-once : Once l
  rest-once i j hi hj e = let z = once (suc i) (suc j) (omega arith) (omega arith) e in omega arith

-- ---- a list of calls below N, none of them twice

pub once-count : (N : ℕ) (l : List ℕ) → ((i : ℕ) → i < length l → get_or l i 0 < N) → Once l
    → count (among l) N ≡ length l
once-count N [] calls once = count_none (among []) N (λ i h. tt)
once-count N (c ∷ l) calls once =
    count_add (among l) c N (calls 0 (omega arith)) (first-once c l once)
    ∙ ap suc (once-count N l (λ i h. calls (suc i) (omega arith)) (rest-once c l once))

pub once-most : (N : ℕ) (l : List ℕ) → ((i : ℕ) → i < length l → get_or l i 0 < N) → Once l
    → length l ≤ N
once-most N l calls once = omega (arith, count-le (among l) N, once-count N l calls once)
