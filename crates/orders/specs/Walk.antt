-- The backward walk through the calls that remain: SPECIFICATION, Order and cycle 6.
use Rattle.std.specs.Prelude.{Bool, false, not, ◌||◌, cond, List, [], ◌∷◌, ℕ, zero, suc, eqb}
use Rattle.search.specs.Least.{least_from}
use Rattle.orders.specs.Sort.{lacks}

-- c is one of the list's
abbrev pub among : List ℕ → ℕ → Bool
among [] c = false
among (x ∷ l) c = eqb c x || among l c

-- the front of the list up to c, and c; the whole list where c is not in it
unfoldable pub upto : ℕ → List ℕ → List ℕ
upto c [] = []
upto c (x ∷ l) = cond (eqb c x) (x ∷ []) (x ∷ upto c l)

module _ (N : ℕ) (pred : ℕ → ℕ → Bool) (done : ℕ → Bool) where
  -- the lowest of its direct predecessors that remain; N where none does
  unfoldable pub lowest_before : ℕ → ℕ
  lowest_before c = least_from (lacks pred done c) N 0

  -- on to a call where the walk has been; seen has the newest first, so in precedence order;
  -- n bounds the visits: N + 1 do where no call is ready and one remains (`walk_meets` of Again)
  unfoldable pub walk : ℕ → List ℕ → ℕ → List ℕ
  walk zero seen c = []
  walk (suc n) seen c = cond (among seen c) (upto c seen) (walk n (c ∷ seen) (lowest_before c))

  -- where the walk begins: the lowest call that remains; N where none does
  unfoldable pub lowest_left : ℕ
  lowest_left = least_from (λ c. not (done c)) N 0

  -- where no call is ready and one remains: the call met again and those after it, newest first
  unfoldable pub met : List ℕ
  met = walk (suc N) [] lowest_left
