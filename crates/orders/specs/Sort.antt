-- At each place the lowest ready call, until none is: SPECIFICATION, Order and cycle 4.
use Rattle.std.specs.Prelude.{Bool, not, ◌&&◌, cond, List, [], ◌∷◌, ℕ, zero, suc, ltb}
use Rattle.search.specs.Sets.{none, add}
use Rattle.search.specs.Every.{some}
use Rattle.search.specs.Least.{least_from}

-- a is a direct predecessor of c that has not been placed
abbrev pub lacks : (ℕ → ℕ → Bool) → (ℕ → Bool) → ℕ → ℕ → Bool
lacks pred done c a = pred a c && not (done a)

module _ (N : ℕ) (pred : ℕ → ℕ → Bool) where
  -- c has no place, and none of its direct predecessors lacks one
  unfoldable pub ready : (ℕ → Bool) → ℕ → Bool
  ready done c = not (done c) && not (some (lacks pred done c) N)

  -- the lowest ready call; N where none is ready
  unfoldable pub next_call : (ℕ → Bool) → ℕ
  next_call done = least_from (ready done) N 0

  -- at each of at most n places the lowest ready call
  unfoldable pub sort : ℕ → (ℕ → Bool) → List ℕ
  sort zero done = []
  sort (suc n) done = cond (ltb (next_call done) N) (next_call done ∷ sort n (add (next_call done) done)) []

  -- all that can be placed, in its order
  unfoldable pub placed : List ℕ
  placed = sort N none
