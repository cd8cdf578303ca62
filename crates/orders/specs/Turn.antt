-- The cycle shown, turned to its lowest number: SPECIFICATION, Order and cycle 7.
use Rattle.std.specs.Prelude.{Bool, List, ◌++◌, ℕ, eqb, length, get_or, take, drop}
use Rattle.search.specs.Least.{least_from}
use Rattle.orders.specs.Walk.{among, met}

-- the list begun at place k, what stood before it at the end
abbrev pub turn : ℕ → List ℕ → List ℕ
turn k l = drop k l ++ take k l

-- the lowest number below N that is one of the list's; N where none is
unfoldable pub lowest_of : ℕ → List ℕ → ℕ
lowest_of N l = least_from (among l) N 0

-- where it stands
unfoldable pub lowest_place : ℕ → List ℕ → ℕ
lowest_place N l = least_from (λ i. eqb (get_or l i 0) (lowest_of N l)) (length l) 0

-- the cycle of what remains where no call is ready, in precedence order, its lowest number first
unfoldable pub shown : (N : ℕ) (pred : ℕ → ℕ → Bool) → (ℕ → Bool) → List ℕ
shown N pred done = turn (lowest_place N (met N pred done)) (met N pred done)
