-- The backward walk visit by visit, bounded by nothing: SPECIFICATION, Order and cycle 6 and 10.
use Rattle.std.specs.Prelude.{◌≡◌, Bool, not, List, [], ◌∷◌, ℕ, zero, suc, ◌≤◌, ◌<◌, T}
use Rattle.orders.specs.Walk.{lowest_before, lowest_left}

module _ (N : ℕ) (pred : ℕ → ℕ → Bool) (done : ℕ → Bool) where
  -- the call visited, by the number of visits before it
  unfoldable pub visit : ℕ → ℕ
  visit zero = lowest_left N pred done
  visit (suc i) = lowest_before N pred done (visit i)

  -- the walk comes to a call where it has been, within N + 1 visits
  pub record MeetsAgain : Type 0 where
    pub first : ℕ
    pub again : ℕ
    pub later : first < again
    pub soon : again ≤ N
    pub same : visit again ≡ visit first
    -- not before that visit
    pub new : (i j : ℕ) → i < j → j < again → visit i ≡ visit j → ⊥
    -- each call on the way is one of the N, has no place, and directly precedes the one before it
    pub call : (i : ℕ) → i ≤ again → visit i < N
    pub left : (i : ℕ) → i ≤ again → T (not (done (visit i)))
    pub back : (i : ℕ) → i < again → T (pred (visit (suc i)) (visit i))

  -- the calls of the first i visits, the newest first
  abbrev pub seen : ℕ → List ℕ
  seen zero = []
  seen (suc i) = visit i ∷ seen i
