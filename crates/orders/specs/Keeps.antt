-- What it is for a list to keep the rules, declared by places: SPECIFICATION, Order and cycle 1.
use Rattle.std.specs.Prelude.{◌≡◌, Bool, List, ℕ, ◌<◌, T, length, get_or}

module _ (N : ℕ) (pred : ℕ → ℕ → Bool) where
  -- the N calls, each at one place and behind its direct predecessors
  pub record Keeps (l : List ℕ) : Type 0 where
    -- at each place stands one of the N calls
    pub calls : (i : ℕ) → i < length l → get_or l i 0 < N
    -- each of the N calls has a place
    pub holds : (c : ℕ) → c < N → (i : ℕ) × (i < length l) × (get_or l i 0 ≡ c)
    -- no call has two places
    pub once : (i j : ℕ) → i < length l → j < length l → get_or l i 0 ≡ get_or l j 0 → i ≡ j
    -- a direct predecessor stands at an earlier place
    pub rules : (i j : ℕ) → i < length l → j < length l → T (pred (get_or l i 0) (get_or l j 0)) → i < j
