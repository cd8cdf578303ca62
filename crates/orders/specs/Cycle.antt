-- What a cycle is, declared by places: SPECIFICATION, Order and cycle 3.
use Rattle.std.specs.Prelude.{Bool, List, ℕ, suc, ◌-◌, ◌<◌, T, length, get_or}

module _ (N : ℕ) (pred : ℕ → ℕ → Bool) where
  -- calls in a ring: each comes directly before the one behind it, and the last before the first
  pub record Cycle (l : List ℕ) : Type 0 where
    pub any : 0 < length l
    pub calls : (i : ℕ) → i < length l → get_or l i 0 < N
    pub next : (i : ℕ) → suc i < length l → T (pred (get_or l i 0) (get_or l (suc i) 0))
    pub last : T (pred (get_or l (length l - 1) 0) (get_or l 0 0))
