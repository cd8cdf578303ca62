-- A cycle as it is shown: its lowest call first, and no call twice.
use Rattle.std.specs.Prelude.{Bool, List, ℕ, ◌≤◌, ◌<◌, length, get_or}
use Rattle.orders.specs.Cycle.{Cycle}
use Rattle.orders.specs.Turned.{Once}

module _ (N : ℕ) (pred : ℕ → ℕ → Bool) where
  -- a cycle that begins with its lowest call and has no call twice
  pub record Shown (l : List ℕ) : Type 0 where
    pub cycle : Cycle N pred l
    pub lowest : (i : ℕ) → i < length l → get_or l 0 0 ≤ get_or l i 0
    pub once : Once l
