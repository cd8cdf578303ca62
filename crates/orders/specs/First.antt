-- What the first order is, declared by places: SPECIFICATION, Order and cycle 2.
use Rattle.std.specs.Prelude.{◌≡◌, Bool, List, ℕ, ◌≤◌, ◌<◌, length, get_or}
use Rattle.orders.specs.Keeps.{Keeps}

-- l is not later than m: where the two agree at every place before i, l has no higher number at i
abbrev pub NoLater : List ℕ → List ℕ → Type 0
NoLater l m =
    (i : ℕ) → i < length l → ((j : ℕ) → j < i → get_or l j 0 ≡ get_or m j 0) → get_or l i 0 ≤ get_or m i 0

-- it keeps the rules, and is not later than any list that does
pub record First (N : ℕ) (pred : ℕ → ℕ → Bool) (l : List ℕ) : Type 0 where
  pub keeps : Keeps N pred l
  pub least : (m : List ℕ) → Keeps N pred m → NoLater l m
