-- The calls of an order that meet their conditions, up to a place.
use Rattle.std.specs.Prelude.{Bool, List, ℕ, ◌<◌, get_or, take}
use Rattle.table.specs.Shape.{Shape}
use Rattle.judging.specs.Passes.{after, Meets}

module _ (s : Shape) where
  -- the call at each of the first n places meets its conditions
  abbrev pub MeetsAll : (ℕ → Bool) → List ℕ → ℕ → Type 0
  MeetsAll done l n = (i : ℕ) → i < n → Meets s (after done (take i l)) (get_or l i 0)
