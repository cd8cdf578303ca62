-- The starred examples of orders and cycles, computed.
use Rattle.std.specs.Prelude.{◌≡◌, refl, [], ◌∷◌}
use Rattle.table.specs.Tables.{A, A-reactive, C, C_with, G, alone, itself}
use Rattle.table.specs.Outcome.{outcome}
use Rattle.calls.specs.Computed.{words as call-words}
use Rattle.orders.specs.Computed.{words as order-words}
use Rattle.placing.specs.Placing.{placed_of}
use Rattle.sorter.specs.Ordering.{shown_of, settled, ordering}

pub starred-orders :
    (ordering A 6 ≡ outcome 0 6 (0 ∷ 2 ∷ 5 ∷ 1 ∷ 3 ∷ 4 ∷ []))
    × (ordering A-reactive 6 ≡ outcome 9 6 (0 ∷ 2 ∷ 5 ∷ 1 ∷ 3 ∷ 4 ∷ []))
    × (ordering C 6 ≡ outcome 0 6 (0 ∷ 1 ∷ 2 ∷ 3 ∷ 4 ∷ 5 ∷ []))
    × (ordering (C_with 2 (0 ∷ 0 ∷ 1 ∷ 1 ∷ [])) 6 ≡ outcome 9 4 (2 ∷ 5 ∷ 3 ∷ 4 ∷ []))
    × (ordering G 6 ≡ outcome 0 6 (0 ∷ 1 ∷ 2 ∷ 5 ∷ 3 ∷ 4 ∷ []))
    × (ordering alone 1 ≡ outcome 0 1 (0 ∷ []))
    × (ordering (itself 0) 3 ≡ outcome 0 3 (0 ∷ 1 ∷ 2 ∷ []))
    × (ordering (itself 1) 3 ≡ outcome 9 3 (0 ∷ 1 ∷ 2 ∷ []))
unfolding call-words order-words placed_of shown_of settled ordering
starred-orders = (refl, refl, refl, refl, refl, refl, refl, refl)
