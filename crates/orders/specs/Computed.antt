-- Orders and cycles of SPECIFICATION, Examples, computed: another definition makes one false.
use Rattle.std.specs.Prelude.{◌≡◌, refl, Bool, false, ◌&&◌, ◌||◌, List, [], ◌∷◌, ℕ, eqb}
use Rattle.search.specs.Every.{every, some}
use Rattle.search.specs.Least.{least_from}
use Rattle.orders.specs.Sort.{ready, next_call, sort, placed}
use Rattle.orders.specs.Walk.{among, upto, lowest_before, walk, lowest_left, met}
use Rattle.orders.specs.Turn.{lowest_of, lowest_place, shown}
use Rattle.orders.specs.Meets.{visit, seen}

-- all that orders and cycles are computed with: `unfolding words` opens each of them
unfoldable pub words : Unit {0}
unfolding every some least_from ready next_call sort placed upto lowest_before walk lowest_left met
    lowest_of lowest_place shown visit
words = tt

-- the calls of each pair, the first a direct predecessor of the second
abbrev pairs : List (ℕ × ℕ) → ℕ → ℕ → Bool
pairs [] a c = false
pairs ((first, second) ∷ l) a c = (eqb a first && eqb c second) || pairs l a c

-- A: steps 0 1, gets 2 3, sets 4 (delayed) 5 (reactive)
abbrev A : ℕ → ℕ → Bool
A = pairs ((0, 2) ∷ (1, 3) ∷ (2, 5) ∷ (3, 4) ∷ (5, 1) ∷ (0, 4) ∷ [])

-- C: both sets delayed, and the edges of feeds
abbrev C : List (ℕ × ℕ) → ℕ → ℕ → Bool
C feeds = pairs ((0, 2) ∷ (1, 3) ∷ (2, 5) ∷ (3, 4) ∷ (1, 5) ∷ (0, 4) ∷ feeds)

pub orders :
    (placed 6 A ≡ 0 ∷ 2 ∷ 5 ∷ 1 ∷ 3 ∷ 4 ∷ [])
    × (placed 6 (C []) ≡ 0 ∷ 1 ∷ 2 ∷ 3 ∷ 4 ∷ 5 ∷ [])
unfolding words
orders = (refl, refl)

-- C with feeds (0,0), (1,1), both steps placed; a call that waits behind two in a cycle
pub cycles :
    (shown 6 (C ((4, 2) ∷ (5, 3) ∷ [])) (among (0 ∷ 1 ∷ [])) ≡ 2 ∷ 5 ∷ 3 ∷ 4 ∷ [])
    × (shown 3 (pairs ((1, 2) ∷ (2, 1) ∷ (1, 0) ∷ [])) (among []) ≡ 1 ∷ 2 ∷ [])
unfolding words
cycles = (refl, refl)

-- the visits of both walks, the newest first: the last visited call is among those before it
pub walks :
    (seen 6 (C ((4, 2) ∷ (5, 3) ∷ [])) (among (0 ∷ 1 ∷ [])) 5 ≡ 2 ∷ 5 ∷ 3 ∷ 4 ∷ 2 ∷ [])
    × (seen 3 (pairs ((1, 2) ∷ (2, 1) ∷ (1, 0) ∷ [])) (among []) 4 ≡ 1 ∷ 2 ∷ 1 ∷ 0 ∷ [])
unfolding words
walks = (refl, refl)
