-- The tables of SPECIFICATION, Examples.
use Rattle.std.specs.Prelude.{ℕ, List, [], ◌∷◌}

-- A: pump and tank, the pump's input delayed and the tank's reactive
abbrev pub A : List ℕ
A = 2 ∷ 2 ∷ 2 ∷ 0 ∷ 0 ∷ 1 ∷ 0 ∷ 1 ∷ 0 ∷ 1 ∷ 1 ∷ 0 ∷ []

-- A, both reactive
abbrev pub A-reactive : List ℕ
A-reactive = 2 ∷ 2 ∷ 2 ∷ 0 ∷ 0 ∷ 1 ∷ 0 ∷ 1 ∷ 1 ∷ 1 ∷ 1 ∷ 0 ∷ []

-- A with both inputs delayed, and so many feeds with their pairs
abbrev pub C_with : ℕ → List ℕ → List ℕ
C_with feeds pairs = 2 ∷ 2 ∷ 2 ∷ feeds ∷ 0 ∷ 1 ∷ 0 ∷ 1 ∷ 0 ∷ 0 ∷ 1 ∷ 0 ∷ pairs

-- C: no feeds
abbrev pub C : List ℕ
C = C_with 0 []

-- G: C with feed (1,1)
abbrev pub G : List ℕ
G = C_with 1 (1 ∷ 1 ∷ [])

-- one unit and no port
abbrev pub alone : List ℕ
alone = 1 ∷ 0 ∷ 0 ∷ 0 ∷ []

-- one unit joined to itself, its input delayed or reactive
abbrev pub itself : ℕ → List ℕ
itself kind = 1 ∷ 1 ∷ 1 ∷ 0 ∷ 0 ∷ 0 ∷ kind ∷ 0 ∷ []
