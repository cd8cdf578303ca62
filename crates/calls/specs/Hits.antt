-- How often a row of calls hits a call.
use Rattle.std.specs.Prelude.{Bool, ◌&&◌, ℕ, ◌+◌, eqb}
use Rattle.search.specs.Count.{count}

-- the i-th call from the first on
abbrev pub nth : ℕ → ℕ → ℕ
nth first i = first + i

-- how many of the first n that pass have their call at c
unfoldable pub hits : (ℕ → Bool) → (ℕ → ℕ) → ℕ → ℕ → ℕ
hits passes call n c = count (λ i. passes i && eqb (call i) c) n
