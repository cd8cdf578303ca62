-- Names by rank: the names from name b on in their order, so that a search goes by halves.
use Rattle.std.specs.Prelude.{ℕ, ◌+◌, ◌≤◌, ◌<◌, ◌≡◌, Bool, true, false, List, ◌∷◌, get_or}
use Rattle.grammar.specs.Rows.{field_at}
use Rattle.notes.specs.Layout.{names_size, owners_base}
use Rattle.notes.specs.Compared.{compared}

-- name k
unfoldable pub name_at : List ℕ → List ℕ → ℕ → List ℕ
name_at t p k = field_at t (get_or p k 0)

-- name k behind its owner: what names are ordered by
unfoldable pub key_at : List ℕ → List ℕ → List ℕ → ℕ → List ℕ
key_at t p s k = get_or s (owners_base + k) 0 ∷ name_at t p k

-- the same for the name of rank i
abbrev pub rank_at : List ℕ → List ℕ → List ℕ → ℕ → ℕ → List ℕ
rank_at t p s b i = key_at t p s (b + get_or s (b + i) 0)

-- n names from name b on have one rank each, in their order
pub record Ranked (t p s : List ℕ) (b n : ℕ) : Type 0 where
  pub low : b + n ≤ names_size
  pub number : (i : ℕ) → i < n → get_or s (b + i) 0 < n
  pub order : (i j : ℕ) → i < j → j < n → compared (rank_at t p s b i) (rank_at t p s b j) ≡ 0
  pub rank : (k : ℕ) → k < n → (i : ℕ) × (i < n) × (get_or s (b + i) 0 ≡ k)

-- w, of owner u, may stand from rank lo to rank hi: the names below are before it, the others after
pub record Between (t p s : List ℕ) (b n u : ℕ) (w : List ℕ) (lo hi : ℕ) : Type 0 where
  pub low : lo ≤ hi
  pub high : hi ≤ n
  pub before : (i : ℕ) → i < lo → compared (rank_at t p s b i) (u ∷ w) ≡ 0
  pub after : (i : ℕ) → hi ≤ i → i < n → compared (rank_at t p s b i) (u ∷ w) ≡ 2

-- name w of owner u has rank i, or has no rank and would stand there
pub record Spotted (t p s : List ℕ) (b n u : ℕ) (w : List ℕ) (i : ℕ) (here : Bool) : Type 0 where
  pub taken : here ≡ true → (i < n) × (compared (rank_at t p s b i) (u ∷ w) ≡ 1)
  pub free : here ≡ false → Between t p s b n u w i i
