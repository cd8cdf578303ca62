-- A row of calls: the places that pass, and the call that stands at each.
use Rattle.std.specs.Prelude.{◌≡◌, Bool, ℕ, ◌<◌, T, Option}
use Rattle.std.specs.Bool.{then_some}
use Rattle.calls.specs.Hits.{hits}

pub record Row : Type 0 where
  pub passes : ℕ → Bool
  pub call : ℕ → ℕ

-- how many of the first n places have their call at c
abbrev pub row_hits : Row → ℕ → ℕ → ℕ
row_hits row = hits row.passes row.call

-- the call of a place, where it passes
abbrev pub call_at : Row → ℕ → Option ℕ
call_at row i = then_some (row.passes i) (row.call i)

-- a closure gives the calls of the first n places; each is a number that is counted
pub record Gives (pre : ℕ → Type 0) (post : ℕ → Option ℕ → Type 0) (row : Row) (n : ℕ) : Type 0
  where
    pub callable : (i : ℕ) → i < n → pre i
    pub tells : (i : ℕ) (r : Option ℕ) → i < n → post i r → r ≡ call_at row i
    pub calls : (i : ℕ) → i < n → T (row.passes i) → row.call i < 224
