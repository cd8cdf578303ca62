-- What a place of a row has told: its call where it passes.
use Rattle.std.proofs.Common.{◌≡◌, ℕ, Bool, true, false, not, T, Some, None}
use Rattle.std.specs.Bool.{then_some}
use Rattle.placing.specs.Row.{Row, call_at}

pub told_call : (row : Row) (i call : ℕ) → Some call ≡ call_at row i
    → T (row.passes i) × (call ≡ row.call i)
told_call row i call e = go (row.passes i) e
  where
    go : (p : Bool) → Some call ≡ then_some p (row.call i) → T p × (call ≡ row.call i)
    go true e = (tt, cc)
    go false e = absurd (cc)

pub told_none : (row : Row) (i : ℕ) → None ≡ call_at row i → T (not (row.passes i))
told_none row i e = go (row.passes i) e
  where
    go : (p : Bool) → None ≡ then_some p (row.call i) → T (not p)
    go true e = absurd (cc)
    go false e = tt
