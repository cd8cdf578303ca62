-- The answers of placing, return by return.
use mathlib.Core.Path.{◌≡◌, sym, ap, ◌∙◌}
use mathlib.Core.List.{List, []}
use Prim.Native.Nat.{ℕ, ◌≤◌, ◌<◌}
use native.Mathlib.Omega.{arith}
use lib.ListN.{length}
use Rattle.table.specs.declared.Fault.{Fault}
use Rattle.table.specs.declared.Fault.TheVariants.{
  Length,
  Count,
  Owner,
  Kind,
  Source,
  Feed,
  FeedTwice,
}
use Rattle.table.specs.Fault.{fault_number}
use Rattle.table.specs.Check.{refusal}
use Rattle.table.specs.Sound.{Sound}
use Rattle.table.specs.Outcome.{outcome}
use Rattle.table.proofs.Checked.{sound-passed}
use Rattle.placing.specs.Placing.{call_count, placed_of, placing}
use Rattle.placing.specs.Placed.{placing-unsound, placing-short, placing-done}

-- a fault has a number
some_number : (fault : Fault) → fault_number fault ≡ 0 → ⊥
some_number Length e = absurd (omega arith)
some_number Count e = absurd (omega arith)
some_number Owner e = absurd (omega arith)
some_number Kind e = absurd (omega arith)
some_number Source e = absurd (omega arith)
some_number Feed e = absurd (omega arith)
some_number FeedTwice e = absurd (omega arith)

pub place-unsound : (t : List ℕ) (room : ℕ) (fault : Fault) → fault_number fault ≡ refusal t
    → placing t room ≡ outcome (fault_number fault) 0 []
place-unsound t room fault e =
    placing-unsound t room (λ z. some_number fault (e ∙ z)) ∙ ap (λ n. outcome n 0 []) (sym e)

module _ (t : List ℕ) (room count : ℕ) (ok : Sound t) (n : count ≡ call_count t) where
  pub place-short : room < count → placing t room ≡ outcome 8 0 []
  place-short h = placing-short t room (sound-passed t ok) (omega arith)

  pub place-done : count ≤ room → (many : ℕ) → many ≡ length (placed_of t)
      → placing t room ≡ outcome 0 many (placed_of t)
  place-done h many e =
      placing-done t room (sound-passed t ok) (omega arith)
      ∙ ap (λ k. outcome 0 k (placed_of t)) (sym e)
