-- The order's answer joined from what was placed.
use mathlib.Core.Path.{◌≡◌, sym, ap, ◌∙◌}
use mathlib.Core.List.{List, []}
use Prim.Native.Nat.{ℕ, ◌≤◌, ◌<◌}
use native.Mathlib.Omega.{arith}
use native.Mathlib.Decide.{ℕ_discrete}
use lib.ListN.{length}
use Rattle.table.specs.declared.Fault.{Fault}
use Rattle.table.specs.declared.Fault.TheVariants.{
  Length,
  Count,
  Owner,
  Kind,
  Source,
  Feed,
  FeedTwice,
}
use Rattle.table.specs.Fault.{fault_number}
use Rattle.table.specs.Check.{refusal}
use Rattle.table.specs.Sound.{Sound}
use Rattle.table.proofs.Checked.{sound-passed}
use Rattle.table.specs.Outcome.{outcome}
use Rattle.placing.specs.Placing.{call_count, placed_of}
use Rattle.placing.proofs.Threads.{placed-most}
use Rattle.sorter.specs.Ordering.{shown_of, ordering}
use Rattle.sorter.specs.Answers.{ordering-unsound, ordering-short, ordering-settled}
use Rattle.sorter.specs.Answers.{settled-all, settled-some}

-- a fault has a number
some_number : (fault : Fault) → fault_number fault ≡ 0 → ⊥
some_number Length e = absurd (omega arith)
some_number Count e = absurd (omega arith)
some_number Owner e = absurd (omega arith)
some_number Kind e = absurd (omega arith)
some_number Source e = absurd (omega arith)
some_number Feed e = absurd (omega arith)
some_number FeedTwice e = absurd (omega arith)

-- ---- the answers, return by return
pub order-unsound : (t : List ℕ) (room : ℕ) (fault : Fault) → fault_number fault ≡ refusal t
    → ordering t room ≡ outcome (fault_number fault) 0 []
order-unsound t room fault e =
    ordering-unsound t room (λ z. some_number fault (e ∙ z)) ∙ ap (λ n. outcome n 0 []) (sym e)

module _ (t : List ℕ) (room count : ℕ) (ok : Sound t) (n : count ≡ call_count t) where
  pub order-short : room < count → ordering t room ≡ outcome 8 0 []
  order-short h = ordering-short t room (sound-passed t ok) (omega arith)

  pub order-all : count ≤ room → length (placed_of t) ≡ count
      → ordering t room ≡ outcome 0 count (placed_of t)
  order-all h e =
      ordering-settled t room (sound-passed t ok) (omega arith)
      ∙ settled-all t (e ∙ n)
      ∙ ap (λ k. outcome 0 k (placed_of t)) (sym n)

  -- not all of them is fewer
  module _ (many : ℕ) (e : many ≡ length (placed_of t)) (some : many ≡ count → ⊥) where
    pub placed-early : length (placed_of t) < call_count t
    placed-early = elim (ℕ_discrete many count) [
      | yes all ↦ absurd (some all)
      | no ne ↦ omega (arith, placed-most t)
    ]

    pub order-cycle : count ≤ room → (k : ℕ) → k ≡ length (shown_of t)
        → ordering t room ≡ outcome 9 k (shown_of t)
    order-cycle h k f =
        ordering-settled t room (sound-passed t ok) (omega arith)
        ∙ settled-some t (λ all. some (e ∙ all ∙ sym n))
        ∙ ap (λ j. outcome 9 j (shown_of t)) (sym f)
