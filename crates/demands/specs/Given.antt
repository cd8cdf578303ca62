-- An order that is given: the table was sound, the room enough, and the bytes keep the rules.
use Rattle.std.specs.Prelude.{◌≡◌, List, ℕ, ◌≤◌}
use Rattle.std.proofs.Common.{sym, ap, ◌∙◌, arith}
use Rattle.std.proofs.Math.Decide.{ℕ_discrete, dec_lt}
use Rattle.table.specs.Packed.{shape_of}
use Rattle.table.specs.Sound.{Sound}
use Rattle.table.specs.Check.{refusal}
use Rattle.table.proofs.Checked.{passed-sound}
use Rattle.calls.specs.Precedence.{precedes}
use Rattle.orders.specs.First.{First}
use Rattle.table.specs.Outcome.{Outcome}
use Rattle.placing.specs.Placing.{call_count}
use Rattle.sorter.specs.Ordering.{ordering}
use Rattle.sorter.specs.Answers.{ordering-unsound, ordering-short}
use Rattle.sorter.proofs.Demand.{order-first}

-- `order` answers 0
abbrev pub Given : List ℕ → ℕ → Type 0
Given t room = (ordering t room).answer.number ≡ 0

module _ (t : List ℕ) (room : ℕ) (given : Given t room) where
  answered : (o : Outcome) → ordering t room ≡ o → o.answer.number ≡ 0
  answered o e = sym (ap (λ (p : Outcome). p.answer.number) e) ∙ given

  pub given-checked : refusal t ≡ 0
  given-checked = elim (ℕ_discrete (refusal t) 0) [
    | yes e ↦ e
    | no n ↦ absurd (n (answered _ (ordering-unsound t room n)))
  ]

  pub given-sound : Sound t
  given-sound = passed-sound t given-checked

  pub given-room : call_count t ≤ room
  given-room = elim (dec_lt room (call_count t)) [
    | yes h ↦
        absurd (let z : ◌≡◌ {A = ℕ} 8 0 = answered _ (ordering-short t room given-checked h) in
        omega arith)
    | no h ↦ omega arith
  ]

  pub given-first : First (call_count t) (precedes (shape_of t)) (ordering t room).bytes
  given-first = (order-first t room given-sound given-room given).0
