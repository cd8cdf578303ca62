-- A place of the order is at most 224: no cycle that is shown has more than N calls.
use Rattle.std.specs.Prelude.{List, ℕ, ◌≤◌, length}
use Rattle.std.proofs.Common.{zero-le, arith}
use Rattle.std.proofs.Math.Decide.{ℕ_discrete, dec_lt}
use Rattle.table.specs.Check.{refusal}
use Rattle.table.specs.Sound.{Sound}
use Rattle.table.proofs.Checked.{passed-sound, few-calls}
use Rattle.orders.specs.Once.{once-most}
use Rattle.placing.specs.Placing.{call_count, placed_of}
use Rattle.sorter.specs.Ordering.{ordering, shown_of}
use Rattle.sorter.specs.Answers.{ordering-unsound, ordering-short}
use Rattle.sorter.proofs.Demand.{all_placed, not-placed}

module _ (t : List ℕ) (room : ℕ) (sound : Sound t) (enough : call_count t ≤ room) where
  settled-most : (ordering t room).answer.place ≤ 224
  settled-most = elim (ℕ_discrete (length (placed_of t)) (call_count t)) [
    | yes e ↦ rw (all_placed t room sound enough e).0 (few-calls t sound)
    | no n ↦
        (let (o, c) = not-placed t room sound enough n in
        rw o
        (omega (
          arith,
          few-calls t sound,
          once-most (call_count t) (shown_of t) c.cycle.calls c.once,
        )))
  ]

pub order-most : (t : List ℕ) (room : ℕ) → (ordering t room).answer.place ≤ 224
order-most t room = elim (ℕ_discrete (refusal t) 0) [
  | no n ↦ rw (ordering-unsound t room n) zero-le
  | yes e ↦ elim (dec_lt room (call_count t)) [
    | yes h ↦ rw (ordering-short t room e h) zero-le
    | no h ↦ settled-most t room (passed-sound t e) (omega arith)
  ]
]
