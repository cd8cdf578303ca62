-- Demand 2, first half: with room, a sound table gives an order where no cycle is, else a cycle.
use Rattle.std.proofs.Math.Path.{◌≡◌, sym}
use Rattle.std.proofs.Common.{ap, ◌∙◌, arith, take_at}
use Rattle.std.specs.Prelude.{◌↔◌, ℕ, ◌≤◌, ◌<◌, length, take, drop}
use mathlib.Core.List.{List}
use Rattle.std.proofs.Math.Decide.{ℕ_discrete}
use Rattle.search.specs.Front.{fronted}
use Rattle.table.specs.declared.Answer.{Answer}
use Rattle.table.specs.Sound.{Sound}
use Rattle.table.specs.Packed.{shape_of}
use Rattle.table.proofs.Checked.{sound-passed}
use Rattle.calls.specs.Precedence.{precedes}
use Rattle.orders.specs.Cycle.{Cycle}
use Rattle.orders.specs.First.{First}
use Rattle.orders.proofs.Sorted.{placed_first}
use Rattle.orders.proofs.Remains.{placed-le}
use Rattle.orders.specs.Shown.{Shown}
use Rattle.orders.proofs.Shown.{shown-is, placed_iff}
use Rattle.table.specs.Outcome.{Outcome, outcome}
use Rattle.placing.specs.Placing.{call_count, placed_of}
use Rattle.sorter.specs.Ordering.{shown_of, ordering}
use Rattle.sorter.specs.OrderOrCycle.{OrderOrCycle}
use Rattle.sorter.specs.Answers.{ordering-settled, settled-all, settled-some, ordering-long}

module _ (t : List ℕ) (room : ℕ) (sound : Sound t) (enough : call_count t ≤ room) where
  -- a cycle of the table's calls
  abbrev IsCycle : List ℕ → Type 0
  IsCycle = Cycle (call_count t) (precedes (shape_of t))

  few : (length (placed_of t) ≡ call_count t → ⊥) → length (placed_of t) < call_count t
  unfolding placed_of
  few n = elim (ℕ_discrete (length (placed_of t)) (call_count t)) [
    | yes e ↦ absurd (n e)
    | no m ↦ omega (arith, placed-le (call_count t) (precedes (shape_of t)))
  ]

  cycle-shown : (length (placed_of t) ≡ call_count t → ⊥)
      → Shown (call_count t) (precedes (shape_of t)) (shown_of t)
  unfolding shown_of placed_of
  cycle-shown n = shown-is (call_count t) (precedes (shape_of t)) (few n)

  -- an order is given: 0 with N, and the bytes are the first order
  pub all_placed : length (placed_of t) ≡ call_count t
      → (ordering t room ≡ outcome 0 (call_count t) (placed_of t))
      × First (call_count t) (precedes (shape_of t)) (placed_of t)
  unfolding placed_of
  all_placed e = (
    ordering-settled t room (sound-passed t sound) enough ∙ settled-all t e,
    placed_first (call_count t) (precedes (shape_of t)) e,
  )

  -- or a cycle is shown: 9 with its length, and the bytes are it, its lowest call first, none twice
  pub not-placed : (length (placed_of t) ≡ call_count t → ⊥)
      → (ordering t room ≡ outcome 9 (length (shown_of t)) (shown_of t))
      × Shown (call_count t) (precedes (shape_of t)) (shown_of t)
  not-placed n =
      (ordering-settled t room (sound-passed t sound) enough ∙ settled-some t n, cycle-shown n)

  -- the number is 0 exactly when no cycle exists, and then the bytes are the first order
  pub order_iff : ((ordering t room).answer.number ≡ 0) ↔ ((cs : List ℕ) → IsCycle cs → ⊥)
  unfolding placed_of
  order_iff = (there, back)
    where
      there : (ordering t room).answer.number ≡ 0 → (cs : List ℕ) → IsCycle cs → ⊥
      there e = elim (ℕ_discrete (length (placed_of t)) (call_count t)) [
        | yes p ↦ (placed_iff (call_count t) (precedes (shape_of t))).0 p
        | no p ↦
            absurd
            (let z : ◌≡◌ {A = ℕ} 9 0 = sym
            (ap (λ (o : Outcome). o.answer.number) (not-placed p).0) ∙ e in
            omega arith)
      ]

      back : ((cs : List ℕ) → IsCycle cs → ⊥) → (ordering t room).answer.number ≡ 0
      back n =
          ap (λ (o : Outcome). o.answer.number)
          (all_placed ((placed_iff (call_count t) (precedes (shape_of t))).1 n)).0

  pub order-first : (ordering t room).answer.number ≡ 0
      → First (call_count t) (precedes (shape_of t)) (ordering t room).bytes
      × ((ordering t room).answer.place ≡ call_count t)
  order-first e = elim (ℕ_discrete (length (placed_of t)) (call_count t)) [
    | yes p ↦ (let (o, f) = all_placed p in (rw o f, ap (λ (o : Outcome). o.answer.place) o))
    | no p ↦
        absurd
        (let z : ◌≡◌ {A = ℕ} 9 0 = sym (ap (λ (o : Outcome). o.answer.number) (not-placed p).0)
        ∙ e in
        omega arith)
  ]

  -- otherwise the number is 9 and the bytes are a cycle
  pub order_else : ((ordering t room).answer.number ≡ 0 → ⊥)
      → ((ordering t room).answer.number ≡ 9)
      × ((ordering t room).answer.place ≡ length (ordering t room).bytes)
      × Shown (call_count t) (precedes (shape_of t)) (ordering t room).bytes
  order_else n = elim (ℕ_discrete (length (placed_of t)) (call_count t)) [
    | yes p ↦ absurd (n (ap (λ (o : Outcome). o.answer.number) (all_placed p).0))
    | no p ↦
        (let (o, c) = not-placed p in (
          ap (λ (o : Outcome). o.answer.number) o,
          ap (λ (o : Outcome). o.answer.place) o
              ∙ sym (ap (λ (o : Outcome). length o.bytes) o),
          rw o c,
        ))
  ]

-- ---- the clause of `order` that states the demand follows from the two that determine
module _ (t out : List ℕ) (sound : Sound t) (enough : call_count t ≤ length out) where
  -- the bytes that were given stand at the front
  front : take (ordering t (length out)).answer.place
      (fronted (ordering t (length out)).bytes out)
      ≡ (ordering t (length out)).bytes
  front =
      let bytes = (ordering t (length out)).bytes in
      take_at bytes (drop (length bytes) out) (ordering t (length out)).answer.place
      (sym (ordering-long t (length out)))

  pub order_or_cycle : OrderOrCycle t (ordering t (length out)).answer
      (take (ordering t (length out)).answer.place (fronted (ordering t (length out)).bytes out))
  order_or_cycle = rw front record {
    produced = order_iff t (length out) sound enough;
    first = λ e. let (f, p) = order-first t (length out) sound enough e in (p, f);
    shown = λ n. let (e, p, c) = order_else t (length out) sound enough n in (e, c.cycle);
  }

-- all that `order` promises, from what is answered and what is written
pub clauses : (t out after : List ℕ) (r : Answer) (o : Outcome) → ordering t (length out) ≡ o
    → r ≡ o.answer → after ≡ fronted o.bytes out
    → (r ≡ (ordering t (length out)).answer)
    × ((after ≡ fronted (ordering t (length out)).bytes out)
    × (Sound t → call_count t ≤ length out → OrderOrCycle t r (take r.place after)))
clauses t out after r o e a b =
    let a : r ≡ (ordering t (length out)).answer = rw e a in
    let b : after ≡ fronted (ordering t (length out)).bytes out = rw e b in
    (a, (b, λ sound enough. rw (a, b) (order_or_cycle t out sound enough)))
