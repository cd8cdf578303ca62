-- Demand 2 and the premise of demand 3 over what C gets, 256 times the number plus the place.
-- It is below 256 exactly where the number is 0, and it is then the place.
use Rattle.std.specs.Prelude.{◌≡◌, refl, ◌↔◌, List, ℕ, ◌+◌, ◌*◌, ◌≤◌, ◌<◌, length, take, drop}
use Rattle.std.proofs.Common.{sym, ap, ◌∙◌, take_at}
use native.Mathlib.Omega.{arith}
use Rattle.std.proofs.Math.Decide.{ℕ_discrete}
use Rattle.search.specs.Sets.{none}
use Rattle.search.specs.Front.{fronted}
use Rattle.table.specs.declared.Answer.{Answer}
use Rattle.table.specs.Packed.{shape_of}
use Rattle.table.specs.Sound.{Sound}
use Rattle.table.specs.Check.{checked}
use Rattle.table.proofs.Checked.{check_sound, sound-answer, place-most, few-calls}
use Rattle.calls.specs.Precedence.{precedes}
use Rattle.orders.specs.Cycle.{Cycle}
use Rattle.orders.specs.First.{First}
use Rattle.orders.specs.Shown.{Shown}
use Rattle.orders.specs.Once.{once-most}
use Rattle.placing.specs.Placing.{call_count}
use Rattle.sorter.specs.Ordering.{ordering}
use Rattle.sorter.specs.Answers.{ordering-long}
use Rattle.sorter.proofs.Demand.{order_iff, order-first, order_else}
use Rattle.judging.specs.Passes.{Passes}
use Rattle.judging.specs.Verdict.{answer, verdict_of}
use Rattle.judging.proofs.Judged.{passed_N}
use Rattle.judging.proofs.Demand.{passed_exactly, verdict_most}
use Rattle.firmware.specs.Code.{coded}
use Rattle.firmware.specs.Places.{order-most}

-- ---- what the order's export tells, in the declared words

pub record TellsOrder (t : List ℕ) (r : ℕ) (order : List ℕ) : Type 0 where
  -- C gets N exactly when no cycle exists
  pub produced : (r ≡ call_count t) ↔ ((l : List ℕ) → Cycle (call_count t) (precedes (shape_of t)) l → ⊥)
  -- then the N bytes at the buffer's front are the first order
  pub first : r ≡ call_count t → First (call_count t) (precedes (shape_of t)) (take (call_count t) order)
  -- otherwise C gets 9 with a length of at most N, and so many bytes at the front are a true cycle,
  -- its lowest call first and no call twice
  pub shown : (r ≡ call_count t → ⊥)
      → (k : ℕ) × (r ≡ 256 * 9 + k) × (k ≤ call_count t) × Shown (call_count t) (precedes (shape_of t)) (take k order)

-- ---- a coded answer

pub number_0 : (a : Answer) → a.place ≤ 224 → (coded a < 256) ↔ (a.number ≡ 0)
unfolding coded
number_0 a h = ((λ l. omega arith), (λ e. omega arith))

pub then_place : (a : Answer) → a.number ≡ 0 → coded a ≡ a.place
unfolding coded
then_place a e = omega arith

-- ---- the check: below 256 exactly for a sound table, and then N

pub check-coded : (t : List ℕ)
    → ((coded (checked t) < 256) ↔ Sound t) × (Sound t → coded (checked t) ≡ call_count t)
check-coded t =
    let (to, from) = number_0 (checked t) (place-most t) in (
      ((λ l. (check_sound t).0 (to l)), (λ s. from ((check_sound t).1 s))),
      (λ s. then_place (checked t) ((check_sound t).1 s) ∙ sound-answer t s),
    )

-- ---- the verdict: below 256 exactly where the table is sound and the list passes, and then N

pub verdict_0 : (t order : List ℕ) → (coded (verdict_of t order) < 256)
    ↔ ((verdict_of t order).number ≡ 0)
verdict_0 t order = number_0 (verdict_of t order) (verdict_most t order)

pub verdict_coded : (t order : List ℕ)
    → ((coded (verdict_of t order) < 256) ↔ (Sound t × Passes (shape_of t) none order))
    × (coded (verdict_of t order) < 256 → coded (verdict_of t order) ≡ call_count t)
verdict_coded t order =
    let (to, from) = verdict_0 t order in
    let (there, back) = passed_exactly t order (verdict_of t order) refl in (
      ((λ l. there (to l)), (λ p. from (back p))),
      (λ l. then_place (verdict_of t order) (to l)
          ∙ ap (λ (a : Answer). a.place) (passed_N t order (to l))),
    )

-- ---- the order

pub order_0 : (t : List ℕ) (room : ℕ)
    → (coded (ordering t room).answer < 256) ↔ ((ordering t room).answer.number ≡ 0)
order_0 t room = number_0 (ordering t room).answer (order-most t room)

-- the bytes that are given stand at the front of the buffer
pub order-front : (t out : List ℕ) (k : ℕ) → (ordering t (length out)).answer.place ≡ k
    → take k (fronted (ordering t (length out)).bytes out) ≡ (ordering t (length out)).bytes
order-front t out k e =
    let bytes = (ordering t (length out)).bytes in
    take_at bytes (drop (length bytes) out) k (sym (ordering-long t (length out)) ∙ e)

module _ (t out : List ℕ) (sound : Sound t) (enough : call_count t ≤ length out) where
  abbrev told : ℕ
  told = coded (ordering t (length out)).answer

  abbrev left : List ℕ
  left = fronted (ordering t (length out)).bytes out

  N_is : (told ≡ call_count t) ↔ ((ordering t (length out)).answer.number ≡ 0)
  N_is = (
    (λ e. (order_0 t (length out)).0 (omega (arith, e, few-calls t sound))),
    (λ z. then_place (ordering t (length out)).answer z
        ∙ (order-first t (length out) sound enough z).1),
  )

  pub order-coded : TellsOrder t told left
  unfolding coded
  order-coded =
      let (to, from) = order_iff t (length out) sound enough in
      record {
        produced = ((λ e. to (N_is.0 e)), (λ n. N_is.1 (from n)));
        first = λ e.
            let (f, p) = order-first t (length out) sound enough (N_is.0 e) in
            rw (order-front t out (call_count t) p) f;
        shown = λ n.
            let (nine, long, c) = order_else t (length out) sound enough (λ z. n (N_is.1 z)) in (
              (ordering t (length out)).answer.place,
              omega (arith, nine),
              omega (
                arith,
                long,
                once-most (call_count t) (ordering t (length out)).bytes
                    c.cycle.calls c.once,
              ),
              rw (order-front t out (ordering t (length out)).answer.place refl) c,
            );
      }
