-- Demand 2 over the bytes: what is passed keeps the rules; what the procedure writes is passed.
use Rattle.std.specs.Prelude.{◌≡◌, ◌↔◌, Bool, List, ℕ, ◌≤◌, ◌<◌, length}
use Rattle.std.proofs.Common.{sym, ◌∙◌, zero-le, arith}
use Rattle.std.proofs.Math.Decide.{ℕ_discrete}
use Rattle.search.specs.Sets.{none}
use Rattle.table.specs.Shape.{total}
use Rattle.table.specs.Packed.{shape_of}
use Rattle.table.specs.Check.{refusal}
use Rattle.table.specs.Sound.{Sound}
use Rattle.table.specs.declared.Answer.{Answer}
use Rattle.table.proofs.Checked.{passed-sound, sound-passed, few-calls}
use Rattle.calls.specs.Precedence.{precedes}
use Rattle.orders.specs.Keeps.{Keeps}
use Rattle.orders.specs.Sort.{placed}
use Rattle.orders.proofs.Sorted.{placed_first}
use Rattle.judging.specs.Conditions.{refusal_at}
use Rattle.judging.specs.Passes.{Passes}
use Rattle.judging.specs.Verdict.{answer, verdict_of}
use Rattle.judging.proofs.Meeting.{meets_iff, meets_call}
use Rattle.judging.proofs.Judged.{verdict_sound, verdict_unsound, passed_iff, passed_N}
use Rattle.judging.proofs.Place.{verdict_place}
use Rattle.judging.proofs.Kept.{passes_iff}

module _ (t : List ℕ) where
  -- the verdict is a pass exactly where the table is sound and the list keeps the rules
  pub passed-keeps : (l : List ℕ)
      → ((verdict_of t l).number ≡ 0)
      ↔ ((refusal t ≡ 0) × Keeps (total (shape_of t)) (precedes (shape_of t)) l)
  passed-keeps l = (
    (λ e. let (z, p) = (passed_iff t l).0 e in
        (z, (passes_iff (shape_of t) (passed-sound t z).wired l).0 p)),
    (λ (z, k). (passed_iff t l).1 (z, (passes_iff (shape_of t) (passed-sound t z).wired l).1 k)),
  )

  -- the same of an answer, in the declared words of what it is to pass
  pub passed_exactly : (l : List ℕ) (r : Answer) → r ≡ verdict_of t l
      → (r.number ≡ 0) ↔ (Sound t × Passes (shape_of t) none l)
  passed_exactly l r e = (
    (λ z. let (c, p) = (passed_iff t l).0 (rw e at z) in (passed-sound t c, p)),
    (λ (s, p). rw e ((passed_iff t l).1 (sound-passed t s, p))),
  )

  -- where the order's procedure places all N calls, the verdict on what it writes is a pass
  pub order-passed : refusal t ≡ 0
      → length (placed (total (shape_of t)) (precedes (shape_of t))) ≡ total (shape_of t)
      → verdict_of t (placed (total (shape_of t)) (precedes (shape_of t)))
      ≡ answer 0 (total (shape_of t))
  order-passed z e =
      let l = placed (total (shape_of t)) (precedes (shape_of t)) in
      passed_N t l ((passed-keeps l).1
      (z, (placed_first (total (shape_of t)) (precedes (shape_of t)) e).keeps))

  -- a call that is taken is below 224
  pub taken-small : refusal t ≡ 0 → (done : ℕ → Bool) (c n : ℕ) → n ≡ refusal_at (shape_of t) done c
      → n ≡ 0
      → c < 224
  taken-small z done c n e o =
      let m = (meets_iff (shape_of t) done c).0 (sym e ∙ o) in
      omega (arith, meets_call (shape_of t) done c m, few-calls t (passed-sound t z))

  -- a place is at most 224
  pub verdict_most : (l : List ℕ) → (verdict_of t l).place ≤ 224
  verdict_most l = elim (ℕ_discrete (refusal t) 0) [
    | yes z ↦
        (let few = few-calls t (passed-sound t z) in
        rw (verdict_sound t l z) (omega (arith, verdict_place (shape_of t) l)))
    | no z ↦ rw (verdict_unsound t l z) zero-le
  ]
