-- Where the verdict stops: the first call whose conditions fail, with its number and place.
use Rattle.std.specs.Prelude.{◌≡◌, Bool, List, [], ◌∷◌, ℕ, suc, ◌+◌, ◌≤◌, ◌<◌, length, get_or, take}
use Rattle.std.proofs.Common.{sym, ap, ◌∙◌, arith}
use Rattle.std.proofs.Math.Decide.{ℕ_discrete}
use Rattle.search.specs.Sets.{none, add}
use Rattle.search.specs.Count.{count, count-le, count_none, count_add}
use Rattle.table.specs.declared.Answer.{Answer}
use Rattle.table.specs.Shape.{Shape, total}
use Rattle.judging.specs.Conditions.{refusal_at}
use Rattle.judging.specs.Passes.{after, Meets}
use Rattle.judging.specs.Verdict.{answer, verdict_from}
use Rattle.judging.proofs.Meeting.{meets_iff, meets_call}
use Rattle.judging.proofs.Judged.{one-more, verdict_end}
use Rattle.judging.proofs.Judged.{verdict_short, verdict_on, verdict_off}
use Rattle.judging.specs.Place.{Tells, passed, ended, refused}

module _ (s : Shape) where
  tells_on : (done : ℕ → Bool) (c : ℕ) (l : List ℕ) (k : ℕ) (a : Answer) → Meets s done c
      → Tells s (add c done) l (suc k) a → Tells s done (c ∷ l) k a
  tells_on done c l k a m (passed ms n e) =
      passed (one-more s done c l (length l) m ms) (omega arith) (e ∙ ap (answer 0) (omega arith))
  tells_on done c l k a m (ended ms n e) =
      ended (one-more s done c l (length l) m ms) (omega arith) (e ∙ ap (answer 18) (omega arith))
  tells_on done c l k a m (refused i h most ms n e) =
      refused (suc i) (omega arith) (omega arith) (one-more s done c l i m ms) n
      (e ∙ ap (answer (refusal_at s (after (add c done) (take i l)) (get_or l i 0))) (omega arith))

  -- k is how many calls are done
  tells : (done : ℕ → Bool) (l : List ℕ) (k : ℕ) → k ≡ count done (total s)
      → Tells s done l k (verdict_from s done l k)
  tells done [] k n = elim (ℕ_discrete k (total s)) [
    | yes z ↦
        passed (λ i h. absurd (omega arith)) (omega arith)
        (verdict_end s done k z ∙ ap (answer 0) (omega arith))
    | no z ↦
        ended (λ i h. absurd (omega arith)) (omega (arith, count-le done (total s)))
        (verdict_short s done k z ∙ ap (answer 18) (omega arith))
  ]
  tells done (c ∷ l) k n = elim (ℕ_discrete (refusal_at s done c) 0) [
    | yes z ↦
        (let m = (meets_iff s done c).0 z in
        let a = count_add done c (total s) (meets_call s done c m) m.0 in
        tells_on done c l k (verdict_from s done (c ∷ l) k) m
        (rw (verdict_on s done c l k z) (tells (add c done) l (suc k) (omega arith))))
    | no z ↦
        refused 0 (omega arith) (omega (arith, count-le done (total s)))
        (λ j h. absurd (omega arith))
        (λ m. z ((meets_iff s done c).1 m))
        (verdict_off s done c l k z ∙ ap (answer (refusal_at s done c)) (omega arith))
  ]

  -- from the start, where place counts from 0
  pub verdict_tells : (l : List ℕ) → Tells s none l 0 (verdict_from s none l 0)
  verdict_tells l = tells none l 0 (sym (count_none none (total s) (λ i h. tt)))

  -- no place is above N
  pub verdict_place : (l : List ℕ) → (verdict_from s none l 0).place ≤ total s
  verdict_place l = go (verdict_from s none l 0) (verdict_tells l)
    where
      go : (a : Answer) → Tells s none l 0 a → a.place ≤ total s
      go a (passed ms n e) = rw e (omega arith)
      go a (ended ms n e) = rw e (omega arith)
      go a (refused i h most ms n e) = rw e (omega arith)
