-- Judging call by call tells what the verdict tells.
use Rattle.std.specs.Prelude.{
  ◌≡◌,
  ◌≢◌,
  ◌↔◌,
  Bool,
  true,
  false,
  List,
  [],
  ◌∷◌,
  ℕ,
  zero,
  suc,
  ◌+◌,
  ◌≤◌,
  ◌<◌,
  get_or,
  take,
  drop,
  set,
}
use Rattle.std.proofs.Math.Path.{sym, ap}
use Rattle.std.proofs.Common.{◌∙◌, arith, length-set, drop_of_length-le, drop-cons}
use Rattle.std.proofs.Math.Decide.{ℕ_discrete}
use Rattle.std.proofs.Math.ListN.{length}
use Rattle.std.proofs.lemmas.List.{length-replicate}
use borrow.Author.Tests.{eq-eqb, ne_eqb}
use Rattle.search.specs.Sets.{add}
use Rattle.table.specs.Shape.{total}
use Rattle.table.specs.Packed.{shape_of}
use Rattle.table.specs.Check.{refusal}
use Rattle.table.specs.Sound.{Sound}
use Rattle.table.proofs.Checked.{passed-sound, sound-passed}
use Rattle.judging.specs.Conditions.{refusal_at}
use Rattle.judging.specs.Verdict.{answer, at_end, verdict_from, verdict_of}
use Rattle.judging.proofs.Judged.{verdict_on, verdict_off, verdict_sound}
use Rattle.judging.proofs.Judged.{verdict_unsound, passed_iff, passed_N}
use Rattle.judging.proofs.Demand.{taken-small}
use Rattle.judge.specs.declared.Run.{Run}
use Rattle.judge.specs.Marks.{marks, marks-none, marks-set}
use Rattle.judge.specs.Taken.{fresh, advanced, taken}
use Rattle.judge.specs.CallByCall.{run_after, answered_at, TakenInTurn}

-- the number handed back is that of the call
advanced-number : (run : Run) (c n : ℕ) → (advanced run c n).number ≡ n
unfolding advanced
advanced-number run c n = elim (ℕ_discrete n 0) [
  | yes z ↦ rw (eq-eqb n 0 z) (sym z)
  | no z ↦ rw (ne_eqb n 0 z)
]

module _ (t : List ℕ) where
  unsound-number : refusal t ≢ 0 → (run : Run) (c : ℕ) → (taken t run c).number ≡ refusal t
  unfolding taken
  unsound-number z run c = rw (ne_eqb (refusal t) 0 z) (advanced-number run c (refusal t))

  module _ (z : refusal t ≡ 0) where
    -- ---- one call of a run on a sound table

    taken-number : (run : Run) (c : ℕ)
        → (taken t run c).number ≡ refusal_at (shape_of t) (marks run.done) c
    unfolding taken
    taken-number run c =
        rw (eq-eqb (refusal t) 0 z)
        (advanced-number run c (refusal_at (shape_of t) (marks run.done) c))

    -- a call that is taken leaves its mark, and no other
    taken-done : (run : Run) (c : ℕ) → (taken t run c).number ≡ 0
        → (taken t run c).run.done ≡ set run.done c true
    unfolding taken advanced
    taken-done run c e =
        let o : refusal_at (shape_of t) (marks run.done) c ≡ 0 = sym (taken-number run c) ∙ e in
        rw (eq-eqb (refusal t) 0 z, eq-eqb (refusal_at (shape_of t) (marks run.done) c) 0 o)

    taken-marks : (run : Run) (c : ℕ) → length run.done ≡ 224 → (taken t run c).number ≡ 0
        → marks (taken t run c).run.done ≡ add c (marks run.done)
    taken-marks run c long e =
        ap marks (taken-done run c e)
        ∙ marks-set run.done c
        (taken-small t z (marks run.done) c _ (taken-number run c) e) long

    -- ---- the calls of a list in turn

    -- where the first i calls are answered 0, the verdict is that on the rest, from the run then
    goes_on : (run : Run) (l : List ℕ) (i k : ℕ) → length run.done ≡ 224 → i ≤ length l
        → ((j : ℕ) → j < i → answered_at t run l j ≡ 0)
        → verdict_from (shape_of t) (marks run.done) l k
        ≡ verdict_from (shape_of t) (marks (run_after t run (take i l)).done) (drop i l) (k + i)
    goes_on run l zero k long h each =
        ap (verdict_from (shape_of t) (marks run.done) l) (omega arith)
    goes_on run [] (suc i) k long h each = absurd (omega arith)
    goes_on run (c ∷ l) (suc i) k long h each =
        let s = shape_of t in
        let next = (taken t run c).run in
        let e : (taken t run c).number ≡ 0 = each 0 (omega arith) in
        verdict_on s (marks run.done) c l k (sym (taken-number run c) ∙ e)
        ∙ ap (λ d. verdict_from s d l (suc k)) (sym (taken-marks run c long e))
        ∙ goes_on next l i (suc k) (ap length (taken-done run c e) ∙ simp length-set long)
        (omega arith)
        (λ j g. each (suc j) (omega arith))
        ∙ ap (verdict_from s (marks (run_after t next (take i l)).done) (drop i l)) (omega arith)

    from_start : (l : List ℕ) (i : ℕ) → i ≤ length l
        → ((j : ℕ) → j < i → answered_at t fresh l j ≡ 0)
        → verdict_of t l ≡ verdict_from (shape_of t) (marks (run_after t fresh (take i l)).done)
        (drop i l) i
    unfolding fresh
    from_start l i h each =
        verdict_sound t l z
        ∙ ap (λ d. verdict_from (shape_of t) d l 0) (sym marks-none)
        ∙ goes_on fresh l i 0 (length-replicate {A = Bool} 224 false) h each
        ∙ ap (verdict_from (shape_of t) (marks (run_after t fresh (take i l)).done) (drop i l))
        (omega arith)

  -- where each call is answered 0, the verdict is that at the end: 0 with N, or 18 with the length
  pub all-taken : Sound t → (l : List ℕ) → ((i : ℕ) → i < length l → answered_at t fresh l i ≡ 0)
      → verdict_of t l ≡ at_end (shape_of t) (length l)
  unfolding verdict_from
  all-taken sound l each =
      from_start (sound-passed t sound) l (length l) (omega arith) each
      ∙ rw (drop_of_length-le l {i = length l} (omega arith))

  -- whatever the table: the first call that is not answered 0 has the verdict's number and place
  pub first-refused : (l : List ℕ) (i : ℕ) → i < length l
      → ((j : ℕ) → j < i → answered_at t fresh l j ≡ 0)
      → answered_at t fresh l i ≢ 0 → verdict_of t l ≡ answer (answered_at t fresh l i) i
  first-refused l i h each ne =
      elim (ℕ_discrete (refusal t) 0) [ yes z ↦ sound z | no z ↦ unsound z i each ]
    where
      sound : refusal t ≡ 0 → verdict_of t l ≡ answer (answered_at t fresh l i) i
      sound z =
          let run = run_after t fresh (take i l) in
          let e = taken-number z run (get_or l i 0) in
          from_start z l i (omega arith) each
          ∙ rw (drop-cons l i 0 h)
          (verdict_off (shape_of t) (marks run.done) (get_or l i 0) (drop (suc i) l) i
          (λ q. ne (e ∙ q))
          ∙ ap (λ n. answer n i) (sym e))

      unsound : refusal t ≢ 0 → (k : ℕ) → ((j : ℕ) → j < k → answered_at t fresh l j ≡ 0)
          → verdict_of t l ≡ answer (answered_at t fresh l k) k
      unsound z zero before =
          verdict_unsound t l z ∙ ap (λ n. answer n 0) (sym (unsound-number z fresh (get_or l 0 0)))
      unsound z (suc k) before =
          absurd (z (sym (unsound-number z fresh (get_or l 0 0)) ∙ before 0 (omega arith)))

  -- on a pass each call is answered 0
  each-taken : (l : List ℕ) → (verdict_of t l).number ≡ 0 → (n : ℕ) → n ≤ length l → (i : ℕ) → i < n
      → answered_at t fresh l i ≡ 0
  each-taken l e zero h i g = absurd (omega arith)
  each-taken l e (suc n) h i g = elim (ℕ_discrete i n) [
    | yes z ↦ rw z (go (each-taken l e n (omega arith)))
    | no z ↦ each-taken l e n (omega arith) i (omega arith)
  ]
    where
      go : ((i : ℕ) → i < n → answered_at t fresh l i ≡ 0) → answered_at t fresh l n ≡ 0
      go each = elim (ℕ_discrete (answered_at t fresh l n) 0) [
        | yes y ↦ y
        | no y ↦ sym (ap (λ a. a.number) (first-refused l n (omega arith) each y)) ∙ e
      ]

  -- each call is answered 0 and N calls are taken exactly where the verdict is a pass
  pub in_turn_passed : (l : List ℕ) → TakenInTurn t l ↔ ((verdict_of t l).number ≡ 0)
  unfolding at_end
  in_turn_passed l = (to, from)
    where
      to : TakenInTurn t l → (verdict_of t l).number ≡ 0
      to p = rw (all-taken p.sound l p.each, eq-eqb (length l) (total (shape_of t)) p.whole)

      from : (verdict_of t l).number ≡ 0 → TakenInTurn t l
      from e =
          let sound = passed-sound t ((passed_iff t l).0 e).0 in
          let each = each-taken l e (length l) (omega arith) in
          record {
            sound = sound;
            each = each;
            whole = ap (λ a. a.place) (sym (all-taken sound l each) ∙ passed_N t l e);
          }
