-- The verdict is a pass exactly where the order passes.
use Rattle.std.specs.Prelude.{
  ◌≡◌,
  ◌≢◌,
  ◌↔◌,
  Bool,
  true,
  false,
  List,
  [],
  ◌∷◌,
  ℕ,
  zero,
  suc,
  ◌<◌,
  eqb,
  length,
  get_or,
  take,
}
use Rattle.std.proofs.Common.{sym, ap, ◌∙◌, arith}
use Rattle.std.proofs.Math.Decide.{ℕ_discrete}
use Rattle.search.specs.Truth.{is_true, is_false, eq_true, eq_false}
use Rattle.search.specs.Sets.{none, add}
use Rattle.search.specs.Count.{count, count_none, count_add, count-full, count-all}
use Rattle.table.specs.Shape.{Shape, total}
use Rattle.table.specs.Packed.{shape_of}
use Rattle.table.specs.Check.{refusal}
use Rattle.judging.specs.Conditions.{refusal_at}
use Rattle.judging.specs.Passes.{after, Meets, Passes}
use Rattle.judging.specs.Verdict.{answer, at_end, verdict_from, verdict_of}
use Rattle.judging.proofs.Meeting.{meets_iff, meets_call}
use Rattle.judging.specs.Judged.{MeetsAll}

same : (a b : ℕ) → a ≡ b → eqb a b ≡ true
same a b e = is_true (eqb a b) (eq_true a b e)

other : (a b : ℕ) → a ≢ b → eqb a b ≡ false
other a b n = is_false (eqb a b) (eq_false a b n)

module _ (s : Shape) where
  -- ---- the verdict by one call

  pub verdict_end : (done : ℕ → Bool) (k : ℕ) → k ≡ total s → verdict_from s done [] k ≡ answer 0 k
  unfolding verdict_from at_end
  verdict_end done k e = rw (same k (total s) e)

  pub verdict_short : (done : ℕ → Bool) (k : ℕ) → k ≢ total s
      → verdict_from s done [] k ≡ answer 18 k
  unfolding verdict_from at_end
  verdict_short done k e = rw (other k (total s) e)

  pub verdict_on : (done : ℕ → Bool) (c : ℕ) (l : List ℕ) (k : ℕ) → refusal_at s done c ≡ 0
      → verdict_from s done (c ∷ l) k ≡ verdict_from s (add c done) l (suc k)
  unfolding verdict_from
  verdict_on done c l k e = rw (same (refusal_at s done c) 0 e)

  pub verdict_off : (done : ℕ → Bool) (c : ℕ) (l : List ℕ) (k : ℕ) → refusal_at s done c ≢ 0
      → verdict_from s done (c ∷ l) k ≡ answer (refusal_at s done c) k
  unfolding verdict_from
  verdict_off done c l k e = rw (other (refusal_at s done c) 0 e)

  -- ---- passing by one call

  pub one-more : (done : ℕ → Bool) (c : ℕ) (l : List ℕ) (n : ℕ) → Meets s done c
      → MeetsAll s (add c done) l n
      → MeetsAll s done (c ∷ l) (suc n)
  one-more done c l n m ms zero h = m
  one-more done c l n m ms (suc i) h = ms i (omega arith)

  pub passes_cons : (done : ℕ → Bool) (c : ℕ) (l : List ℕ) → Meets s done c
      → Passes s (add c done) l
      → Passes s done (c ∷ l)
  passes_cons done c l m p =
      record { meets = one-more done c l (length l) m p.meets; whole = p.whole }

  pub passes_head : (done : ℕ → Bool) (c : ℕ) (l : List ℕ) → Passes s done (c ∷ l) → Meets s done c
  passes_head done c l p = p.meets 0 (omega arith)

  pub passes-tail : (done : ℕ → Bool) (c : ℕ) (l : List ℕ) → Passes s done (c ∷ l)
      → Passes s (add c done) l
  passes-tail done c l p =
      record { meets = λ i h. p.meets (suc i) (omega arith); whole = p.whole }

  -- ---- a pass exactly where the order passes

  -- k is how many calls are done
  passes_verdict : (done : ℕ → Bool) (l : List ℕ) (k : ℕ) → k ≡ count done (total s)
      → Passes s done l
      → verdict_from s done l k ≡ answer 0 (total s)
  passes_verdict done [] k e p =
      let z : k ≡ total s = e ∙ count-all done (total s) p.whole in
      verdict_end done k z ∙ ap (answer 0) z
  passes_verdict done (c ∷ l) k e p =
      let m = passes_head done c l p in
      let a = count_add done c (total s) (meets_call s done c m) m.0 in
      verdict_on done c l k ((meets_iff s done c).1 m)
      ∙ passes_verdict (add c done) l (suc k) (omega arith) (passes-tail done c l p)

  verdict_passes : (done : ℕ → Bool) (l : List ℕ) (k : ℕ) → k ≡ count done (total s)
      → (verdict_from s done l k).number ≡ 0 → Passes s done l
  verdict_passes done [] k e p = elim (ℕ_discrete k (total s)) [
    | yes z ↦ record {
      meets = λ i h. absurd (omega arith);
      whole = count-full done (total s)
          (sym e ∙ z);
    }
    | no z ↦ absurd (let q : ◌≡◌ {A = ℕ} 18 0 = (rw (verdict_short done k z) at p) in omega arith)
  ]
  verdict_passes done (c ∷ l) k e p = elim (ℕ_discrete (refusal_at s done c) 0) [
    | yes z ↦
        (let m = (meets_iff s done c).0 z in
        let a = count_add done c (total s) (meets_call s done c m) m.0 in
        passes_cons done c l m
        (verdict_passes (add c done) l (suc k) (omega arith) (rw (verdict_on done c l k z) at p)))
    | no z ↦ absurd (z (rw (verdict_off done c l k z) at p))
  ]

  fresh : 0 ≡ count none (total s)
  fresh = sym (count_none none (total s) (λ i h. tt))

  -- from the start, on a sound shape: number 0 exactly where the order passes, and then with N
  pub from_start : (l : List ℕ) → ((verdict_from s none l 0).number ≡ 0) ↔ Passes s none l
  from_start l = (
    verdict_passes none l 0 fresh,
    (λ p. ap (λ a. a.number) (passes_verdict none l 0 fresh p)),
  )

  pub from_start_N : (l : List ℕ) → Passes s none l → verdict_from s none l 0 ≡ answer 0 (total s)
  from_start_N l p = passes_verdict none l 0 fresh p

-- ---- over the bytes

module _ (t : List ℕ) where
  pub verdict_sound : (l : List ℕ) → refusal t ≡ 0
      → verdict_of t l ≡ verdict_from (shape_of t) none l 0
  unfolding verdict_of
  verdict_sound l e = rw (same (refusal t) 0 e)

  pub verdict_unsound : (l : List ℕ) → refusal t ≢ 0 → verdict_of t l ≡ answer (refusal t) 0
  unfolding verdict_of
  verdict_unsound l e = rw (other (refusal t) 0 e)

  -- the verdict is number 0 exactly where the table is sound and the order passes
  pub passed_iff : (l : List ℕ) → ((verdict_of t l).number ≡ 0)
      ↔ ((refusal t ≡ 0) × Passes (shape_of t) none l)
  passed_iff l = (to, from)
    where
      to : (verdict_of t l).number ≡ 0 → (refusal t ≡ 0) × Passes (shape_of t) none l
      to e = elim (ℕ_discrete (refusal t) 0) [
        | yes z ↦ (z, (from_start (shape_of t) l).0 (rw (verdict_sound l z) at e))
        | no z ↦ absurd (z (rw (verdict_unsound l z) at e))
      ]

      from : (refusal t ≡ 0) × Passes (shape_of t) none l → (verdict_of t l).number ≡ 0
      from (z, p) = rw (verdict_sound l z) ((from_start (shape_of t) l).1 p)

  -- a pass has N as its place
  pub passed_N : (l : List ℕ) → (verdict_of t l).number ≡ 0
      → verdict_of t l ≡ answer 0 (total (shape_of t))
  passed_N l e =
      let (z, p) = (passed_iff l).0 e in
      verdict_sound l z ∙ from_start_N (shape_of t) l p
