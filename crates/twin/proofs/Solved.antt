-- Demand 3 over a shape: the run of a passed order solves the equations, and nothing else does.
use Rattle.std.specs.Prelude.{◌≡◌, ◌≢◌, Bool, not, T}
use Rattle.std.proofs.Math.Path.{refl, ap}
use Rattle.std.proofs.Common.{sym, subst, ◌∙◌, inl, inr, arith}
use mathlib.Core.List.{List, [], ◌∷◌}
use Prim.Native.Nat.{ℕ, suc, ◌<◌}
use Rattle.std.proofs.Math.Decide.{ℕ_discrete}
use Rattle.search.specs.Truth.{clash}
use Rattle.search.specs.Sets.{none, add, add-self, add-more, add_cases, add-not, not-add}
use Rattle.table.specs.Shape.{Shape, total, Wired}
use Rattle.calls.specs.Number.{call_of, get_no, set_no}
use Rattle.calls.specs.Numbers.{is-step, is_get, is_set}
use Rattle.judging.specs.Passes.{Passes}
use Rattle.judging.proofs.Meeting.{meets_call}
use Rattle.judging.proofs.Judged.{passes_head, passes-tail}
use Rattle.twin.specs.Rules.{Rules}
use Rattle.twin.specs.Run.{Values, World, gives, run}
use Rattle.twin.specs.Equations.{Solves}
use Rattle.twin.proofs.Midway.{Midway, Holds, next, next-self, next-other}
use Rattle.twin.proofs.Midway.{solves→holds, holds-one, gives-holds}

module _ {State Value : Type 0} (s : Shape) (m : Rules State Value) (ok : Wired s) where
  apart : (done : ℕ → Bool) (c a : ℕ) → T (not (done c)) → T (done a) → a ≢ c
  apart done c a n d e = clash (done c) (rw e at d) n

  -- what is done stays as it is
  pub run-keeps : (done : ℕ → Bool) (l : List ℕ) (w : World State Value) → Passes s done l → (a : ℕ)
      → T (done a) → run s m w l (call_of s a) ≡ w (call_of s a)
  unfolding run
  run-keeps done [] w p a d = refl
  run-keeps done (c ∷ l) w p a d =
      let h = passes_head s done c l p in
      run-keeps (add c done) l (next s m w c) (passes-tail s done c l p) a (add-more c done a d)
      ∙ next-other s m w c a (apart done c a h.0 d)

  -- ---- the solution is single: a run is midway to every solution, and ends there

  midway_on : (done : ℕ → Bool) (old new : Values State Value) (w : World State Value) (c : ℕ)
      → c < total s
      → gives s m w (call_of s c) ≡ new (call_of s c) → Midway s m done old new w
      → Midway s m (add c done) old new (next s m w c)
  midway_on done old new w c hc e mid = record {
    moved = λ a ha d. elim (ℕ_discrete a c) [
      | yes z ↦ rw z (ap (λ v. v.value) (next-self s m w c hc) ∙ e)
      | no z ↦
          ap (λ v. v.value) (next-other s m w c a z)
          ∙ mid.moved a ha (elim (add_cases c done a d) [ inl y ↦ absurd (z y) | inr y ↦ y ])
    ];
    waits = λ a ha n.
        let (ne, n') = add-not c done a n in
        ap (λ v. v.value) (next-other s m w c a ne) ∙ mid.waits a ha n';
  }

  run-single : (done : ℕ → Bool) (old new : Values State Value) → Solves s m old new → (l : List ℕ)
      (w : World State Value) → Passes s done l → Midway s m done old new w → (a : ℕ) → a < total s
      → (run s m w l (call_of s a)).value ≡ new (call_of s a)
  unfolding run
  run-single done old new sv [] w p mid a h = mid.moved a h (p.whole a h)
  run-single done old new sv (c ∷ l) w p mid a h =
      let me = passes_head s done c l p in
      let hc = meets_call s done c me in
      let e = holds-one s m old new (call_of s c) (gives s m w (call_of s c)) (new (call_of s c))
      (gives-holds s m ok done old new w mid c me) (solves→holds s m old new sv c hc) in
      run-single (add c done) old new sv l (next s m w c) (passes-tail s done c l p)
      (midway_on done old new w c hc e mid) a h

  -- ---- each call ends with its equation held

  abbrev end : World State Value → List ℕ → Values State Value
  end w l k = (run s m w l k).value

  head_holds : (done : ℕ → Bool) (old : Values State Value) (w : World State Value) (c : ℕ)
      (l : List ℕ)
      → Passes s done (c ∷ l)
      → ((a : ℕ) → a < total s → T (not (done a)) → (w (call_of s a)).value ≡ old (call_of s a))
      → Holds s m old (end (next s m w c) l) (call_of s c) (end (next s m w c) l (call_of s c))
  head_holds done old w c l p y =
      let me = passes_head s done c l p in
      let hc = meets_call s done c me in
      let r = passes-tail s done c l p in
      let mid : Midway s m done old (end (next s m w c) l) w = record {
        moved = λ a ha d. sym
            (ap (λ v. v.value)
            (run-keeps (add c done) l (next s m w c) r a (add-more c done a d)
            ∙ next-other s m w c a (apart done c a me.0 d)));
        waits = y;
      } in
      let e : end (next s m w c) l (call_of s c) ≡ gives s m w (call_of s c) =
      ap (λ v. v.value) (run-keeps (add c done) l (next s m w c) r c (add-self c done)
      ∙ next-self s m w c hc) in
      subst (λ v. Holds s m old (end (next s m w c) l) (call_of s c) v) (sym e)
      (gives-holds s m ok done old (end (next s m w c) l) w mid c me)

  run_holds : (done : ℕ → Bool) (old : Values State Value) (l : List ℕ) (w : World State Value)
      → Passes s done l
      → ((a : ℕ) → a < total s → T (not (done a)) → (w (call_of s a)).value ≡ old (call_of s a))
      → (a : ℕ) → a < total s → T (not (done a))
      → Holds s m old (end w l) (call_of s a) (end w l (call_of s a))
  unfolding run
  run_holds done old [] w p y a h n = absurd (clash (done a) (p.whole a h) n)
  run_holds done old (c ∷ l) w p y a h n = elim (ℕ_discrete a c) [
    | yes z ↦ rw z (head_holds done old w c l p y)
    | no z ↦
        run_holds (add c done) old l (next s m w c) (passes-tail s done c l p)
        (λ b hb nb. let (ne, nd) = add-not c done b nb in
        ap (λ v. v.value) (next-other s m w c b ne) ∙ y b hb nd)
        a h (not-add c done a z n)
  ]

  -- ---- each unit and port is moved one step, once

  run-times : (done : ℕ → Bool) (l : List ℕ) (w : World State Value) → Passes s done l → (a : ℕ)
      → a < total s
      → T (not (done a)) → (run s m w l (call_of s a)).time ≡ suc (w (call_of s a)).time
  unfolding run
  run-times done [] w p a h n = absurd (clash (done a) (p.whole a h) n)
  run-times done (c ∷ l) w p a h n =
      let hc = meets_call s done c (passes_head s done c l p) in
      let r = passes-tail s done c l p in
      elim (ℕ_discrete a c) [
        | yes z ↦
            rw z
            (ap (λ v. v.time) (run-keeps (add c done) l (next s m w c) r c (add-self c done)
            ∙ next-self s m w c hc))
        | no z ↦
            run-times (add c done) l (next s m w c) r a h (not-add c done a z n)
            ∙ ap (λ v. suc v.time) (next-other s m w c a z)
      ]

  -- ---- demand 3, from the start

  pub solves : (w : World State Value) (l : List ℕ) → Passes s none l
      → Solves s m (λ k. (w k).value) (λ k. (run s m w l k).value)
  solves w l p =
      let h = run_holds none (λ k. (w k).value) l w p (λ a ha n. refl) in
      record {
        states = λ u hu. (rw (is-step s u hu) at (h u (omega arith) tt));
        outputs = λ y hy. (rw (is_get s y hy) at (h (get_no s y) (omega arith) tt));
        inputs = λ x hx. (rw (is_set s x hx) at (h (set_no s x) (omega arith) tt));
      }

  pub single : (w : World State Value) (l : List ℕ) → Passes s none l → (new : Values State Value)
      → Solves s m (λ k. (w k).value) new → (a : ℕ) → a < total s
      → (run s m w l (call_of s a)).value ≡ new (call_of s a)
  single w l p new sv =
      run-single none (λ k. (w k).value) new sv l w p
      (record { moved = λ a h t. absurd t; waits = λ a h t. refl })

  pub later : (w : World State Value) (l : List ℕ) → Passes s none l → (a : ℕ) → a < total s
      → (run s m w l (call_of s a)).time ≡ suc (w (call_of s a)).time
  later w l p a h = run-times none l w p a h tt
