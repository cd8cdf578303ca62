-- An order passes exactly where it keeps the rules; so what the order's procedure writes is passed.
use Rattle.std.specs.Prelude.{◌≡◌, refl, ◌↔◌, Bool, not, List, [], ◌∷◌, ℕ, ◌<◌, T}
use Rattle.std.proofs.Common.{sym, ap, ◌∙◌, inl, inr, arith}
use Rattle.std.proofs.Math.Dec.{not_T}
use Rattle.search.specs.Truth.{clash}
use Rattle.search.specs.Sets.{none, add, add-self, add-more, add_cases}
use Rattle.table.specs.Shape.{Shape, total, Wired}
use Rattle.calls.specs.declared.Call.TheVariants.{Step, Get, Set}
use Rattle.calls.specs.Number.{call_of, get_no, set_no}
use Rattle.calls.specs.Numbers.{is-step, is_get, is_set, View, at-step, at_get, at_set, view}
use Rattle.calls.specs.Precedence.{precedes}
use Rattle.calls.proofs.Neighbours.{feeds-found, found-feeds, step_get_holds}
use Rattle.calls.proofs.Neighbours.{get_set_holds, set_get_holds, set-step-holds}
use Rattle.calls.proofs.Neighbours.{step-set-holds, before-step, before_get, before-set}
use Rattle.orders.specs.Keeps.{Keeps}
use Rattle.orders.specs.Follows.{Follows, keeps→follows, follows→keeps}
use Rattle.judging.specs.Passes.{Allows, Passes}
use Rattle.judging.proofs.Meeting.{meets_call}
use Rattle.judging.proofs.Judged.{passes_cons, passes_head, passes-tail}

module _ (s : Shape) (ok : Wired s) where
  -- ---- a passed order keeps the rules

  too_early : (done : ℕ → Bool) (x : ℕ) → x < s.inputs → s.kind x ≡ 0 → T (done (set_no s x))
      → Allows s done (call_of s (s.input_owner x)) → ⊥
  too_early done x h k d al =
      let q : Allows s done (Step (s.input_owner x)) =
      (rw (is-step s (s.input_owner x) (ok.input-owned x h)) at al) in
      clash (done (set_no s x)) d (q.0 x h refl k)

  -- where a passed rest follows, the unit of a delayed input that is set has stepped
  late : (done : ℕ → Bool) (l : List ℕ) → Passes s done l → (x : ℕ) → x < s.inputs → s.kind x ≡ 0
      → T (done (set_no s x)) → T (done (s.input_owner x))
  late done [] p x h k d = p.whole (s.input_owner x) (omega (arith, ok.input-owned x h))
  late done (c ∷ l) p x h k d =
      elim
      (add_cases c done (s.input_owner x)
      (late (add c done) l (passes-tail s done c l p) x h k (add-more c done (set_no s x) d))) [
        | inr r ↦ r
        | inl e ↦ absurd (too_early done x h k d (rw e (passes_head s done c l p).1))
      ]

  -- the direct predecessors of a call that is passed are done
  preceded : (done : ℕ → Bool) (c : ℕ) (l : List ℕ) → c < total s → Allows s done (call_of s c)
      → Passes s (add c done) l → (a : ℕ) → a < total s → T (precedes s a c) → T (done a)
  preceded done c l hc al p a ha t = go (view s c hc)
    where
      go : View s c → T (done a)
      go (at-step u h e) =
          let (x, hx, ea, k, o) = before-step s u a h ha (rw e at t) in
          let q : Allows s done (Step u) = (rw (e, is-step s u h) at al) in
          rw ea (q.1 x hx o k)
      go (at_get y h e) =
          let q : Allows s done (Get y) = (rw (e, is_get s y h) at al) in
          elim (before_get s y a h ha (rw e at t)) [
            | inl r ↦ rw r q.0
            | inr (x, hx, ea, f) ↦
                (let (k, hk, ix, oy) = feeds-found s x y f in rw (ea, ← ix) (q.1 k hk oy))
          ]
      go (at_set x h e) =
          let q : Allows s done (Set x) = (rw (e, is_set s x h) at al) in
          elim (before-set s x a h ha (rw e at t)) [
            | inl r ↦ rw r q
            | inr (k, o) ↦
                (let d = late (add c done) l p x h k (rw (← e) (add-self c done)) in
                rw o (elim (add_cases c done (s.input_owner x) d) [
                  | inl z ↦ absurd (omega (arith, ok.input-owned x h))
                  | inr w ↦ w
                ]))
          ]

  passes→follows : (done : ℕ → Bool) (l : List ℕ) → Passes s done l
      → Follows (total s) (precedes s) done l
  passes→follows done [] p = p.whole
  passes→follows done (c ∷ l) p =
      let m = passes_head s done c l p in
      let r = passes-tail s done c l p in
      let h = meets_call s done c m in
      (h, m.0, preceded done c l h m.1 r, passes→follows (add c done) l r)

  -- ---- an order that keeps the rules passes

  -- a delayed input that is set has its unit stepped
  abbrev Timely : (ℕ → Bool) → Type 0
  Timely done =
      (x : ℕ) → x < s.inputs → s.kind x ≡ 0 → T (done (set_no s x)) → T (done (s.input_owner x))

  allowed : (done : ℕ → Bool) (c : ℕ) → c < total s → Timely done → T (not (done c))
      → ((a : ℕ) → a < total s → T (precedes s a c) → T (done a)) → Allows s done (call_of s c)
  allowed done c hc tm nd pre = go (view s c hc)
    where
      go : View s c → Allows s done (call_of s c)
      go (at-step u h e) =
          rw (e, is-step s u h) (
            (λ x hx o k. not_T (done (set_no s x))
                (λ d. clash (done c) (rw (e, ← o) (tm x hx k d)) nd)),
            (λ x hx o k. pre (set_no s x) (omega arith) (rw (e, ← o) (set-step-holds s ok x hx k))),
          )
      go (at_get y h e) =
          rw (e, is_get s y h) (
            pre (s.output_owner y) (omega (arith, ok.output-owned y h))
                (rw e (step_get_holds s ok y h)),
            (λ k hk o. pre (set_no s (s.feed_input k)) (omega (arith, ok.feed-input k hk))
                (fed k hk (e ∙ ap (get_no s) (sym o)))),
          )
        where
          fed : (k : ℕ) → k < s.feeds → c ≡ get_no s (s.feed_output k)
              → T (precedes s (set_no s (s.feed_input k)) c)
          fed k hk q =
              rw q
              (set_get_holds s ok (s.feed_input k) (s.feed_output k) (ok.feed-input k hk)
              (ok.feed-output k hk)
              (found-feeds s k hk))
      go (at_set x h e) =
          rw (e, is_set s x h)
          (pre (get_no s (s.source x)) (omega (arith, ok.sourced x h))
          (rw e (get_set_holds s ok x h)))

  timely_add : (done : ℕ → Bool) (c : ℕ) → Timely done
      → ((a : ℕ) → a < total s → T (precedes s a c) → T (done a)) → Timely (add c done)
  timely_add done c tm pre x h k t =
      add-more c done (s.input_owner x) (elim (add_cases c done (set_no s x) t) [
        | inl e ↦ pre (s.input_owner x) (omega (arith, ok.input-owned x h))
            (rw (← e) (step-set-holds s ok x h k))
        | inr z ↦ tm x h k z
      ])

  follows→passes : (done : ℕ → Bool) (l : List ℕ) → Timely done
      → Follows (total s) (precedes s) done l
      → Passes s done l
  follows→passes done [] tm f = record { meets = λ i h. absurd (omega arith); whole = f }
  follows→passes done (c ∷ l) tm f =
      passes_cons s done c l (f.1, allowed done c f.0 tm f.1 f.2)
      (follows→passes (add c done) l (timely_add done c tm f.2) f.3)

  -- a list passes, place by place, exactly where it keeps the rules: SPECIFICATION, Judging 9
  pub passes_iff : (l : List ℕ) → Passes s none l ↔ Keeps (total s) (precedes s) l
  passes_iff l = (
    (λ p. follows→keeps (total s) (precedes s) l (passes→follows none l p)),
    (λ k. follows→passes none l (λ x h d t. absurd t) (keeps→follows (total s) (precedes s) l k)),
  )
