-- What is placed has all before it placed; so a step remains where a set before it does.
use mathlib.Core.Path.{◌≡◌, refl, subst, fun_ext}
use mathlib.Core.Logic.{inl, inr}
use mathlib.Core.Bool.{Bool, true, false, not, ◌||◌}
use mathlib.Core.List.{List}
use Prim.Native.Nat.{ℕ, zero, suc, ◌<◌}
use native.Mathlib.Omega.{arith}
use native.Mathlib.Decide.{dec_lt}
use lib.Dec.{T, eqb, ltb}
use lib.ListN.{length}
use borrow.Author.Tests.{lt-ltb, le-ltb}
use Rattle.search.specs.Truth.{T_and, and_T, either, clash}
use Rattle.search.specs.Truth.{is_true, is_false}
use Rattle.search.specs.Sets.{none, add, add_cases, add-more}
use Rattle.search.specs.Least.{least_from, Lowest, lowest-is}
use Rattle.table.specs.Shape.{Shape}
use Rattle.table.specs.Packed.{inputs, units, shape_of}
use Rattle.table.specs.Sound.{Sound}
use Rattle.calls.specs.Number.{get_no, set_no}
use Rattle.calls.specs.Precedence.{has_kind, precedes}
use Rattle.calls.proofs.Neighbours.{calls-only, kind-found, found-kind, set-step-holds}
use Rattle.calls.proofs.Neighbours.{before-step, before-set}
use Rattle.orders.specs.Sort.{next_call, sort, placed}
use Rattle.orders.proofs.Sorted.{next-is, sort-step, sort-stop, sort-none}
use Rattle.orders.specs.Walk.{among, lowest_before}
use Rattle.orders.proofs.Walked.{Stuck}
use Rattle.orders.proofs.Remains.{placed-stuck}
use Rattle.placing.specs.Placing.{call_count, placed_of}
use Rattle.sorter.specs.Keeps.{keeps_step}
use Rattle.sorter.proofs.Before.{set-source}

module _ (N : ℕ) (pred : ℕ → ℕ → Bool) (inside : (a c : ℕ) → T (pred a c) → a < N) where
  -- what is done has all before it done
  abbrev Closed : (ℕ → Bool) → Type 0
  Closed done = (a c : ℕ) → T (done c) → T (pred a c) → T (done a)

  closed-more : (done : ℕ → Bool) → next_call N pred done < N → Closed done
      → Closed (add (next_call N pred done) done)
  closed-more done h k a c t p =
      let next = next_call N pred done in
      add-more next done a
      (elim (add_cases next done c t) [
        | inl e ↦
            ((next-is N pred done).is h).1 a (inside a c p) (subst (λ x. T (pred a x)) e p)
        | inr d ↦ k a c d p
      ])

  sort-closed : (n : ℕ) (done : ℕ → Bool) → Closed done
      → Closed (λ x. among (sort N pred n done) x || done x)
  sort-closed zero done k = rw (sort-none N pred done) k
  sort-closed (suc n) done k = elim (dec_lt (next_call N pred done) N) [
    | no p ↦ rw (sort-stop N pred (suc n) done (omega arith)) k
    | yes p ↦
        (let c = next_call N pred done in
        rw (sort-step N pred n done p)
        (subst Closed
        (fun_ext (λ x. moved (eqb x c) (among (sort N pred n (add c done)) x) (done x)))
        (sort-closed n (add c done) (closed-more done p k))))
  ]
    where
      moved : (p q r : Bool) → (q || (p || r)) ≡ ((p || q) || r)
      moved true true r = refl
      moved true false r = refl
      moved false q r = refl

  placed-closed : Closed (among (placed N pred))
  unfolding placed
  placed-closed =
      subst Closed (fun_ext (λ x. alone (among (sort N pred N none) x)))
      (sort-closed N none (λ a c t. absurd t))
    where
      alone : (p : Bool) → (p || false) ≡ p
      alone true = refl
      alone false = refl

-- ---- where placing has stopped
module _ (t : List ℕ) (ok : Sound t) (early : length (placed_of t) < call_count t) where
  abbrev s : Shape
  s = shape_of t

  closed : (a c : ℕ) → T (among (placed_of t) c) → T (precedes (shape_of t) a c)
      → T (among (placed_of t) a)
  unfolding placed_of
  closed =
      placed-closed (call_count t) (precedes (shape_of t))
      (λ a c p. (calls-only (shape_of t) a c p).0)

  stuck : Stuck (call_count t) (precedes (shape_of t)) (among (placed_of t))
  unfolding placed_of
  stuck = placed-stuck (call_count t) (precedes (shape_of t)) early

  -- a step remains exactly where a set that it waits for does
  pub step_left : (u x : ℕ) → u < units t
      → x ≡ least_from (keeps_step (shape_of t) u (among (placed_of t))) (inputs t) 0
      → ltb x (inputs t) ≡ not (among (placed_of t) u)
  unfolding keeps_step
  step_left u x h e = elim (either (among (placed_of t) u)) [
    | inl d ↦
        rw (is_true (among (placed_of t) u) d)
        (elim (dec_lt x (inputs t)) [
          | no p ↦ le-ltb x (inputs t) (omega arith)
          | yes p ↦
              (let (k, v) =
              T_and (has_kind s 1 x u) (not (among (placed_of t) (set_no s x)))
              (rw e (low.passes (rw (← e) p))) in
              let (kd, o) = kind-found s 1 x u k in
              absurd
              (clash (among (placed_of t) (set_no s x))
              (closed (set_no s x) u d
              (subst (λ w. T (precedes s (set_no s x) w)) o (set-step-holds s ok.wired x p kd)))
              v))
        ])
    | inr n ↦
        rw (is_false (among (placed_of t) u) n)
        (elim (dec_lt x (inputs t)) [
          | yes p ↦ lt-ltb x (inputs t) p
          | no p ↦
              (let (a, ha, q, m) = stuck u (omega arith) n in
              let (y, hy, ea, kd, o) = before-step s u a h ha q in
              absurd
              (clash (keeps_step s u (among (placed_of t)) y)
              (and_T (has_kind s 1 y u) (not (among (placed_of t) (set_no s y)))
              (found-kind s 1 y u kd o)
              (subst (λ w. T (not (among (placed_of t) w))) ea m))
              (low.below y (omega (arith, e)))))
        ])
  ]
    where
      low : Lowest (keeps_step s u (among (placed_of t))) (inputs t)
          (least_from (keeps_step s u (among (placed_of t))) (inputs t) 0)
      low = lowest-is (keeps_step s u (among (placed_of t))) (inputs t)

  -- the source of a set that remains does so too, where no step keeps the set waiting
  pub source-left : (x : ℕ) → x < inputs t → T (not (among (placed_of t) (set_no s x)))
      → (s.kind x ≡ 0 → T (among (placed_of t) (s.input_owner x)))
      → get_no s (s.source x)
      ≡ lowest_before (call_count t) (precedes s) (among (placed_of t)) (set_no s x)
  source-left x h n d =
      let (a, ha, q, m) = stuck (set_no s x) (omega arith) n in
      let remains : T (not (among (placed_of t) (get_no s (s.source x)))) =
      elim (before-set s x a h ha q) [
        | inl e ↦ subst (λ w. T (not (among (placed_of t) w))) e m
        | inr (z, e) ↦
            absurd
            (clash (among (placed_of t) (s.input_owner x)) (d z)
            (subst (λ w. T (not (among (placed_of t) w))) e m))
      ] in
      set-source s ok.wired (among (placed_of t)) x h remains d
