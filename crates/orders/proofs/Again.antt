-- Request 07: where no call is ready and one remains, the walk meets one again: a cycle.
use Rattle.std.specs.Prelude.{◌≡◌, refl, Bool, not, T, eqb, length, get_or}
use Rattle.std.proofs.Math.Path.{sym, ap}
use Rattle.std.proofs.Common.{◌∙◌, inl, inr, eqb→eq, length-take-le, get_or-take}
use Prim.Native.Nat.{ℕ, zero, suc, ◌+◌, ◌-◌, ◌<◌}
use native.Mathlib.Omega.{arith}
use Rattle.std.proofs.Math.Decide.{ℕ_discrete, dec_lt}
use Rattle.std.proofs.Math.Dec.{eqb_refl, not_T}
use Rattle.std.proofs.Math.ListN.{take}
use Rattle.search.specs.Truth.{T_or, or_left, or_right, either, clash}
use Rattle.search.specs.Count.{count, count-le, count_none, count_add}
use Rattle.orders.specs.Cycle.{Cycle}
use Rattle.orders.specs.Sort.{ready, placed}
use Rattle.orders.specs.Walk.{among, upto, lowest_left, walk, met}
use Rattle.orders.proofs.Walked.{Stuck, lowest-left, back, walk-met, walk_on, upto_take}
use Rattle.orders.specs.Meets.{visit, MeetsAgain, seen}
use Rattle.orders.proofs.Remains.{none-ready, placed-stuck, left_one}
use Rattle.orders.specs.Turned.{Once}

module _ (N : ℕ) (pred : ℕ → ℕ → Bool) (done : ℕ → Bool) where
  -- ---- the calls of the first visits
  seen-long : (k : ℕ) → length (seen N pred done k) ≡ k
  seen-long zero = refl
  seen-long (suc k) = ap suc (seen-long k)

  seen_at : (k i j : ℕ) → suc (i + j) ≡ k → get_or (seen N pred done k) i 0 ≡ visit N pred done j
  seen_at zero i j e = absurd (omega arith)
  seen_at (suc k) zero j e = ap (visit N pred done) (omega arith)
  seen_at (suc k) (suc i) j e = seen_at k i j (omega arith)

  seen-has : (k i : ℕ) → i < k → T (among (seen N pred done k) (visit N pred done i))
  seen-has zero i h = absurd (omega arith)
  seen-has (suc k) i h =
      let v = visit N pred done in
      elim (ℕ_discrete i k) [
        | yes e ↦ or_left (eqb (v i) (v k)) (among (seen N pred done k) (v i))
            (rw e (eqb_refl (v k)))
        | no n ↦ or_right (eqb (v i) (v k)) (among (seen N pred done k) (v i))
            (seen-has k i (omega arith))
      ]

  seen_by : (k c : ℕ) → T (among (seen N pred done k) c)
      → (i : ℕ) × (i < k) × (visit N pred done i ≡ c)
  seen_by zero c t = absurd t
  seen_by (suc k) c t = elim (T_or (eqb c (visit N pred done k)) (among (seen N pred done k) c) t) [
    | inl e ↦ (k, omega arith, sym (eqb→eq c (visit N pred done k) e))
    | inr m ↦ (let (i, h, e) = seen_by k c m in (i, omega arith, e))
  ]

  -- ---- all that remain wait for one another, and some do
  module _ (stuck : Stuck N pred done) (some : lowest_left N pred done < N)
      (waits : T (not (done (lowest_left N pred done)))) where
    stays : (i : ℕ) → (visit N pred done i < N) × T (not (done (visit N pred done i)))
    unfolding visit
    stays zero = (some, waits)
    stays (suc i) =
        let (h, t) = stays i in
        let (p, u, v) = back N pred done stuck (visit N pred done i) h t in
        (p, v)

    goes : (i : ℕ) → T (pred (visit N pred done (suc i)) (visit N pred done i))
    unfolding visit
    goes i = let (h, t) = stays i in (back N pred done stuck (visit N pred done i) h t).1

    -- there are N calls, so that among N + 1 visits two are to one call
    meets : (n k : ℕ) → n + k ≡ suc N → count (among (seen N pred done k)) N ≡ k
        → ((i j : ℕ) → i < j → j < k → visit N pred done i ≡ visit N pred done j → ⊥)
        → MeetsAgain N pred done
    meets zero k e c new = absurd (omega (arith, count-le (among (seen N pred done k)) N))
    meets (suc n) k e c new = elim (either (among (seen N pred done k) (visit N pred done k))) [
      | inl t ↦
          (let (i, h, same) = seen_by k (visit N pred done k) t in
          record {
            first = i;
            again = k;
            later = h;
            soon = omega (arith, count-le (among (seen N pred done k)) N);
            same = sym same;
            new = new;
            call = λ i h. (stays i).0;
            left = λ i h. (stays i).1;
            back = λ i h. goes i;
          })
      | inr t ↦
          meets n (suc k) (omega arith)
          (count_add (among (seen N pred done k)) (visit N pred done k) N (stays k).0 t ∙ ap suc c)
          (λ i j h l same. elim (ℕ_discrete j k) [
            | yes z ↦
                clash (among (seen N pred done k) (visit N pred done k))
                (rw (← (same ∙ ap (visit N pred done) z)) (seen-has k i (omega arith))) t
            | no z ↦ new i j h (omega arith) same
          ])
    ]

    pub stuck-meets : MeetsAgain N pred done
    stuck-meets =
        meets (suc N) 0 (omega arith) (count_none (among (seen N pred done 0)) N (λ i h. tt))
        (λ i j h l. absurd (omega arith))

  -- ---- what the walk lists is what it visits from the call met again on
  module _ (m : MeetsAgain N pred done) where
    walk_visits : (d k n : ℕ) → k + d ≡ m.again → n + k ≡ suc N
        → walk N pred done n (seen N pred done k) (visit N pred done k)
        ≡ upto (visit N pred done m.again) (seen N pred done m.again)
    unfolding visit
    walk_visits d k zero e f = absurd (omega (arith, m.soon))
    walk_visits zero k (suc n) e f =
        let z : k ≡ m.again = omega arith in
        rw z
        (walk-met N pred done n (seen N pred done m.again) (visit N pred done m.again)
        (rw m.same (seen-has m.again m.first m.later)))
    walk_visits (suc d) k (suc n) e f =
        walk_on N pred done n (seen N pred done k) (visit N pred done k)
        (not_T (among (seen N pred done k) (visit N pred done k))
        (λ t. let (i, h, same) = seen_by k (visit N pred done k) t in
        m.new i k h (omega arith) same))
        ∙ walk_visits d (suc k) n (omega arith) (omega arith)

    pub met_visits : met N pred done ≡ take (m.again - m.first) (seen N pred done m.again)
    unfolding met visit
    met_visits =
        let size = m.again - m.first in
        let e : suc (size - 1) ≡ size = omega (arith, m.later) in
        walk_visits m.again 0 (suc N) (omega arith) (omega arith)
        ∙ upto_take (seen N pred done m.again) (visit N pred done m.again) (size - 1)
        (omega (arith, seen-long m.again, m.later))
        (seen_at m.again (size - 1) m.first (omega (arith, m.later)) ∙ sym m.same)
        (λ i h same. m.new m.first (m.again - suc i) (omega (arith, m.later))
        (omega (arith, m.later))
        (sym m.same ∙ sym same
        ∙ seen_at m.again i (m.again - suc i) (omega (arith, m.later))))
        ∙ ap (λ n. take n (seen N pred done m.again)) e

    -- how many calls it lists
    abbrev size : ℕ
    size = m.again - m.first

    long : length (take size (seen N pred done m.again)) ≡ size
    long = length-take-le size (seen N pred done m.again) (omega (arith, seen-long m.again))

    at : (i j : ℕ) → suc (i + j) ≡ m.again → i < size
        → get_or (take size (seen N pred done m.again)) i 0 ≡ visit N pred done j
    at i j e h = get_or-take size (seen N pred done m.again) i 0 h ∙ seen_at m.again i j e

    -- the call met again comes directly before the last one visited
    closes : (j : ℕ) → suc j ≡ m.again
        → T (pred (visit N pred done m.first) (visit N pred done j))
    closes j e = rw (← m.same, ← e) (m.back j (omega arith))

    listed-cycle : Cycle N pred (take size (seen N pred done m.again))
    listed-cycle = record {
      any = omega (arith, long, m.later);
      calls = λ i h.
          rw (at i (m.again - suc i) (omega (arith, long)) (omega (arith, long)))
          (m.call (m.again - suc i) (omega arith));
      next = λ i h.
          let j = m.again - suc (suc i) in
          rw (
            at i (suc j) (omega (arith, long)) (omega (arith, long)),
            at (suc i) j (omega (arith, long)) (omega (arith, long)),
          )
          (m.back j (omega (arith, long)));
      last =
          rw (
            long,
            at (size - 1) m.first (omega (arith, m.later)) (omega (arith, m.later)),
            at 0 (m.again - 1) (omega (arith, m.later)) (omega (arith, m.later)),
          )
          (closes (m.again - 1) (omega (arith, m.later)));
    }

    listed-once : Once (take size (seen N pred done m.again))
    listed-once i j hi hj e =
        let a = m.again - suc i in
        let b = m.again - suc j in
        let same : visit N pred done a ≡ visit N pred done b =
        sym (at i a (omega (arith, long)) (omega (arith, long))) ∙ e
        ∙ at j b (omega (arith, long)) (omega (arith, long)) in
        elim (dec_lt a b) [
          | yes h ↦ absurd (m.new a b h (omega (arith, long)) same)
          | no h ↦ elim (dec_lt b a) [
            | yes g ↦ absurd (m.new b a g (omega (arith, long)) (sym same))
            | no g ↦ omega (arith, long)
          ]
        ]

    pub met-cycle : Cycle N pred (met N pred done)
    met-cycle = rw met_visits listed-cycle

    pub met-once : Once (met N pred done)
    met-once = rw met_visits listed-once

-- ---- the request's theorem
module _ (N : ℕ) (pred : ℕ → ℕ → Bool) where
  -- whenever no call is ready and one remains, the walk from the lowest one meets a call again
  pub walk_meets : (done : ℕ → Bool) → ((c : ℕ) → c < N → T (not (ready N pred done c)))
      → (c : ℕ) → c < N → T (not (done c)) → MeetsAgain N pred done
  walk_meets done none c h t =
      let (p, u) = lowest-left N pred done c h t in
      stuck-meets N pred done (none-ready N pred done none) p u

  -- so it does where placing stops early
  pub placed-meets : length (placed N pred) < N → MeetsAgain N pred (among (placed N pred))
  placed-meets h =
      let (c, l, t) = left_one N pred h in
      let (p, u) = lowest-left N pred (among (placed N pred)) c l t in
      stuck-meets N pred (among (placed N pred)) (placed-stuck N pred h) p u
