-- The lowest remaining direct predecessor of each kind of call.
use mathlib.Core.Path.{◌≡◌, sym, subst}
use mathlib.Core.Logic.{inl, inr}
use mathlib.Core.Bool.{Bool, not}
use Prim.Native.Nat.{ℕ, ◌+◌, ◌≤◌, ◌<◌}
use native.Mathlib.Omega.{arith}
use native.Mathlib.Decide.{ℕ_discrete}
use lib.Dec.{T, not_T}
use Rattle.search.specs.Truth.{T_and, and_T, clash}
use Rattle.search.specs.Least.{least_from, lowest-is, lowest-one}
use Rattle.table.specs.Shape.{Shape, total, Wired}
use Rattle.calls.specs.Number.{get_no, set_no}
use Rattle.calls.specs.Precedence.{feeds_to, has_kind, precedes}
use Rattle.calls.proofs.Neighbours.{feeds-found, found-feeds, kind-found, found-kind}
use Rattle.calls.proofs.Neighbours.{step_get_holds, get_set_holds, set_get_holds, set-step-holds}
use Rattle.calls.proofs.Neighbours.{step-set-holds, before-step, before_get, before-set}
use Rattle.orders.specs.Sort.{lacks}
use Rattle.orders.specs.Walk.{lowest_before}
use Rattle.sorter.specs.Keeps.{keeps_step, keeps_get}

module _ (s : Shape) (ok : Wired s) (done : ℕ → Bool) where
  -- what stands at r, with nothing below it, is the lowest
  lowest-at : (c r : ℕ) → r ≤ total s
      → (r < total s → T (precedes s r c) × T (not (done r)))
      → ((a : ℕ) → a < r → T (precedes s a c) → T (not (done a)) → ⊥)
      → r ≡ lowest_before (total s) (precedes s) (done) c
  unfolding lowest_before
  lowest-at c r h p b =
      lowest-one (lacks (precedes s) (done) c) (total s) r
      (least_from (lacks (precedes s) (done) c) (total s) 0)
      (record {
        high = h;
        passes = λ g. let (u, v) = p g in and_T (precedes s r c) (not (done r)) u v;
        below = λ a g. not_T (lacks (precedes s) (done) c a)
            (λ t. let (u, v) = T_and (precedes s a c) (not (done a)) t in b a g u v);
      })
      (lowest-is (lacks (precedes s) (done) c) (total s))

  -- ---- a step
  pub step-lowest : (u x : ℕ) → u < s.units → x ≡ least_from (keeps_step s u done) s.inputs 0
      → set_no s x ≡ lowest_before (total s) (precedes s) (done) u
  unfolding keeps_step
  step-lowest u x hu e =
      let l = lowest-is (keeps_step s u done) s.inputs in
      rw e
      (lowest-at u (set_no s (least_from (keeps_step s u done) s.inputs 0))
      (omega (arith, l.high))
      (λ g.
      let m = least_from (keeps_step s u done) s.inputs 0 in
      let h : m < s.inputs = omega arith in
      let (k, v) = T_and (has_kind s 1 m u) (not (done (set_no s m))) (l.passes h) in
      let (kd, o) = kind-found s 1 m u k in
      (subst (λ w. T (precedes s (set_no s m) w)) o (set-step-holds s ok m h kd), v))
      (λ a g p n.
      let (y, hy, ea, kd, o) = before-step s u a hu (omega (arith, l.high)) p in
      clash (keeps_step s u done y)
      (and_T (has_kind s 1 y u) (not (done (set_no s y))) (found-kind s 1 y u kd o)
      (subst (λ w. T (not (done w))) ea n))
      (l.below y (omega arith))))

  -- ---- a get
  pub get_step : (y : ℕ) → y < s.outputs → T (not (done (s.output_owner y)))
      → s.output_owner y ≡ lowest_before (total s) (precedes s) (done) (get_no s y)
  get_step y h n =
      let o = ok.output-owned y h in
      lowest-at (get_no s y) (s.output_owner y) (omega arith) (λ g. (step_get_holds s ok y h, n))
      (λ a g p m. elim (before_get s y a h (omega arith) p) [
        | inl e ↦ omega arith
        | inr (x, hx, ea, f) ↦ omega arith
      ])

  pub get_lowest : (y x : ℕ) → y < s.outputs → T (done (s.output_owner y))
      → x ≡ least_from (keeps_get s y done) s.inputs 0
      → set_no s x ≡ lowest_before (total s) (precedes s) (done) (get_no s y)
  unfolding keeps_get
  get_lowest y x hy d e =
      let l = lowest-is (keeps_get s y done) s.inputs in
      rw e
      (lowest-at (get_no s y) (set_no s (least_from (keeps_get s y done) s.inputs 0))
      (omega (arith, l.high))
      (λ g.
      let m = least_from (keeps_get s y done) s.inputs 0 in
      let h : m < s.inputs = omega arith in
      let (f, v) = T_and (feeds_to s m y) (not (done (set_no s m))) (l.passes h) in
      (set_get_holds s ok m y h hy f, v))
      (λ a g p n. elim (before_get s y a hy (omega (arith, l.high)) p) [
        | inl q ↦ clash (done (s.output_owner y)) d
            (subst (λ w. T (not (done w))) q n)
        | inr (z, hz, ea, f) ↦
            clash (keeps_get s y done z)
            (and_T (feeds_to s z y) (not (done (set_no s z))) f
            (subst (λ w. T (not (done w))) ea n))
            (l.below z (omega arith))
      ]))

  -- ---- a set
  pub set-step : (x : ℕ) → x < s.inputs → s.kind x ≡ 0 → T (not (done (s.input_owner x)))
      → s.input_owner x ≡ lowest_before (total s) (precedes s) (done) (set_no s x)
  set-step x h k n =
      let o = ok.input-owned x h in
      lowest-at (set_no s x) (s.input_owner x) (omega arith) (λ g. (step-set-holds s ok x h k, n))
      (λ a g p m. elim (before-set s x a h (omega arith) p) [
        | inl e ↦ omega arith
        | inr (z, e) ↦ omega arith
      ])

  pub set-source : (x : ℕ) → x < s.inputs → T (not (done (get_no s (s.source x))))
      → (s.kind x ≡ 0 → T (done (s.input_owner x)))
      → get_no s (s.source x) ≡ lowest_before (total s) (precedes s) (done) (set_no s x)
  set-source x h n d =
      let o = ok.sourced x h in
      lowest-at (set_no s x) (get_no s (s.source x)) (omega arith)
      (λ g. (get_set_holds s ok x h, n))
      (λ a g p m. elim (before-set s x a h (omega arith) p) [
        | inl e ↦ omega arith
        | inr (z, e) ↦ clash (done (s.input_owner x)) (d z)
            (subst (λ w. T (not (done w))) e m)
      ])

-- ---- the lowest of the feeding inputs, feed by feed
module _ (s : Shape) (y : ℕ) (done : ℕ → Bool) where
  -- the lowest among the first k feeds
  pub record Best (k best : ℕ) : Type 0 where
    pub high : best ≤ s.inputs
    pub passes : best < s.inputs → T (keeps_get s y done best)
    pub below : (j : ℕ) → j < k → s.feed_output j ≡ y
        → T (not (done (set_no s (s.feed_input j))))
        → best ≤ s.feed_input j

  pub best_starts : Best 0 s.inputs
  best_starts = record {
    high = omega arith;
    passes = λ h. absurd (omega arith);
    below = λ j h e t. absurd (omega arith);
  }

  -- feed k is of this output, and lower
  pub best_lower : (k best : ℕ) → k < s.feeds → s.feed_output k ≡ y
      → T (not (done (set_no s (s.feed_input k))))
      → s.feed_input k < best → Best k best → Best (k + 1) (s.feed_input k)
  unfolding keeps_get
  best_lower k best h o m less b = record {
    high = omega (arith, b.high);
    passes = λ g. and_T (feeds_to s (s.feed_input k) y) (not (done (set_no s (s.feed_input k))))
        (subst (λ z. T (feeds_to s (s.feed_input k) z)) o (found-feeds s k h)) m;
    below = λ j g e n. elim (ℕ_discrete j k) [
      | yes p ↦ rw p (omega arith)
      | no p ↦ omega (arith, b.below j (omega arith) e n)
    ];
  }

  -- feed k is of another output, or its set is done, or it is no lower
  pub best_stays : (k best : ℕ)
      → (s.feed_output k ≡ y → T (not (done (set_no s (s.feed_input k)))) → best ≤ s.feed_input k)
      → Best k best → Best (k + 1) best
  best_stays k best no_lower b = record {
    high = b.high;
    passes = b.passes;
    below = λ j g e n. elim (ℕ_discrete j k) [
      | no p ↦ b.below j (omega arith) e n
      | yes p ↦ rw p (no_lower (rw (← p) e) (rw (← p) n))
    ];
  }

  pub best_ends : (best : ℕ) → Best s.feeds best
      → best ≡ least_from (keeps_get s y done) s.inputs 0
  unfolding keeps_get
  best_ends best b =
      lowest-one (keeps_get s y done) s.inputs best
      (least_from (keeps_get s y done) s.inputs 0)
      (record {
        high = b.high;
        passes = b.passes;
        below = λ i g. not_T (keeps_get s y done i)
            (λ t.
            let (f, m) = T_and (feeds_to s i y) (not (done (set_no s i))) t in
            let (k, hk, p, q) = feeds-found s i y f in
            omega (
              arith,
              b.below k hk q
                  (subst (λ z. T (not (done (set_no s z)))) (sym p) m),
            ));
      })
      (lowest-is (keeps_get s y done) s.inputs)
