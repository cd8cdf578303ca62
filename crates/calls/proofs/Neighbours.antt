-- The declared relation and the test say the same; the direct predecessors of each kind of call.
use Rattle.std.specs.Prelude.{◌≡◌, refl, ◌⊎◌, ◌↔◌, not, ◌&&◌, ℕ, ◌<◌}
use Rattle.std.proofs.Math.Path.{sym, ap}
use Rattle.std.proofs.Common.{◌∙◌, arith}
use Rattle.std.proofs.Math.Logic.{inl, inr}
use Rattle.std.proofs.Math.Decide.{dec_lt}
use Rattle.std.proofs.Math.Dec.{T, eqb, eqb→eq, eqb_refl}
use Rattle.search.specs.Truth.{T_and, and_T, eq_true}
use Rattle.search.specs.Every.{some-found, found_some}
use Rattle.table.specs.Shape.{Shape, total, Wired}
use Rattle.calls.specs.declared.Call.{Call}
use Rattle.calls.specs.declared.Call.TheVariants.{Step, Get, Set, NoCall}
use Rattle.calls.specs.Number.{call_of, get_no, set_no}
use Rattle.calls.specs.Precedence.{Precedes, step_get, get_set, set_get, set-step}
use Rattle.calls.specs.Precedence.{step_set, feeds_to, has_kind, by_kind, before, precedes}
use Rattle.calls.specs.Numbers.{is-step, is_get, is_set, is_none}
use Rattle.calls.specs.Numbers.{View, at-step, at_get, at_set, view}

-- ---- the tests as facts

module _ (s : Shape) where
  pub feeds-found : (x y : ℕ) → T (feeds_to s x y)
      → (k : ℕ) × (k < s.feeds) × (s.feed_input k ≡ x) × (s.feed_output k ≡ y)
  unfolding feeds_to
  feeds-found x y t =
      let (k, h, p) =
      some-found (λ k. eqb (s.feed_input k) x && eqb (s.feed_output k) y) s.feeds t in
      let (a, b) = T_and (eqb (s.feed_input k) x) (eqb (s.feed_output k) y) p in
      (k, h, eqb→eq (s.feed_input k) x a, eqb→eq (s.feed_output k) y b)

  pub found-feeds : (k : ℕ) → k < s.feeds → T (feeds_to s (s.feed_input k) (s.feed_output k))
  unfolding feeds_to
  found-feeds k h =
      found_some
      (λ j. eqb (s.feed_input j) (s.feed_input k) && eqb (s.feed_output j) (s.feed_output k))
      s.feeds k h
      (and_T (eqb (s.feed_input k) (s.feed_input k)) (eqb (s.feed_output k) (s.feed_output k))
      (eqb_refl (s.feed_input k)) (eqb_refl (s.feed_output k)))

  pub kind-found : (n x u : ℕ) → T (has_kind s n x u) → (s.kind x ≡ n) × (s.input_owner x ≡ u)
  unfolding has_kind
  kind-found n x u t =
      let (a, b) = T_and (eqb (s.kind x) n) (eqb (s.input_owner x) u) t in
      (eqb→eq (s.kind x) n a, eqb→eq (s.input_owner x) u b)

  pub found-kind : (n x u : ℕ) → s.kind x ≡ n → s.input_owner x ≡ u → T (has_kind s n x u)
  unfolding has_kind
  found-kind n x u a b =
      and_T (eqb (s.kind x) n) (eqb (s.input_owner x) u)
      (eq_true (s.kind x) n a) (eq_true (s.input_owner x) u b)

-- ---- each rule holds of the test

module _ (s : Shape) (ok : Wired s) where
  pub step_get_holds : (y : ℕ) → y < s.outputs → T (precedes s (s.output_owner y) (get_no s y))
  unfolding precedes before by_kind
  step_get_holds y h =
      rw (is-step s (s.output_owner y) (ok.output-owned y h), is_get s y h)
      (eqb_refl (s.output_owner y))

  pub get_set_holds : (x : ℕ) → x < s.inputs → T (precedes s (get_no s (s.source x)) (set_no s x))
  unfolding precedes before by_kind
  get_set_holds x h =
      rw (is_get s (s.source x) (ok.sourced x h), is_set s x h) (eqb_refl (s.source x))

  pub set_get_holds : (x y : ℕ) → x < s.inputs → y < s.outputs → T (feeds_to s x y)
      → T (precedes s (set_no s x) (get_no s y))
  unfolding precedes before by_kind
  set_get_holds x y h g t = rw (is_set s x h, is_get s y g) t

  pub set-step-holds : (x : ℕ) → x < s.inputs → s.kind x ≡ 1
      → T (precedes s (set_no s x) (s.input_owner x))
  unfolding precedes before by_kind
  set-step-holds x h e =
      rw (is_set s x h, is-step s (s.input_owner x) (ok.input-owned x h))
      (found-kind s 1 x (s.input_owner x) e refl)

  pub step-set-holds : (x : ℕ) → x < s.inputs → s.kind x ≡ 0
      → T (precedes s (s.input_owner x) (set_no s x))
  unfolding precedes before by_kind
  step-set-holds x h e =
      rw (is-step s (s.input_owner x) (ok.input-owned x h), is_set s x h)
      (found-kind s 0 x (s.input_owner x) e refl)

-- ---- the direct predecessors of each kind of call

module _ (s : Shape) where
  -- of a step: the sets of its unit's reactive inputs
  pub before-step : (u a : ℕ) → u < s.units → a < total s → T (precedes s a u)
      → (x : ℕ) × (x < s.inputs) × (a ≡ set_no s x) × (s.kind x ≡ 1) × (s.input_owner x ≡ u)
  unfolding precedes before by_kind
  before-step u a hu ha t = go (view s a ha) (rw (is-step s u hu) at t)
    where
      go : View s a → T (before s (call_of s a) (Step u))
          → (x : ℕ) × (x < s.inputs) × (a ≡ set_no s x) × (s.kind x ≡ 1) × (s.input_owner x ≡ u)
      go (at-step v h e) r = absurd (rw (e, is-step s v h) at r)
      go (at_get y h e) r = absurd (rw (e, is_get s y h) at r)
      go (at_set x h e) r =
          let (k, o) = kind-found s 1 x u (rw (e, is_set s x h) at r) in (x, h, e, k, o)

  -- of a get: its unit's step, and the sets of the inputs that feed it
  pub before_get : (y a : ℕ) → y < s.outputs → a < total s → T (precedes s a (get_no s y))
      → (a ≡ s.output_owner y) ⊎ ((x : ℕ) × (x < s.inputs) × (a ≡ set_no s x) × T (feeds_to s x y))
  unfolding precedes before by_kind
  before_get y a hy ha t = go (view s a ha) (rw (is_get s y hy) at t)
    where
      go : View s a → T (before s (call_of s a) (Get y))
          → (a ≡ s.output_owner y) ⊎
          ((x : ℕ) × (x < s.inputs) × (a ≡ set_no s x) × T (feeds_to s x y))
      go (at-step v h e) r =
          inl (e ∙ sym (eqb→eq (s.output_owner y) v (rw (e, is-step s v h) at r)))
      go (at_get z h e) r = absurd (rw (e, is_get s z h) at r)
      go (at_set x h e) r = inr (x, h, e, (rw (e, is_set s x h) at r))

  -- of a set: its source's get, and the step of its unit where it is delayed
  pub before-set : (x a : ℕ) → x < s.inputs → a < total s → T (precedes s a (set_no s x))
      → (a ≡ get_no s (s.source x)) ⊎ ((s.kind x ≡ 0) × (a ≡ s.input_owner x))
  unfolding precedes before by_kind
  before-set x a hx ha t = go (view s a ha) (rw (is_set s x hx) at t)
    where
      go : View s a → T (before s (call_of s a) (Set x))
          → (a ≡ get_no s (s.source x)) ⊎ ((s.kind x ≡ 0) × (a ≡ s.input_owner x))
      go (at-step v h e) r =
          let (k, o) = kind-found s 0 x v (rw (e, is-step s v h) at r) in inr (k, e ∙ sym o)
      go (at_get z h e) r =
          inl (e ∙ ap (get_no s) (sym (eqb→eq (s.source x) z (rw (e, is_get s z h) at r))))
      go (at_set z h e) r = absurd (rw (e, is_set s z h) at r)

  -- what is no call comes before nothing, and nothing before it
  pub calls-only : (a b : ℕ) → T (precedes s a b) → (a < total s) × (b < total s)
  unfolding precedes before by_kind
  calls-only a b t = (first (dec_lt a (total s)), second (dec_lt b (total s)))
    where
      first : Dec (a < total s) → a < total s
      first (yes h) = h
      first (no h) = absurd (rw (is_none s a (omega arith)) at t)

      never : (c : Call) → T (before s c NoCall) → ⊥
      never (Step u) r = r
      never (Get y) r = r
      never (Set x) r = r
      never NoCall r = r

      second : Dec (b < total s) → b < total s
      second (yes h) = h
      second (no h) = absurd (never (call_of s a) (rw (is_none s b (omega arith)) at t))

-- ---- the test says what is declared

module _ (s : Shape) (ok : Wired s) where
  declared : (a b : ℕ) → T (precedes s a b) → Precedes s a b
  declared a b t = let (ha, hb) = calls-only s a b t in go ha (view s b hb)
    where
      go : a < total s → View s b → Precedes s a b
      go ha (at-step u h e) =
          let (x, hx, ea, k, o) = before-step s u a h ha (rw e at t) in
          set-step x hx k ea (e ∙ sym o)
      go ha (at_get y h e) = elim (before_get s y a h ha (rw e at t)) [
        | inl r ↦ step_get y h r e
        | inr (x, hx, ea, f) ↦
            (let (k, hk, p, q) = feeds-found s x y f in
            set_get k hk (ea ∙ ap (set_no s) (sym p)) (e ∙ ap (get_no s) (sym q)))
      ]
      go ha (at_set x h e) = elim (before-set s x a h ha (rw e at t)) [
        | inl r ↦ get_set x h r e
        | inr (k, o) ↦ step_set x h k o e
      ]

  tested : (a b : ℕ) → Precedes s a b → T (precedes s a b)
  tested a b (step_get y h p q) = rw (p, q) (step_get_holds s ok y h)
  tested a b (get_set x h p q) = rw (p, q) (get_set_holds s ok x h)
  tested a b (set_get k h p q) =
      rw (p, q)
      (set_get_holds s ok (s.feed_input k) (s.feed_output k) (ok.feed-input k h)
      (ok.feed-output k h)
      (found-feeds s k h))
  tested a b (set-step x h k p q) = rw (p, q) (set-step-holds s ok x h k)
  tested a b (step_set x h k p q) = rw (p, q) (step-set-holds s ok x h k)

  pub precedes_iff : (a b : ℕ) → Precedes s a b ↔ T (precedes s a b)
  precedes_iff a b = (tested a b, declared a b)

-- no call comes before itself
pub not-self : (s : Shape) (c : ℕ) → T (not (precedes s c c))
unfolding precedes before by_kind
not-self s c = go (call_of s c)
  where
    go : (k : Call) → T (not (before s k k))
    go (Step u) = tt
    go (Get y) = tt
    go (Set x) = tt
    go NoCall = tt
