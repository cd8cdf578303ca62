-- A call is answered 0 exactly where its conditions hold.
use Rattle.std.specs.Prelude.{◌≡◌, ◌↔◌, Bool, true, false, ◌&&◌, ℕ, ◌<◌, T}
use Rattle.std.proofs.Common.{sym, ap, ◌∙◌, true≢false, arith, eqb→eq}
use Rattle.std.proofs.Math.Bool.{not}
use Rattle.std.proofs.Math.Decide.{dec_lt}
use Rattle.std.proofs.Math.Dec.{eqb, not_T}
use Rattle.search.specs.Truth.{is_true, is_false, eq_true}
use Rattle.search.specs.Every.{some, found_some, some_no}
use Rattle.table.specs.Shape.{Shape, total}
use Rattle.table.specs.Chain.{refuse_on, refuse_0}
use Rattle.calls.specs.declared.Call.{Call}
use Rattle.calls.specs.declared.Call.TheVariants.{Step, Get, Set, NoCall}
use Rattle.calls.specs.Number.{call_of, get_no, set_no}
use Rattle.calls.specs.Numbers.{is_none}
use Rattle.calls.specs.Precedence.{has_kind}
use Rattle.calls.proofs.Neighbours.{kind-found, found-kind}
use Rattle.judging.specs.Conditions.{early, unset, unstepped, unfed}
use Rattle.judging.specs.Conditions.{ungot, refusal_of, refusal_at}
use Rattle.judging.specs.Passes.{Allows, Meets}

-- ---- a fault that is not there

none_of : (q : ℕ → Bool) (n : ℕ) → some q n ≡ false → (i : ℕ) → i < n → T (not (q i))
none_of q n e i h = not_T (q i) (λ t. (rw e at (found_some q n i h t)))

of_none : (q : ℕ → Bool) (n : ℕ) → ((i : ℕ) → i < n → T (not (q i))) → some q n ≡ false
of_none q n h = sym (some_no q n n (omega arith) h)

second : (a b : Bool) → T a → T (not (a && b)) → T (not b)
second true b t n = n
second false b t n = absurd t

neither : (a b : Bool) → (T a → T (not b)) → T (not (a && b))
neither true b f = f tt
neither false b f = tt

is_set : (b : Bool) → T (not (not b)) → T b
is_set true t = tt
is_set false t = t

is-not : (b : Bool) → T b → T (not (not b))
is-not true t = tt
is-not false t = t

module _ (s : Shape) (done : ℕ → Bool) where
  -- ---- each fault against the condition that it breaks

  early_no : (u : ℕ) → early s done u ≡ false → (x : ℕ) → x < s.inputs → s.input_owner x ≡ u
      → s.kind x ≡ 0
      → T (not (done (set_no s x)))
  unfolding early
  early_no u e x h o k =
      second (has_kind s 0 x u) (done (set_no s x)) (found-kind s 0 x u k o)
      (none_of (λ x. has_kind s 0 x u && done (set_no s x)) s.inputs e x h)

  unset_no : (u : ℕ) → unset s done u ≡ false → (x : ℕ) → x < s.inputs → s.input_owner x ≡ u
      → s.kind x ≡ 1
      → T (done (set_no s x))
  unfolding unset
  unset_no u e x h o k =
      is_set (done (set_no s x))
      (second (has_kind s 1 x u) (not (done (set_no s x))) (found-kind s 1 x u k o)
      (none_of (λ x. has_kind s 1 x u && not (done (set_no s x))) s.inputs e x h))

  no_early : (u : ℕ) → Allows s done (Step u) → early s done u ≡ false
  unfolding early
  no_early u (a, b) =
      of_none (λ x. has_kind s 0 x u && done (set_no s x)) s.inputs
      (λ x h. neither (has_kind s 0 x u) (done (set_no s x))
      (λ t. let (k, o) = kind-found s 0 x u t in a x h o k))

  no_unset : (u : ℕ) → Allows s done (Step u) → unset s done u ≡ false
  unfolding unset
  no_unset u (a, b) =
      of_none (λ x. has_kind s 1 x u && not (done (set_no s x))) s.inputs
      (λ x h. neither (has_kind s 1 x u) (not (done (set_no s x)))
      (λ t. let (k, o) = kind-found s 1 x u t in is-not (done (set_no s x)) (b x h o k)))

  unfed_no : (y : ℕ) → unfed s done y ≡ false → (k : ℕ) → k < s.feeds → s.feed_output k ≡ y
      → T (done (set_no s (s.feed_input k)))
  unfolding unfed
  unfed_no y e k h o =
      is_set (done (set_no s (s.feed_input k)))
      (second (eqb (s.feed_output k) y) (not (done (set_no s (s.feed_input k))))
      (eq_true (s.feed_output k) y o)
      (none_of (λ k. eqb (s.feed_output k) y && not (done (set_no s (s.feed_input k))))
      s.feeds e k h))

  no_unfed : (y : ℕ) → Allows s done (Get y) → unfed s done y ≡ false
  unfolding unfed
  no_unfed y (a, b) =
      of_none (λ k. eqb (s.feed_output k) y && not (done (set_no s (s.feed_input k)))) s.feeds
      (λ k h. neither (eqb (s.feed_output k) y) (not (done (set_no s (s.feed_input k))))
      (λ t. is-not (done (set_no s (s.feed_input k))) (b k h (eqb→eq (s.feed_output k) y t))))

  undone_no : (b : Bool) → not b ≡ false → T b
  undone_no true e = tt
  undone_no false e = absurd (true≢false e)

  -- ---- the number of a call is 0 exactly where its conditions hold

  refusal-meets : (k : Call) (again : Bool) → refusal_of s done k again ≡ 0
      → (again ≡ false) × Allows s done k
  unfolding refusal_of unstepped ungot
  refusal-meets (Step u) again e =
      let (a, e₁) = refuse_0 _ _ _ (omega arith) e in
      let (b, e₂) = refuse_0 _ _ _ (omega arith) e₁ in
      let (d, e₃) = refuse_0 _ _ _ (omega arith) e₂ in
      (a, (early_no u b, unset_no u d))
  refusal-meets (Get y) again e =
      let (a, e₁) = refuse_0 _ _ _ (omega arith) e in
      let (b, e₂) = refuse_0 _ _ _ (omega arith) e₁ in
      let (d, e₃) = refuse_0 _ _ _ (omega arith) e₂ in
      (a, (undone_no (done (s.output_owner y)) b, unfed_no y d))
  refusal-meets (Set x) again e =
      let (a, e₁) = refuse_0 _ _ _ (omega arith) e in
      let (b, e₂) = refuse_0 _ _ _ (omega arith) e₁ in
      (a, undone_no (done (get_no s (s.source x))) b)
  refusal-meets NoCall again e = absurd (omega arith)

  meets-refusal : (k : Call) (again : Bool) → again ≡ false → Allows s done k
      → refusal_of s done k again ≡ 0
  unfolding refusal_of unstepped ungot
  meets-refusal (Step u) again a al =
      refuse_on _ _ _ a ∙ refuse_on _ _ _ (no_early u al) ∙ refuse_on _ _ _ (no_unset u al)
  meets-refusal (Get y) again a al =
      refuse_on _ _ _ a ∙ refuse_on _ _ _ (ap not (is_true (done (s.output_owner y)) al.0))
      ∙ refuse_on _ _ _ (no_unfed y al)
  meets-refusal (Set x) again a al =
      refuse_on _ _ _ a ∙ refuse_on _ _ _ (ap not (is_true (done (get_no s (s.source x))) al))
  meets-refusal NoCall again a al = absurd al

  pub meets_iff : (c : ℕ) → (refusal_at s done c ≡ 0) ↔ Meets s done c
  unfolding refusal_at
  meets_iff c = (
    (λ e. let (a, al) = refusal-meets (call_of s c) (done c) e in (rw a tt, al)),
    (λ (n, al). meets-refusal (call_of s c) (done c) (is_false (done c) n) al),
  )

  -- only what is a call meets its conditions
  pub meets_call : (c : ℕ) → Meets s done c → c < total s
  meets_call c (n, al) = elim (dec_lt c (total s)) [
    | yes p ↦ p
    | no p ↦ absurd (rw (is_none s c (omega arith)) at al)
  ]
