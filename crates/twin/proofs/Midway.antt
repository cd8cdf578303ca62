-- What carries demand 3: between two calls the calls done hold new values and the others old ones.
use Rattle.std.specs.Prelude.{
  ◌≡◌,
  refl,
  ◌≢◌,
  Bool,
  not,
  cond,
  List,
  ◌∷◌,
  ℕ,
  zero,
  suc,
  ◌+◌,
  ◌≤◌,
  ◌<◌,
  T,
  eqb,
}
use Rattle.std.proofs.Math.Path.{sym, ap}
use Rattle.std.proofs.Common.{ap₂, ◌∙◌, arith, eqb→eq}
use Rattle.std.proofs.Math.Bool.{true, false}
use Rattle.std.proofs.Math.Decide.{ℕ_discrete, dec_lt}
use Rattle.std.proofs.Math.Dec.{eqb_refl}
use Rattle.search.specs.Truth.{is_true, is_false, eq_true, eq_false}
use Rattle.table.specs.Shape.{Shape, total, Wired}
use Rattle.calls.specs.declared.Call.{Call}
use Rattle.calls.specs.declared.Call.TheVariants.{Step, Get, Set, NoCall}
use Rattle.calls.specs.Number.{call_of, get_no, set_no}
use Rattle.calls.specs.Numbers.{is-step, is_get, is_set, is_none}
use Rattle.calls.specs.Numbers.{View, at-step, at_get, at_set, view}
use Rattle.calls.specs.Precedence.{feeds_to, by_kind}
use Rattle.calls.proofs.Neighbours.{feeds-found}
use Rattle.judging.specs.Passes.{Allows, Meets}
use Rattle.judging.proofs.Meeting.{meets_call}
use Rattle.twin.specs.Rules.{pick, of_unit, feeding, Rules}
use Rattle.twin.specs.Run.{At, Values, World, moves, gives, acts}
use Rattle.twin.specs.Equations.{Solves}

pub pick_same : {Value : Type 0} (q : ℕ → Bool) (n k : ℕ) (f g : ℕ → Value)
    → ((i : ℕ) → k ≤ i → i < k + n → T (q i) → f i ≡ g i) → pick q n k f ≡ pick q n k g
unfolding pick
pick_same q zero k f g h = refl
pick_same {Value} q (suc n) k f g h =
    go (pick_same q n (suc k) f g (λ i a b t. h i (omega arith) (omega arith) t)) (q k) refl
  where
    go : pick q n (suc k) f ≡ pick q n (suc k) g → (b : Bool) → q k ≡ b
        → ◌≡◌ {A = List Value} (cond b (f k ∷ pick q n (suc k) f) (pick q n (suc k) f))
        (cond b (g k ∷ pick q n (suc k) g) (pick q n (suc k) g))
    go ih true e = ap₂ ◌∷◌ (h k (omega arith) (omega arith) (rw e tt)) ih
    go ih false e = ih

-- ---- a call moves what stands at its own number, and nothing else

moves-none : (k : Call) → moves k NoCall ≡ false
unfolding moves by_kind
moves-none (Step u) = refl
moves-none (Get y) = refl
moves-none (Set x) = refl
moves-none NoCall = refl

module _ (s : Shape) where
  moves-own : (c : ℕ) → c < total s → moves (call_of s c) (call_of s c) ≡ true
  unfolding moves by_kind
  moves-own c h = go (view s c h)
    where
      go : View s c → moves (call_of s c) (call_of s c) ≡ true
      go (at-step u l e) = rw (e, is-step s u l) (is_true (eqb u u) (eqb_refl u))
      go (at_get y l e) = rw (e, is_get s y l) (is_true (eqb y y) (eqb_refl y))
      go (at_set x l e) = rw (e, is_set s x l) (is_true (eqb x x) (eqb_refl x))

  moves-other : (c a : ℕ) → a ≢ c → moves (call_of s c) (call_of s a) ≡ false
  unfolding moves by_kind
  moves-other c a ne = elim (dec_lt c (total s)) [
    | yes h ↦ elim (dec_lt a (total s)) [
      | yes g ↦ go (view s c h) (view s a g)
      | no g ↦ rw (is_none s a (omega arith)) (moves-none (call_of s c))
    ]
    | no h ↦ rw (is_none s c (omega arith))
  ]
    where
      go : View s c → View s a → moves (call_of s c) (call_of s a) ≡ false
      go (at-step u l e) (at-step v g f) =
          rw (e, is-step s u l, f, is-step s v g)
          (is_false (eqb v u) (eq_false v u (λ q. ne (f ∙ q ∙ sym e))))
      go (at-step u l e) (at_get z g f) = rw (e, is-step s u l, f, is_get s z g)
      go (at-step u l e) (at_set z g f) = rw (e, is-step s u l, f, is_set s z g)
      go (at_get y l e) (at-step v g f) = rw (e, is_get s y l, f, is-step s v g)
      go (at_get y l e) (at_get z g f) =
          rw (e, is_get s y l, f, is_get s z g)
          (is_false (eqb z y) (eq_false z y (λ q. ne (f ∙ ap (get_no s) q ∙ sym e))))
      go (at_get y l e) (at_set z g f) = rw (e, is_get s y l, f, is_set s z g)
      go (at_set x l e) (at-step v g f) = rw (e, is_set s x l, f, is-step s v g)
      go (at_set x l e) (at_get z g f) = rw (e, is_set s x l, f, is_get s z g)
      go (at_set x l e) (at_set z g f) =
          rw (e, is_set s x l, f, is_set s z g)
          (is_false (eqb z x) (eq_false z x (λ q. ne (f ∙ ap (set_no s) q ∙ sym e))))

module _ {State Value : Type 0} (s : Shape) (m : Rules State Value) where
  -- the world after one call
  abbrev pub next : World State Value → ℕ → World State Value
  next w c = acts s m w (call_of s c)

  pub next-self : (w : World State Value) (c : ℕ) → c < total s
      → next w c (call_of s c)
      ≡ record { value = gives s m w (call_of s c); time = suc (w (call_of s c)).time }
  next-self w c h = rw (moves-own s c h)

  pub next-other : (w : World State Value) (c a : ℕ) → a ≢ c
      → next w c (call_of s a) ≡ w (call_of s a)
  next-other w c a ne = rw (moves-other s c a ne)

  -- the calls of a set hold the new values, the others the old ones
  pub record Midway (done : ℕ → Bool) (old new : Values State Value)
      (w : World State Value) : Type 0 where
    pub moved : (a : ℕ) → a < total s → T (done a) → (w (call_of s a)).value ≡ new (call_of s a)
    pub waits : (a : ℕ) → a < total s → T (not (done a)) → (w (call_of s a)).value
        ≡ old (call_of s a)

  -- the equation of one call
  abbrev pub Holds : Values State Value → Values State Value → (k : Call) → At State Value k
      → Type 0
  Holds old new (Step u) v =
      v ≡ m.step_rule u (old (Step u))
      (of_unit s u (λ x. cond (eqb (s.kind x) 0) (old (Set x)) (new (Set x))))
  Holds old new (Get y) v =
      v ≡ m.output_rule y (new (Step (s.output_owner y))) (feeding s y (λ x. new (Set x)))
  Holds old new (Set x) v = v ≡ new (Get (s.source x))
  Holds old new NoCall v = Unit {0}

  pub solves→holds : (old new : Values State Value) → Solves s m old new → (c : ℕ) → c < total s
      → Holds old new (call_of s c) (new (call_of s c))
  solves→holds old new sv c hc = go (view s c hc)
    where
      go : View s c → Holds old new (call_of s c) (new (call_of s c))
      go (at-step u h e) = rw (e, is-step s u h) (sv.states u h)
      go (at_get y h e) = rw (e, is_get s y h) (sv.outputs y h)
      go (at_set x h e) = rw (e, is_set s x h) (sv.inputs x h)

  pub holds-one : (old new : Values State Value) (k : Call) (v v' : At State Value k)
      → Holds old new k v
      → Holds old new k v' → v ≡ v'
  holds-one old new (Step u) v v' p p' = p ∙ sym p'
  holds-one old new (Get y) v v' p p' = p ∙ sym p'
  holds-one old new (Set x) v v' p p' = p ∙ sym p'
  holds-one old new NoCall v v' p p' = refl

  module _ (ok : Wired s) (done : ℕ → Bool) (old new : Values State Value) (w : World State Value)
      (mid : Midway done old new w) where
    -- an input that is set stands at its new value
    set_new : (x : ℕ) → x < s.inputs → T (done (set_no s x)) → (w (Set x)).value ≡ new (Set x)
    set_new x h t = (rw (is_set s x h) at (mid.moved (set_no s x) (omega arith) t))

    -- an input of a unit that may step stands as the equation reads it: delayed old, reactive new
    stands : (u : ℕ) → Allows s done (Step u) → (x : ℕ) → x < s.inputs → s.input_owner x ≡ u
        → (w (Set x)).value ≡ cond (eqb (s.kind x) 0) (old (Set x)) (new (Set x))
    stands u (early, late) x h o = elim (ℕ_discrete (s.kind x) 0) [
      | yes k ↦
          rw (is_true (eqb (s.kind x) 0) (eq_true (s.kind x) 0 k))
          (rw (is_set s x h) at (mid.waits (set_no s x) (omega arith) (early x h o k)))
      | no k ↦
          rw (is_false (eqb (s.kind x) 0) (eq_false (s.kind x) 0 k))
          (set_new x h (late x h o (omega (arith, ok.kind-known x h))))
    ]

    -- a call whose conditions hold gives what its equation asks
    pub gives-holds : (c : ℕ) → Meets s done c
        → Holds old new (call_of s c) (gives s m w (call_of s c))
    gives-holds c (nd, al) = go (view s c (meets_call s done c (nd, al)))
      where
        go : View s c → Holds old new (call_of s c) (gives s m w (call_of s c))
        go (at-step u h e) =
            let q : Allows s done (Step u) = (rw (e, is-step s u h) at al) in
            rw (e, is-step s u h)
            (ap₂ (m.step_rule u) (rw (is-step s u h) at (mid.waits u (omega arith) (rw e at nd)))
            (pick_same _ s.inputs 0 _ _
            (λ x p r t. stands u q x (omega arith) (eqb→eq (s.input_owner x) u t))))
        go (at_get y h e) =
            let q : Allows s done (Get y) = (rw (e, is_get s y h) at al) in
            let hu = ok.output-owned y h in
            rw (e, is_get s y h)
            (ap₂ (m.output_rule y)
            (rw (is-step s (s.output_owner y) hu) at
            (mid.moved (s.output_owner y) (omega arith) q.0))
            (pick_same _ s.inputs 0 _ _ (λ x p r t. set_new x (omega arith) (fed x t q.1))))
          where
            fed : (x : ℕ) → T (feeds_to s x y)
                → ((k : ℕ) → k < s.feeds → s.feed_output k ≡ y
                → T (done (set_no s (s.feed_input k))))
                → T (done (set_no s x))
            fed x t q = let (k, hk, i, o) = feeds-found s x y t in rw (← i) (q k hk o)
        go (at_set x h e) =
            let q : Allows s done (Set x) = (rw (e, is_set s x h) at al) in
            let hy = ok.sourced x h in
            rw (e, is_set s x h)
            (rw (is_get s (s.source x) hy) at (mid.moved (get_no s (s.source x)) (omega arith) q))
