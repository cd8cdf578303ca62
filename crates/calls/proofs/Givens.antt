-- Laws of what the rules give: hits in parts, bounds, 0 exactly where none precedes, by kind.
use Rattle.std.specs.Prelude.{◌≡◌, Bool, false, ◌&&◌, ℕ, zero, suc, ◌+◌, ◌≤◌, ◌<◌, T}
use Rattle.std.proofs.Math.Path.{refl, ap}
use Rattle.std.proofs.Common.{sym}
use Rattle.std.proofs.Math.Bool.{true, not, and_comm, and-true, and-false}
use native.Mathlib.Omega.{arith}
use Rattle.std.proofs.Math.Decide.{ℕ_discrete}
use Rattle.std.proofs.Math.Dec.{eqb, eqb→eq, eqb_refl, not_T}
use Rattle.search.specs.Truth.{T_and, and_T, clash, is_true, is_false}
use Rattle.search.specs.Truth.{eq_true, eq_false, same_test}
use Rattle.search.specs.Sets.{add}
use Rattle.search.specs.Count.{bit, bit_le, count, count-le, count_same, count_none, count-zero}
use Rattle.table.specs.Shape.{Shape, total, Wired}
use Rattle.calls.specs.Number.{get_no, set_no}
use Rattle.calls.specs.Precedence.{Precedes, step_get, get_set, set_get}
use Rattle.calls.specs.Precedence.{set-step, step_set}
use Rattle.calls.proofs.Neighbours.{precedes_iff, calls-only}
use Rattle.calls.specs.Hits.{nth, hits}
use Rattle.calls.specs.Given.{only, steps_to_gets, steps_to_sets, into, own_step}

-- ---- counted hits: none, one, and the hits of a test in two parts

count-part : (p q r : ℕ → Bool) (n : ℕ) → ((i : ℕ) → bit (p i) ≡ bit (q i) + bit (r i))
    → count p n ≡ count q n + count r n
unfolding count
count-part p q r zero h = refl
count-part p q r (suc n) h = omega (arith, h n, count-part p q r n h)

-- a part of a part
pub bit_and : (e p q r : Bool) → bit p ≡ bit q + bit r → bit (p && e) ≡ bit (q && e) + bit (r && e)
unfolding bit
bit_and true p q r h = rw (and-true p, and-true q, and-true r) h
bit_and false p q r h = rw (and-false p, and-false q, and-false r)

module _ (call : ℕ → ℕ) (n c : ℕ) where
  pub hits-part : (p q r : ℕ → Bool) → ((i : ℕ) → bit (p i) ≡ bit (q i) + bit (r i))
      → hits p call n c ≡ hits q call n c + hits r call n c
  unfolding hits
  hits-part p q r h =
      count-part (λ i. p i && eqb (call i) c) (λ i. q i && eqb (call i) c)
      (λ i. r i && eqb (call i) c) n
      (λ i. bit_and (eqb (call i) c) (p i) (q i) (r i) (h i))

  pub hits-same : (p q : ℕ → Bool) → ((i : ℕ) → i < n → p i ≡ q i)
      → hits p call n c ≡ hits q call n c
  unfolding hits
  hits-same p q h =
      count_same (λ i. p i && eqb (call i) c) (λ i. q i && eqb (call i) c) n
      (λ i l. ap (λ b. b && eqb (call i) c) (h i l))

  pub no_hits : (p : ℕ → Bool) → ((i : ℕ) → i < n → T (p i) → call i ≡ c → ⊥) → hits p call n c ≡ 0
  unfolding hits
  no_hits p h =
      count_none (λ i. p i && eqb (call i) c) n
      (λ i l. not_T (p i && eqb (call i) c)
      (λ t. let (a, b) = T_and (p i) (eqb (call i) c) t in h i l a (eqb→eq (call i) c b)))

  pub hits_no : (p : ℕ → Bool) → hits p call n c ≡ 0 → (i : ℕ) → i < n → T (p i) → call i ≡ c → ⊥
  unfolding hits
  hits_no p e i l t q =
      clash (p i && eqb (call i) c) (and_T (p i) (eqb (call i) c) t (eq_true (call i) c q))
      (count-zero (λ i. p i && eqb (call i) c) n e i l)

  pub hits-le : (p : ℕ → Bool) → hits p call n c ≤ n
  unfolding hits
  hits-le p = count-le (λ i. p i && eqb (call i) c) n

-- calls that stand in a row are hit once at most
pub row-once : (p : ℕ → Bool) (first n c : ℕ) → hits p (nth first) n c ≤ 1
unfolding hits count bit
row-once p first zero c = omega arith
row-once p first (suc n) c = elim (ℕ_discrete (first + n) c) [
  | yes e ↦
      omega
      (arith, bit_le (p n && eqb (first + n) c), no_hits (nth first) n c p (λ i l t q. omega arith))
  | no ne ↦
      rw (is_false (eqb (first + n) c) (eq_false (first + n) c ne))
      (omega (arith, none (p n), row-once p first n c))
]
  where
    none : (b : Bool) → bit (b && false) ≡ 0
    none true = refl
    none false = refl

-- a call hit at one place only
pub hit_at : (p : ℕ → Bool) (call : ℕ → ℕ) (n c k : ℕ) → k < n
    → ((i : ℕ) → i < n → T (p i) → i ≡ k) → hits p call n c ≡ bit (p k && eqb (call k) c)
unfolding hits count bit
hit_at p call zero c k h o = absurd (omega arith)
hit_at p call (suc n) c k h o = elim (ℕ_discrete k n) [
  | yes e ↦
      rw e
      (omega (arith, no_hits call n c p (λ i l t q. let z = o i (omega arith) t in omega arith)))
  | no ne ↦
      rw (is_false (p n) (not_T (p n) (λ t. let z = o n (omega arith) t in omega arith)))
      (omega (arith, hit_at p call n c k (omega arith) (λ i l t. o i (omega arith) t)))
]

-- what is not done is either the call d or not done beside it
pub part_of : (done : ℕ → Bool) (d : ℕ) → T (not (done d)) → (a : ℕ)
    → bit (not (done a)) ≡ bit (not (add d done a)) + bit (only d a)
unfolding bit
part_of done d t a = elim (ℕ_discrete a d) [
  | yes e ↦
      rw (e, is_false (done d) t, is_true (eqb d d) (eq_true d d refl))
  | no ne ↦ rw (is_false (eqb a d) (eq_false a d ne)) (omega arith)
]

-- ---- the direct predecessors counted rule by rule

module _ (s : Shape) where
  -- placing d takes from each call's count what d gives it
  pub into-part : (done : ℕ → Bool) (d c : ℕ) → T (not (done d))
      → into s (λ a. not (add d done a)) c + into s (only d) c ≡ into s (λ a. not (done a)) c
  unfolding into
  into-part done d c t =
      let p = part_of done d t in
      omega (
        arith,
        hits-part (get_no s) s.outputs c (λ y. not (done (s.output_owner y)))
            (λ y. not (add d done (s.output_owner y))) (λ y. only d (s.output_owner y))
            (λ y. p (s.output_owner y)),
        hits-part (set_no s) s.inputs c (λ x. not (done (get_no s (s.source x))))
            (λ x. not (add d done (get_no s (s.source x)))) (λ x. only d (get_no s (s.source x)))
            (λ x. p (get_no s (s.source x))),
        hits-part (λ k. get_no s (s.feed_output k)) s.feeds c
            (λ k. not (done (set_no s (s.feed_input k))))
            (λ k. not (add d done (set_no s (s.feed_input k))))
            (λ k. only d (set_no s (s.feed_input k)))
            (λ k. p (set_no s (s.feed_input k))),
        hits-part s.input_owner s.inputs c (λ x. eqb (s.kind x) 1 && not (done (set_no s x)))
            (λ x. eqb (s.kind x) 1 && not (add d done (set_no s x)))
            (λ x. eqb (s.kind x) 1 && only d (set_no s x))
            (λ x. and_bit (eqb (s.kind x) 1) (not (done (set_no s x)))
            (not (add d done (set_no s x)))
            (only d (set_no s x)) (p (set_no s x))),
        hits-part (set_no s) s.inputs c (λ x. not (done (s.input_owner x)) && eqb (s.kind x) 0)
            (λ x. not (add d done (s.input_owner x)) && eqb (s.kind x) 0)
            (λ x. only d (s.input_owner x) && eqb (s.kind x) 0)
            (λ x. bit_and (eqb (s.kind x) 0) (not (done (s.input_owner x)))
            (not (add d done (s.input_owner x)))
            (only d (s.input_owner x)) (p (s.input_owner x))),
      )
    where
      and_bit : (e p q r : Bool) → bit p ≡ bit q + bit r
          → bit (e && p) ≡ bit (e && q) + bit (e && r)
      and_bit e p q r h = rw (and_comm e p, and_comm e q, and_comm e r) (bit_and e p q r h)

  module _ (passes : ℕ → Bool) where
    -- a count of 0 leaves no direct predecessor that passes
    pub into-none : (c : ℕ) → into s passes c ≡ 0 → (a : ℕ) → Precedes s a c → T (passes a) → ⊥
    unfolding into
    into-none c e a (step_get y h p q) t =
        hits_no (get_no s) s.outputs c (λ y. passes (s.output_owner y)) (omega arith) y h
        (rw (← p) t) (sym q)
    into-none c e a (get_set x h p q) t =
        hits_no (set_no s) s.inputs c (λ x. passes (get_no s (s.source x))) (omega arith) x h
        (rw (← p) t) (sym q)
    into-none c e a (set_get k h p q) t =
        hits_no (λ k. get_no s (s.feed_output k)) s.feeds c
        (λ k. passes (set_no s (s.feed_input k)))
        (omega arith) k h (rw (← p) t) (sym q)
    into-none c e a (set-step x h k p q) t =
        hits_no s.input_owner s.inputs c (λ x. eqb (s.kind x) 1 && passes (set_no s x))
        (omega arith) x h
        (and_T (eqb (s.kind x) 1) (passes (set_no s x)) (eq_true (s.kind x) 1 k) (rw (← p) t))
        (sym q)
    into-none c e a (step_set x h k p q) t =
        hits_no (set_no s) s.inputs c (λ x. passes (s.input_owner x) && eqb (s.kind x) 0)
        (omega arith) x h
        (and_T (passes (s.input_owner x)) (eqb (s.kind x) 0) (rw (← p) t)
        (eq_true (s.kind x) 0 k)) (sym q)

    -- and where there is none, the count is 0
    pub none-into : (c : ℕ) → ((a : ℕ) → Precedes s a c → T (passes a) → ⊥) → into s passes c ≡ 0
    unfolding into
    none-into c n =
        omega (
          arith,
          no_hits (get_no s) s.outputs c (λ y. passes (s.output_owner y))
              (λ y h t q. n (s.output_owner y) (step_get y h refl (sym q)) t),
          no_hits (set_no s) s.inputs c (λ x. passes (get_no s (s.source x)))
              (λ x h t q. n (get_no s (s.source x)) (get_set x h refl (sym q)) t),
          no_hits (λ k. get_no s (s.feed_output k)) s.feeds c
              (λ k. passes (set_no s (s.feed_input k)))
              (λ k h t q. n (set_no s (s.feed_input k)) (set_get k h refl (sym q)) t),
          no_hits s.input_owner s.inputs c (λ x. eqb (s.kind x) 1 && passes (set_no s x))
              (λ x h t q. let (a, b) = T_and (eqb (s.kind x) 1) (passes (set_no s x)) t in
              n (set_no s x) (set-step x h (eqb→eq (s.kind x) 1 a) refl (sym q)) b),
          no_hits (set_no s) s.inputs c (λ x. passes (s.input_owner x) && eqb (s.kind x) 0)
              (λ x h t q. let (a, b) = T_and (passes (s.input_owner x)) (eqb (s.kind x) 0) t in
              n (s.input_owner x) (step_set x h (eqb→eq (s.kind x) 0 b) refl (sym q)) a),
        )

    -- nothing precedes what is no call
    pub into-past : Wired s → (c : ℕ) → total s ≤ c → into s passes c ≡ 0
    into-past ok c h =
        none-into c (λ a p t. let (x, y) = calls-only s a c ((precedes_iff s ok a c).0 p) in
        omega arith)

-- ---- what one call gives: by its kind

-- two numbers are one exactly where they are so from the same start
shifted : (n a b : ℕ) → eqb (n + a) (n + b) ≡ eqb a b
shifted n a b =
    same_test (eqb (n + a) (n + b)) (eqb a b)
    (λ t. eq_true a b (let e = eqb→eq (n + a) (n + b) t in omega arith))
    (λ t. eq_true (n + a) (n + b) (ap (λ x. n + x) (eqb→eq a b t)))

module _ (s : Shape) (ok : Wired s) (c : ℕ) where
  -- a step: the gets of its unit's outputs and the sets of its delayed inputs
  pub into-step : (u : ℕ) → u < s.units
      → into s (only u) c ≡ steps_to_gets s (only u) c + steps_to_sets s (only u) c
  unfolding into
  into-step u h =
      omega (
        arith,
        no_hits (set_no s) s.inputs c (λ x. only u (get_no s (s.source x)))
            (λ x l t q. omega (arith, eqb→eq (get_no s (s.source x)) u t)),
        no_hits (λ k. get_no s (s.feed_output k)) s.feeds c
            (λ k. only u (set_no s (s.feed_input k)))
            (λ k l t q. omega (arith, eqb→eq (set_no s (s.feed_input k)) u t)),
        no_hits s.input_owner s.inputs c (λ x. eqb (s.kind x) 1 && only u (set_no s x))
            (λ x l t q. omega (
              arith,
              eqb→eq (set_no s x) u (T_and (eqb (s.kind x) 1) (only u (set_no s x)) t).1,
            )),
      )

  -- a get: the sets of the inputs joined to it
  pub into_get : (y : ℕ) → y < s.outputs
      → into s (only (get_no s y)) c ≡ hits (λ x. eqb (s.source x) y) (set_no s) s.inputs c
  unfolding into
  into_get y h =
      let d = get_no s y in
      omega (
        arith,
        no_hits (get_no s) s.outputs c (λ z. only d (s.output_owner z))
            (λ z l t q. omega (arith, ok.output-owned z l, eqb→eq (s.output_owner z) d t)),
        hits-same (set_no s) s.inputs c (λ x. only d (get_no s (s.source x)))
            (λ x. eqb (s.source x) y)
            (λ x l. shifted s.units (s.source x) y),
        no_hits (λ k. get_no s (s.feed_output k)) s.feeds c
            (λ k. only d (set_no s (s.feed_input k)))
            (λ k l t q. omega (arith, eqb→eq (set_no s (s.feed_input k)) d t)),
        no_hits s.input_owner s.inputs c (λ x. eqb (s.kind x) 1 && only d (set_no s x))
            (λ x l t q. omega (
              arith,
              eqb→eq (set_no s x) d (T_and (eqb (s.kind x) 1) (only d (set_no s x)) t).1,
            )),
        no_hits (set_no s) s.inputs c (λ x. only d (s.input_owner x) && eqb (s.kind x) 0)
            (λ x l t q.
            omega (
              arith,
              ok.input-owned x l,
              eqb→eq (s.input_owner x) d
                  (T_and (only d (s.input_owner x)) (eqb (s.kind x) 0) t).0,
            )),
      )

  -- a set: the gets of the outputs that it feeds, and the step of its unit where it is reactive
  pub into-set : (x : ℕ) → x < s.inputs
      → into s (only (set_no s x)) c
      ≡ hits (λ k. eqb (s.feed_input k) x) (λ k. get_no s (s.feed_output k)) s.feeds c
      + own_step s x c
  unfolding into own_step
  into-set x h =
      let d = set_no s x in
      omega (
        arith,
        no_hits (get_no s) s.outputs c (λ z. only d (s.output_owner z))
            (λ z l t q. omega (arith, ok.output-owned z l, eqb→eq (s.output_owner z) d t)),
        no_hits (set_no s) s.inputs c (λ z. only d (get_no s (s.source z)))
            (λ z l t q. omega (arith, ok.sourced z l, eqb→eq (get_no s (s.source z)) d t)),
        hits-same (λ k. get_no s (s.feed_output k)) s.feeds c
            (λ k. only d (set_no s (s.feed_input k)))
            (λ k. eqb (s.feed_input k) x)
            (λ k l. shifted (s.units + s.outputs) (s.feed_input k) x),
        hit_at (λ z. eqb (s.kind z) 1 && only d (set_no s z)) s.input_owner s.inputs c x h
            (λ z l t. omega (
              arith,
              eqb→eq (set_no s z) d (T_and (eqb (s.kind z) 1) (only d (set_no s z)) t).1,
            )),
        ap bit (own (eqb (s.kind x) 1) (only d d) (eqb (s.input_owner x) c)
            (is_true (only d d) (eqb_refl d))),
        no_hits (set_no s) s.inputs c (λ z. only d (s.input_owner z) && eqb (s.kind z) 0)
            (λ z l t q.
            omega (
              arith,
              ok.input-owned z l,
              eqb→eq (s.input_owner z) d
                  (T_and (only d (s.input_owner z)) (eqb (s.kind z) 0) t).0,
            )),
      )
    where
      own : (k e o : Bool) → e ≡ true → ((k && e) && o) ≡ (k && o)
      own k e o p = rw (p, and-true k)
