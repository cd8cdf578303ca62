-- One call placed after another: what the loop of the order's procedure keeps.
use mathlib.Core.Path.{◌≡◌, refl, sym, ap, subst, ◌∙◌, fun_ext}
use mathlib.Core.Logic.{◌≢◌, ◌⊎◌, inl, inr}
use mathlib.Core.Bool.{Bool, true, false, not, ◌&&◌, ◌||◌, and-false}
use mathlib.Core.List.{List, [], ◌∷◌, ◌++◌, append_assoc, append-nil}
use Prim.Native.Nat.{ℕ, suc, ◌+◌, ◌-◌, ◌≤◌, ◌<◌}
use native.Mathlib.Omega.{arith}
use native.Mathlib.Decide.{dec_lt}
use lib.Dec.{T, eqb, ltb, eqb→eq, ltb→lt, nltb→le}
use lib.ListN.{length, get_or, set, take, length-set, length-append}
use lib.Seq.{get_or-set_same, get_or-set_other, take_at}
use borrow.Author.Tests.{lt-ltb, le-ltb, ne_eqb}
use Rattle.search.specs.Truth.{T_and, either, clash, is_true, is_false, eq_true, eq_false}
use Rattle.search.specs.Truth.{same_test}
use Rattle.search.specs.Sets.{none, add, add-self, add_cases, add-more, add-not}
use Rattle.search.specs.Least.{least_from, lowest-is, lowest-one}
use Rattle.bits.specs.Bits.{has, drop, Words, without}
use Rattle.bits.specs.Laws.{drop-has}
use Rattle.table.specs.Shape.{Shape, total, Wired}
use Rattle.table.specs.Packed.{shape_of}
use Rattle.table.specs.Sound.{Sound}
use Rattle.table.proofs.Checked.{few-calls}
use Rattle.calls.specs.Number.{get_no}
use Rattle.calls.specs.Numbers.{View, at-step, at_get, at_set, view}
use Rattle.calls.specs.Precedence.{step_get, get_set, precedes}
use Rattle.calls.proofs.Neighbours.{precedes_iff, calls-only, not-self}
use Rattle.calls.specs.Given.{only, into}
use Rattle.calls.proofs.Givens.{into-part, into-none, none-into, into-past}
use Rattle.orders.specs.Sort.{ready, next_call, sort, placed}
use Rattle.orders.proofs.Sorted.{Ready→ready, ready→Ready, next-is, sort-step}
use Rattle.orders.specs.Walk.{among}
use Rattle.orders.proofs.Remains.{placed-count}
use Rattle.search.specs.Count.{count, count-full}
use Rattle.placing.specs.Waiting.{waits, Waiting}
use Rattle.placing.specs.Lowered.{Lowered}
use Rattle.placing.specs.Placing.{call_count, placed_of}
use Rattle.placing.specs.Thread.{last_of, prior, stands, Standing}
use Rattle.placing.proofs.Threads.{among-end, last_of-end, prior-end, prior-more}

-- ---- a count of 0 says that the call is ready
module _ (s : Shape) (ok : Wired s) (done : ℕ → Bool) where
  done-waits : (c : ℕ) → T (done c) → waits s done c ≡ 255
  unfolding waits
  done-waits c t = rw (is_true (done c) t)

  left-waits : (c : ℕ) → T (not (done c)) → waits s done c ≡ into s (λ a. not (done a)) c
  unfolding waits
  left-waits c t = rw (is_false (done c) t)

  pub ready-waits : (c : ℕ) → ready (total s) (precedes s) done c ≡ eqb (waits s done c) 0
  ready-waits c =
      same_test (ready (total s) (precedes s) done c) (eqb (waits s done c) 0) there back
    where
      there : T (ready (total s) (precedes s) done c) → T (eqb (waits s done c) 0)
      there r =
          let (n, all) = ready→Ready (total s) (precedes s) done c r in
          eq_true (waits s done c) 0
          (left-waits c n
          ∙ none-into s (λ a. not (done a)) c
          (λ a p t.
          let q = (precedes_iff s ok a c).0 p in
          clash (done a) (all a (calls-only s a c q).0 q) t))

      back : T (eqb (waits s done c) 0) → T (ready (total s) (precedes s) done c)
      back z = elim (either (done c)) [
        | inl t ↦ absurd (let e = eqb→eq (waits s done c) 0 z in omega (arith, done-waits c t))
        | inr t ↦
            Ready→ready (total s) (precedes s) done c (
              t,
              λ a h p. elim (either (done a)) [
                | inl d ↦ d
                | inr d ↦
                    absurd
                    (into-none s (λ a. not (done a)) c
                    (sym (left-waits c t) ∙ eqb→eq (waits s done c) 0 z) a
                    ((precedes_iff s ok a c).1 p) d)
              ],
            )
      ]

-- ---- the lowest of the bits is the lowest ready call
module _ (s : Shape) (ok : Wired s) (done : ℕ → Bool) (counts bits : List ℕ)
    (w : Waiting s done counts bits) where
  -- a bit is set exactly where one of the N calls is ready
  bit-ready : (c : ℕ) → c < total s → has bits c ≡ ready (total s) (precedes s) done c
  bit-ready c h =
      w.bits c
      ∙ ap (λ b. b && eqb (waits s done c) 0) (lt-ltb c (total s) h)
      ∙ sym (ready-waits s ok done c)

  none_below : (c r : ℕ) → c < total s → c < r → r ≡ least_from (has bits) 256 0
      → T (not (ready (total s) (precedes s) done c))
  none_below c r h l e =
      subst (λ b. T (not b)) (bit-ready c h)
      ((lowest-is (has bits) 256).below c (omega (arith, e)))

  -- a bit stands for one of the N calls
  pub lowest-small : (r : ℕ) → r ≡ least_from (has bits) 256 0 → r < 256 → r < total s
  lowest-small r e h =
      let t : T (has bits r) = subst (λ k. T (has bits k)) (sym e)
      ((lowest-is (has bits) 256).passes (omega (arith, e))) in
      ltb→lt r (total s) (T_and (ltb r (total s)) (eqb (waits s done r) 0) (subst T (w.bits r) t)).0

  pub lowest-next : (r : ℕ) → r ≡ least_from (has bits) 256 0 → r < total s → total s ≤ 224
      → r ≡ next_call (total s) (precedes s) done
  unfolding next_call
  lowest-next r e h few =
      lowest-one (ready (total s) (precedes s) done) (total s) r
      (least_from (ready (total s) (precedes s) done) (total s) 0)
      (record {
        high = omega arith;
        passes = λ g. subst T (bit-ready r h)
            (subst (λ k. T (has bits k)) (sym e)
            ((lowest-is (has bits) 256).passes (omega (arith, e))));
        below = λ i g. none_below i r (omega arith) g e;
      })
      (lowest-is (ready (total s) (precedes s) done) (total s))

  pub lowest-none : (r : ℕ) → r ≡ least_from (has bits) 256 0 → total s ≤ r
      → total s ≡ next_call (total s) (precedes s) done
  unfolding next_call
  lowest-none r e h =
      lowest-one (ready (total s) (precedes s) done) (total s) (total s)
      (least_from (ready (total s) (precedes s) done) (total s) 0)
      (record {
        high = omega arith;
        passes = λ g. absurd (omega arith);
        below = λ i g. none_below i r g (omega arith) e;
      })
      (lowest-is (ready (total s) (precedes s) done) (total s))

-- before any call is placed each get and each set waits: for its unit's step, its source's get
pub steps_alone : (s : Shape) (c : ℕ) → s.units ≤ c → c < total s
    → into s (λ a. not (none a)) c ≢ 0
steps_alone s c h l e = go (view s c l)
  where
    go : View s c → ⊥
    go (at-step u k p) = omega arith
    go (at_get y k p) =
        into-none s (λ a. not (none a)) c e (s.output_owner y) (step_get y k refl p) tt
    go (at_set x k p) =
        into-none s (λ a. not (none a)) c e (get_no s (s.source x)) (get_set x k refl p) tt

-- the steps that wait for none are all calls that do
only_steps : (s : Shape) (c n : ℕ) → n ≡ into s (λ a. not (none a)) c
    → (ltb c s.units && eqb n 0) ≡ (ltb c (total s) && eqb n 0)
only_steps s c n e = elim (dec_lt c s.units) [
  | yes h ↦ rw (lt-ltb c s.units h, lt-ltb c (total s) (omega arith))
  | no h ↦ elim (dec_lt c (total s)) [
    | yes l ↦
        rw (
          le-ltb c s.units (omega arith),
          lt-ltb c (total s) l,
          ne_eqb n 0 (λ z. steps_alone s c (omega arith) l (sym e ∙ z)),
        )
    | no l ↦ rw (le-ltb c s.units (omega arith), le-ltb c (total s) (omega arith))
  ]
]

pub waiting_starts : (s : Shape) (counts bits : List ℕ) → length counts ≡ 224
    → ((c : ℕ) → get_or counts c 0 ≡ into s (λ a. not (none a)) c) → Words bits
    → ((c : ℕ) → has bits c ≡ (ltb c s.units && eqb (get_or counts c 0) 0))
    → Waiting s none counts bits
unfolding waits
waiting_starts s counts bits l e ok b = record {
  long = l;
  left = λ c t. e c;
  words = ok;
  bits = λ c. b c ∙ only_steps s c (get_or counts c 0) (e c)
      ∙ ap (λ n. ltb c (total s) && eqb n 0) (e c);
}

-- ---- the loop
module _ (t : List ℕ) where
  -- the calls of l stand in their order; the counts are of what is left, the thread is of what is
  -- placed; what is placed has all before it
  pub record Stage (l counts bits : List ℕ) (last : ℕ) : Type 0 where
    pub most : length l ≤ call_count t
    pub whole : placed_of t
        ≡ l ++ sort (call_count t) (precedes (shape_of t)) (call_count t - length l) (among l)
    pub waiting : Waiting (shape_of t) (among l) counts bits
    pub thread : (c : ℕ) → T (among l c) → get_or counts c 0 ≡ prior 255 l c
    pub last-is : last ≡ last_of 255 l
    pub known : (c : ℕ) → T (among l c) → c < call_count t
    pub closed : (a c : ℕ) → T (among l c) → T (precedes (shape_of t) a c) → T (among l a)

  pub stage_starts : (counts bits : List ℕ) → Waiting (shape_of t) none counts bits
      → Stage [] counts bits 255
  unfolding placed_of placed last_of
  stage_starts counts bits w = record {
    most = omega arith;
    whole = let e : call_count t - 0 ≡ call_count t = omega arith in rw e;
    waiting = w;
    thread = λ c z. absurd z;
    last-is = refl;
    known = λ c z. absurd z;
    closed = λ a c z. absurd z;
  }

  -- the calls placed are the first of all that can be
  pub stage_front : (l counts bits : List ℕ) (last k : ℕ) → Stage l counts bits last
      → length l ≡ k → take k (placed_of t) ≡ l
  stage_front l counts bits last k g e =
      rw g.whole
      (take_at l (sort (call_count t) (precedes (shape_of t)) (call_count t - length l) (among l))
      k e)

  -- where no more can be placed
  module _ (l counts bits : List ℕ) (last : ℕ) (g : Stage l counts bits last)
      (over : sort (call_count t) (precedes (shape_of t)) (call_count t - length l) (among l) ≡ [])
    where
      stage_all : placed_of t ≡ l
      stage_all = g.whole ∙ ap (λ r. l ++ r) over ∙ append-nil l

      pub stage_stands : (length l ≡ length (placed_of t)) × ((last ≡ last_of 255 (placed_of t))
          × Standing t counts)
      unfolding stands
      stage_stands = rw stage_all (
        refl,
        (
          g.last-is,
          record {
            long = g.waiting.long;
            each = λ c. rw stage_all (elim (either (among l c)) [
              | inl z ↦ rw (is_true (among l c) z) (g.thread c z)
              | inr z ↦ rw (is_false (among l c) z) (g.waiting.left c z)
            ]);
          },
        ),
      )

      -- where all calls are placed, none is ready
      pub stage_idle : length l ≡ call_count t → has bits ≡ none
      unfolding placed_of waits
      stage_idle full =
          let N = call_count t in
          let all : count (among l) N ≡ N =
          rw (sym stage_all)
          (placed-count N (precedes (shape_of t)) ∙ ap length stage_all ∙ full) in
          fun_ext (λ c. g.waiting.bits c ∙ elim (dec_lt c N) [
            | yes h ↦
                rw (is_true (among l c) (count-full (among l) N all c h)) (and-false (ltb c N))
            | no h ↦ rw (le-ltb c N (omega arith))
          ])

-- what stays as it is frees nothing
clear : (p : Bool) → (p && not p) ≡ false
clear true = refl
clear false = refl

-- a call of the N is ready where its count was 0 or fell to 0; no other was or is
fell : (n p q : Bool) → (T q → T p) → (T (not n) → p ≡ q) → ((n && q) || (p && not q)) ≡ (n && p)
fell true true true a b = refl
fell true false true a b = absurd (a tt)
fell true true false a b = refl
fell true false false a b = refl
fell false p q a b = rw (b tt) (clear q)

-- ---- one call more
module _ (t : List ℕ) (ok : Sound t) (l counts bits : List ℕ) (last : ℕ)
    (g : Stage t l counts bits last) (c : ℕ)
    (e : c ≡ next_call (call_count t) (precedes (shape_of t)) (among l)) (h : c < call_count t)
  where
    -- the call placed is new, and its predecessors are placed
    new : T (not (among l c))
    new = rw e ((next-is (call_count t) (precedes (shape_of t)) (among l)).is (rw (← e) h)).0

    after : (a : ℕ) → T (precedes (shape_of t) a c) → T (among l a)
    after a p =
        ((next-is (call_count t) (precedes (shape_of t)) (among l)).is (rw (← e) h)).1 a
        (calls-only (shape_of t) a c p).0 (rw (← e) p)

    -- it gives nothing to a call that is placed
    to-placed : (x : ℕ) → T (add c (among l) x) → into (shape_of t) (only c) x ≡ 0
    to-placed x z =
        none-into (shape_of t) (only c) x
        (λ a p q.
        let r : T (precedes (shape_of t) c x) =
        subst (λ b. T (precedes (shape_of t) b x)) (eqb→eq a c q)
        ((precedes_iff (shape_of t) ok.wired a x).0 p) in
        elim (add_cases c (among l) x z) [
          | inl y ↦
              clash (precedes (shape_of t) c c)
              (subst (λ b. T (precedes (shape_of t) c b)) y r) (not-self (shape_of t) c)
          | inr y ↦ clash (among l c) (g.closed c x y r) new
        ])

    -- a call that is left has lost what c gave it
    to-left : (x : ℕ) → T (not (add c (among l) x))
        → get_or counts x 0
        ≡ into (shape_of t) (λ a. not (add c (among l) a)) x + into (shape_of t) (only c) x
    to-left x z =
        g.waiting.left x (add-not c (among l) x z).1
        ∙ sym (into-part (shape_of t) (among l) c x new)

    pub stage_long : length (set counts c last) ≡ 224
    stage_long = length-set counts c last ∙ g.waiting.long

    here : get_or (set counts c last) c 0 ≡ last
    here = get_or-set_same counts c last 0 (omega (arith, g.waiting.long, few-calls t ok))

    there : (x : ℕ) → x ≢ c → get_or (set counts c last) x 0 ≡ get_or counts x 0
    there x ne = get_or-set_other counts c x last 0 ne

    -- what c gives is there to be taken
    pub stage_room : (x : ℕ) → into (shape_of t) (only c) x ≤ get_or (set counts c last) x 0
    stage_room x = elim (either (add c (among l) x)) [
      | inl z ↦ omega (arith, to-placed x z)
      | inr z ↦ omega (arith, to-left x z, there x (add-not c (among l) x z).0)
    ]

    module _ (low next : List ℕ)
        (w : Lowered (into (shape_of t) (only c)) (set counts c last) low (drop bits c) next) where
      -- what stays placed keeps its byte
      placed-low : (x : ℕ) → T (add c (among l) x)
          → get_or low x 0 ≡ get_or (set counts c last) x 0
      placed-low x z = omega (arith, w.falls.less x, to-placed x z)

      left-low : (x : ℕ) → T (not (add c (among l) x))
          → get_or low x 0 ≡ into (shape_of t) (λ a. not (add c (among l) a)) x
      left-low x z =
          omega (arith, w.falls.less x, to-left x z, there x (add-not c (among l) x z).0)

      small : c < 256
      small = omega (arith, few-calls t ok)

      -- the bits without c
      dropped : (x : ℕ) → has (drop bits c) x ≡ without c (has bits) x
      dropped x = ap (λ q. q x) (drop-has bits c small g.waiting.words)

      bits-placed : (x : ℕ) → T (add c (among l) x) → has next x ≡ false
      unfolding waits
      bits-placed x z =
          w.freed x
          ∙ rw (placed-low x z, dropped x, gone (add_cases c (among l) x z))
          (clear (eqb (get_or (set counts c last) x 0) 0))
        where
          gone : (x ≡ c) ⊎ T (among l x) → without c (has bits) x ≡ false
          gone (inl u) = rw (is_true (eqb x c) (eq_true x c u))
          gone (inr u) =
              rw (g.waiting.bits x, is_true (among l x) u, and-false (ltb x (call_count t)))
              (and-false (not (eqb x c)))

      bits_left : (x : ℕ) → T (not (add c (among l) x))
          → has next x ≡ (ltb x (call_count t) && eqb (get_or low x 0) 0)
      unfolding waits
      bits_left x z =
          let (ne, n) = add-not c (among l) x z in
          w.freed x
          ∙ rw (
            dropped x,
            is_false (eqb x c) (eq_false x c ne),
            g.waiting.bits x,
            is_false (among l x) n,
            ← (g.waiting.left x n),
            there x ne,
          )
          (fell (ltb x (call_count t)) (eqb (get_or low x 0) 0) (eqb (get_or counts x 0) 0)
          (λ y. eq_true (get_or low x 0) 0
          (let z = eqb→eq (get_or counts x 0) 0 y in omega (arith, w.falls.less x, there x ne)))
          (λ y. past ne (nltb→le x (call_count t) y)))
        where
          -- behind the last call nothing is lowered
          past : x ≢ c → call_count t ≤ x → eqb (get_or low x 0) 0 ≡ eqb (get_or counts x 0) 0
          past ne y =
              let same : get_or low x 0 ≡ get_or counts x 0 =
              omega (
                arith,
                w.falls.less x,
                there x ne,
                into-past (shape_of t) (only c) ok.wired x y,
              ) in
              ap (λ k. eqb k 0) same

      waiting_on : Waiting (shape_of t) (add c (among l)) low next
      unfolding waits
      waiting_on = record {
        long = w.falls.long ∙ stage_long;
        left = left-low;
        words = w.words;
        bits = λ x. elim (either (add c (among l) x)) [
          | inl z ↦
              bits-placed x z
              ∙ rw (is_true (add c (among l) x) z) (sym (and-false (ltb x (call_count t))))
          | inr z ↦
              bits_left x z
              ∙ rw (is_false (add c (among l) x) z, left-low x z)
        ];
      }

      pub stage_on : length l < call_count t → Stage t (l ++ (c ∷ [])) low next c
      stage_on room =
          let members = among-end l c in
          let more : length (l ++ (c ∷ [])) ≡ suc (length l) =
          length-append l (c ∷ []) ∙ omega arith in
          record {
            most = omega (arith, more, room);
            whole = rw (members, more) (step room);
            waiting = rw members waiting_on;
            thread = λ x z. elim (add_cases c (among l) x (subst (λ q. T (q x)) members z)) [
              | inl y ↦
                  rw y
                  (placed-low c (add-self c (among l)) ∙ here ∙ g.last-is
                  ∙ sym (prior-end 255 l c new))
              | inr y ↦
                  placed-low x (add-more c (among l) x y)
                  ∙ there x (λ u. clash (among l c) (subst (λ v. T (among l v)) u y) new)
                  ∙ g.thread x y
                  ∙ sym (prior-more 255 l c x y)
            ];
            last-is = sym (last_of-end 255 l c);
            known = λ x z. elim (add_cases c (among l) x (subst (λ q. T (q x)) members z)) [
              | inl y ↦ rw y h
              | inr y ↦ g.known x y
            ];
            closed = λ a x z p. subst (λ q. T (q a)) (sym members)
                (add-more c (among l) a
                (elim (add_cases c (among l) x (subst (λ q. T (q x)) members z)) [
                  | inl y ↦ after a (subst (λ b. T (precedes (shape_of t) a b)) y p)
                  | inr y ↦ g.closed a x y p
                ]));
          }
        where
          step : length l < call_count t
              → placed_of t
              ≡ (l ++ (c ∷ []))
              ++ sort (call_count t) (precedes (shape_of t)) (call_count t - suc (length l))
              (add c (among l))
          step room =
              let n : call_count t - length l ≡ suc (call_count t - suc (length l)) = omega arith in
              let one =
              sort-step (call_count t) (precedes (shape_of t)) (call_count t - suc (length l))
              (among l)
              (rw (← e) h) in
              g.whole
              ∙ ap (λ r. l ++ r)
              (ap (λ k. sort (call_count t) (precedes (shape_of t)) k (among l)) n ∙ one ∙ rw (← e))
              ∙ sym (append_assoc l (c ∷ [])
              (sort (call_count t) (precedes (shape_of t)) (call_count t - suc (length l))
              (add c (among l))))
