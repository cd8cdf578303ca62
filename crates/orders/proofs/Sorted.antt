-- What the order's procedure gives: where it places all, the first order.
use Rattle.std.specs.Prelude.{◌≡◌, Bool, not, List, [], ◌∷◌, length}
use Rattle.std.proofs.Math.Path.{refl}
use Rattle.std.proofs.Common.{sym, arith}
use Rattle.std.proofs.Math.Logic.{inl, inr}
use Prim.Native.Nat.{ℕ, zero, suc, ◌+◌, ◌≤◌, ◌<◌}
use Rattle.std.proofs.Math.Decide.{dec_lt, dec_le}
use Rattle.std.proofs.Math.Dec.{T}
use Rattle.search.specs.Truth.{T_and, and_T, either, clash, fails, lt_true, lt_false}
use Rattle.search.specs.Sets.{none, add}
use Rattle.search.specs.Every.{some, some_no, found_some}
use Rattle.search.specs.Least.{lowest-is}
use Rattle.search.specs.Count.{count, count_none, count_add, count-full}
use Rattle.orders.specs.First.{NoLater, First}
use Rattle.orders.specs.Follows.{Follows, keeps→follows, follows→keeps}
use Rattle.orders.specs.Sort.{lacks, ready, next_call, sort, placed}

module _ (N : ℕ) (pred : ℕ → ℕ → Bool) where
  -- ---- a ready call
  abbrev pub Ready : (ℕ → Bool) → ℕ → Type 0
  Ready done c = T (not (done c)) × ((a : ℕ) → a < N → T (pred a c) → T (done a))

  pub ready→Ready : (done : ℕ → Bool) (c : ℕ) → T (ready N pred done c) → Ready done c
  unfolding ready
  ready→Ready done c t =
      let (u, v) = T_and (not (done c)) (not (some (lacks pred done c) N)) t in (
        u,
        λ a h p. elim (either (done a)) [
          | inl d ↦ d
          | inr d ↦
              absurd
              (clash (some (lacks pred done c) N)
              (found_some (lacks pred done c) N a h (and_T (pred a c) (not (done a)) p d)) v)
        ],
      )

  pub Ready→ready : (done : ℕ → Bool) (c : ℕ) → Ready done c → T (ready N pred done c)
  unfolding ready
  Ready→ready done c (u, v) =
      and_T (not (done c)) (not (some (lacks pred done c) N)) u
      (fails (some (lacks pred done c) N)
      (sym (some_no (lacks pred done c) N N (omega arith) none_left)))
    where
      none_left : (a : ℕ) → a < N → T (not (lacks pred done c a))
      none_left a h = elim (either (lacks pred done c a)) [
        | inr n ↦ n
        | inl l ↦ (let (p, q) = T_and (pred a c) (not (done a)) l in
            absurd (clash (done a) (v a h p) q))
      ]

  -- c is the lowest ready call, or N
  pub record Next (done : ℕ → Bool) (c : ℕ) : Type 0 where
    pub high : c ≤ N
    pub is : c < N → Ready done c
    pub least : (a : ℕ) → Ready done a → a < N → c ≤ a

  pub next-is : (done : ℕ → Bool) → Next done (next_call N pred done)
  unfolding next_call
  next-is done =
      let l = lowest-is (ready N pred done) N in
      record {
        high = l.high;
        is = λ h. ready→Ready done (next_call N pred done) (l.passes h);
        least = λ a r h. elim (dec_le (next_call N pred done) a) [
          | yes p ↦ p
          | no p ↦ absurd (clash (ready N pred done a) (Ready→ready done a r)
              (l.below a (omega arith)))
        ];
      }

  -- ---- one call placed, or none ready
  pub sort-step : (n : ℕ) (done : ℕ → Bool) → next_call N pred done < N
      → sort N pred (suc n) done ≡ next_call N pred done
      ∷ sort N pred n (add (next_call N pred done) done)
  unfolding sort
  sort-step n done h = rw (lt_true (next_call N pred done) N h, sort)

  pub sort-stop : (n : ℕ) (done : ℕ → Bool) → N ≤ next_call N pred done → sort N pred n done ≡ []
  unfolding sort
  sort-stop zero done h = refl
  sort-stop (suc n) done h = rw (lt_false (next_call N pred done) N h, sort)

  pub sort-none : (done : ℕ → Bool) → sort N pred 0 done ≡ []
  unfolding sort
  sort-none done = refl

  -- ---- what is placed follows the rules, and comes first
  sort_follows : (n : ℕ) (done : ℕ → Bool) → length (sort N pred n done) + count done N ≡ N
      → Follows N pred done (sort N pred n done)
  unfolding sort
  sort_follows zero done e = count-full done N (omega arith)
  sort_follows (suc n) done e = elim (dec_lt (next_call N pred done) N) [
    | no p ↦
        (let q = sort-stop (suc n) done (omega arith) in
        rw q (count-full done N (let e' = (rw q at e) in omega arith)))
    | yes h ↦
        (let q = sort-step n done h in
        let e' = (rw q at e) in
        let r = (next-is done).is h in
        let a = count_add done (next_call N pred done) N h r.0 in
        rw q (h, r.0, r.1, sort_follows n (add (next_call N pred done) done) (omega arith)))
  ]

  before_cons : (done : ℕ → Bool) (c : ℕ) → Next done c → c < N → (l : List ℕ)
      → ((m : List ℕ) → Follows N pred (add c done) m → NoLater l m)
      → (m : List ℕ) → Follows N pred done m → NoLater (c ∷ l) m
  before_cons done c n hc l ih [] g i h same = absurd (clash (done c) (g c hc) (n.is hc).0)
  before_cons done c n hc l ih (x ∷ m) g zero h same = n.least x (g.1, g.2) g.0
  before_cons done c n hc l ih (x ∷ m) g (suc i) h same =
      let e : c ≡ x = same 0 (omega arith) in
      ih m (rw e g.3) i (omega arith) (λ j hj. same (suc j) (omega arith))

  sort-before : (n : ℕ) (done : ℕ → Bool) (m : List ℕ) → Follows N pred done m
      → NoLater (sort N pred n done) m
  unfolding sort
  sort-before zero done m g = λ i h same. absurd (omega arith)
  sort-before (suc n) done m g = elim (dec_lt (next_call N pred done) N) [
    | no p ↦ rw (sort-stop (suc n) done (omega arith)) (λ i h same. absurd (omega arith))
    | yes h ↦
        (let more = add (next_call N pred done) done in
        rw (sort-step n done h)
        (before_cons done (next_call N pred done) (next-is done) h (sort N pred n more)
        (sort-before n more) m g))
  ]

  -- where all are placed, they stand in the first order
  pub placed_first : length (placed N pred) ≡ N → First N pred (placed N pred)
  unfolding placed
  placed_first e =
      let f = sort_follows N none (omega (arith, count_none none N (λ i h. tt))) in
      record {
        keeps = follows→keeps N pred (placed N pred) f;
        least = λ m k. sort-before N none m (keeps→follows N pred m k);
      }
