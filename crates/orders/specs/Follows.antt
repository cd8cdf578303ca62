-- Keeping the rules said call by call, from a set of calls that are done: the form for inductions.
use Rattle.std.specs.Prelude.{
  ◌≡◌,
  refl,
  ◌≢◌,
  Bool,
  not,
  List,
  [],
  ◌∷◌,
  ℕ,
  zero,
  suc,
  ◌+◌,
  ◌<◌,
  T,
  length,
  get_or,
}
use Rattle.std.proofs.Common.{sym, ap, inl, inr, arith}
use Rattle.std.proofs.Math.Decide.{ℕ_discrete}
use Rattle.search.specs.Truth.{either, clash}
use Rattle.search.specs.Sets.{none, add, not-add, add-not}
use Rattle.search.specs.Count.{count, count-all, count_add}
use Rattle.orders.specs.Keeps.{Keeps}

module _ (N : ℕ) (pred : ℕ → ℕ → Bool) where
  -- each call is new and its direct predecessors are done; at the end all N are done
  abbrev pub Follows : (ℕ → Bool) → List ℕ → Type 0
  Follows done [] = (c : ℕ) → c < N → T (done c)
  Follows done (c ∷ l) =
      (c < N) × T (not (done c)) × ((a : ℕ) → a < N → T (pred a c) → T (done a))
      × Follows (add c done) l

  -- such a list has as many calls as were not done
  pub follows_length : (done : ℕ → Bool) (l : List ℕ) → Follows done l → length l + count done N ≡ N
  follows_length done [] f = omega (arith, count-all done N f)
  follows_length done (c ∷ l) f =
      omega (arith, follows_length (add c done) l f.3, count_add done c N f.0 f.1)

  -- ---- from places to calls: the same by places, from a set of calls that are done
  record From (done : ℕ → Bool) (l : List ℕ) : Type 0 where
    calls : (i : ℕ) → i < length l → get_or l i 0 < N
    fresh : (i : ℕ) → i < length l → T (not (done (get_or l i 0)))
    holds : (c : ℕ) → c < N → T (not (done c)) → (i : ℕ) × (i < length l) × (get_or l i 0 ≡ c)
    once : (i j : ℕ) → i < length l → j < length l → get_or l i 0 ≡ get_or l j 0 → i ≡ j
    rules : (i j : ℕ) → i < length l → j < length l → T (pred (get_or l i 0) (get_or l j 0)) → i < j

  in_tail : (c : ℕ) (l : List ℕ) (x : ℕ) → x ≢ c → (i : ℕ) → i < length (c ∷ l)
      → get_or (c ∷ l) i 0 ≡ x
      → (j : ℕ) × (j < length l) × (get_or l j 0 ≡ x)
  in_tail c l x ne zero h e = absurd (ne (sym e))
  in_tail c l x ne (suc i) h e = (i, omega arith, e)

  -- without its first call, from one call more
  from_tail : (done : ℕ → Bool) (c : ℕ) (l : List ℕ) → From done (c ∷ l) → From (add c done) l
  from_tail done c l k = record {
    calls = λ i h. k.calls (suc i) (omega arith);
    fresh = λ i h. not-add c done (get_or l i 0)
        (λ e. let z = k.once (suc i) 0 (omega arith) (omega arith) e in omega arith)
        (k.fresh (suc i) (omega arith));
    holds = λ x h t.
        let (ne, f) = add-not c done x t in
        let (i, hi, e) = k.holds x h f in
        in_tail c l x ne i hi e;
    once =
        λ i j hi hj e. let z = k.once (suc i) (suc j) (omega arith) (omega arith) e in omega arith;
    rules = λ i j hi hj t. let z = k.rules (suc i) (suc j) (omega arith) (omega arith) t in
        omega arith;
  }

  from→follows : (done : ℕ → Bool) (l : List ℕ) → From done l → Follows done l
  from→follows done [] k = λ c h. elim (either (done c)) [
    | inl t ↦ t
    | inr t ↦ absurd (let (i, hi, e) = k.holds c h t in omega arith)
  ]
  from→follows done (c ∷ l) k = (
    k.calls 0 (omega arith),
    k.fresh 0 (omega arith),
    (λ a h t. elim (either (done a)) [
      | inl d ↦ d
      | inr d ↦
          absurd
          (let (i, hi, e) = k.holds a h d in omega (arith, k.rules i 0 hi (omega arith) (rw e t)))
    ]),
    from→follows (add c done) l (from_tail done c l k),
  )

  -- ---- from calls to places
  follows_calls : (done : ℕ → Bool) (l : List ℕ) → Follows done l → (i : ℕ) → i < length l
      → get_or l i 0 < N
  follows_calls done [] f i h = absurd (omega arith)
  follows_calls done (c ∷ l) f zero h = f.0
  follows_calls done (c ∷ l) f (suc i) h = follows_calls (add c done) l f.3 i (omega arith)

  follows_fresh : (done : ℕ → Bool) (l : List ℕ) → Follows done l → (i : ℕ) → i < length l
      → T (not (done (get_or l i 0)))
  follows_fresh done [] f i h = absurd (omega arith)
  follows_fresh done (c ∷ l) f zero h = f.1
  follows_fresh done (c ∷ l) f (suc i) h =
      (add-not c done (get_or l i 0) (follows_fresh (add c done) l f.3 i (omega arith))).1

  -- a later call is not the first one
  follows_other : (done : ℕ → Bool) (c : ℕ) (l : List ℕ) → Follows done (c ∷ l) → (i : ℕ)
      → i < length l
      → get_or l i 0 ≢ c
  follows_other done c l f i h =
      (add-not c done (get_or l i 0) (follows_fresh (add c done) l f.3 i h)).0

  follows_holds : (done : ℕ → Bool) (l : List ℕ) → Follows done l → (c : ℕ) → c < N
      → T (not (done c))
      → (i : ℕ) × (i < length l) × (get_or l i 0 ≡ c)
  follows_holds done [] f c h t = absurd (clash (done c) (f c h) t)
  follows_holds done (x ∷ l) f c h t = elim (ℕ_discrete c x) [
    | yes e ↦ (0, omega arith, sym e)
    | no ne ↦
        (let (i, hi, e) = follows_holds (add x done) l f.3 c h (not-add x done c ne t) in
        (suc i, omega arith, e))
  ]

  follows_once : (done : ℕ → Bool) (l : List ℕ) → Follows done l → (i j : ℕ) → i < length l
      → j < length l
      → get_or l i 0 ≡ get_or l j 0 → i ≡ j
  follows_once done [] f i j hi hj e = absurd (omega arith)
  follows_once done (c ∷ l) f zero zero hi hj e = refl
  follows_once done (c ∷ l) f zero (suc j) hi hj e =
      absurd (follows_other done c l f j (omega arith) (sym e))
  follows_once done (c ∷ l) f (suc i) zero hi hj e =
      absurd (follows_other done c l f i (omega arith) e)
  follows_once done (c ∷ l) f (suc i) (suc j) hi hj e =
      ap suc (follows_once (add c done) l f.3 i j (omega arith) (omega arith) e)

  follows_rules : (done : ℕ → Bool) (l : List ℕ) → Follows done l → (i j : ℕ) → i < length l
      → j < length l
      → T (pred (get_or l i 0) (get_or l j 0)) → i < j
  follows_rules done [] f i j hi hj e = absurd (omega arith)
  follows_rules done (c ∷ l) f i zero hi hj t =
      absurd
      (clash (done (get_or (c ∷ l) i 0))
      (f.2 (get_or (c ∷ l) i 0) (follows_calls done (c ∷ l) f i hi) t)
      (follows_fresh done (c ∷ l) f i hi))
  follows_rules done (c ∷ l) f zero (suc j) hi hj t = omega arith
  follows_rules done (c ∷ l) f (suc i) (suc j) hi hj t =
      omega (arith, follows_rules (add c done) l f.3 i j (omega arith) (omega arith) t)

  -- ---- the two forms are one
  pub keeps→follows : (l : List ℕ) → Keeps N pred l → Follows none l
  keeps→follows l k = from→follows none l (record {
    calls = k.calls;
    fresh = λ i h. tt;
    holds = λ c h t. k.holds c h;
    once = k.once;
    rules = k.rules;
  })

  pub follows→keeps : (l : List ℕ) → Follows none l → Keeps N pred l
  follows→keeps l f = record {
    calls = follows_calls none l f;
    holds = λ c h. follows_holds none l f c h tt;
    once = follows_once none l f;
    rules = follows_rules none l f;
  }
