-- A cycle begun at another of its places is a cycle; begun at its lowest call, it begins with it.
use Rattle.std.specs.Prelude.{
  ◌≡◌,
  refl,
  ◌⊎◌,
  Bool,
  List,
  [],
  ◌∷◌,
  ℕ,
  zero,
  suc,
  ◌+◌,
  ◌-◌,
  ◌≤◌,
  ◌<◌,
  T,
  length,
  get_or,
  take,
  drop,
}
use Rattle.std.proofs.Common.{
  sym,
  ◌∙◌,
  inl,
  inr,
  arith,
  length-append,
  length-take,
  length-drop,
  get_or-take,
  get_or-drop,
  get_or-append-add,
}
use Rattle.std.proofs.Math.Decide.{ℕ_discrete, dec_lt, dec_le}
use Rattle.std.proofs.Math.Dec.{eqb, eqb→eq, eqb_refl}
use Rattle.std.proofs.Math.ListN.{get_or-append}
use Rattle.search.specs.Truth.{T_or, or_left, or_right, clash}
use Rattle.search.specs.Least.{lowest-is}
use Rattle.orders.specs.Cycle.{Cycle}
use Rattle.orders.specs.Walk.{among}
use Rattle.orders.specs.Turn.{turn, lowest_of, lowest_place}

-- no call has two places
abbrev pub Once : List ℕ → Type 0
Once l = (i j : ℕ) → i < length l → j < length l → get_or l i 0 ≡ get_or l j 0 → i ≡ j

module _ (k : ℕ) (cs : List ℕ) (h : k < length cs) where
  pub turn-length : length (turn k cs) ≡ length cs
  turn-length = simp (length-append, length-drop, length-take) (omega arith)

  pub turn-front : (i j : ℕ) → k + i ≡ j → j < length cs → get_or (turn k cs) i 0 ≡ get_or cs j 0
  turn-front i j e hj =
      let p : i < length (drop k cs) = simp length-drop (omega arith) in
      rw (get_or-append (drop k cs) (take k cs) 0 i p, get_or-drop, e)

  pub turn-back : (i j : ℕ) → k + i ≡ length cs + j → j < k → get_or (turn k cs) i 0 ≡ get_or cs j 0
  turn-back i j e hj =
      let p : i ≡ length (drop k cs) + j = simp length-drop (omega arith) in
      rw (p, get_or-append-add, get_or-take)

  -- the place that a place of the turned list comes from
  from : (i : ℕ) → i < length cs
      → (j : ℕ) × (j < length cs) × ((k + i ≡ j) ⊎ (k + i ≡ length cs + j))
      × (get_or (turn k cs) i 0 ≡ get_or cs j 0)
  from i hi = elim (dec_lt (k + i) (length cs)) [
    | yes p ↦ (k + i, p, inl refl, turn-front i (k + i) refl p)
    | no p ↦ (
      k + i - length cs,
      omega arith,
      inr (omega arith),
      turn-back i (k + i - length cs) (omega arith) (omega arith),
    )
  ]

  pub turn-once : Once cs → Once (turn k cs)
  turn-once o i j hi hj e =
      let n = turn-length in
      let (a, ha, ca, ea) = from i (omega arith) in
      let (b, hb, cb, eb) = from j (omega arith) in
      go a b (o a b ha hb (sym ea ∙ e ∙ eb)) ca cb ha hb n
    where
      go : (a b : ℕ) → a ≡ b → (k + i ≡ a) ⊎ (k + i ≡ length cs + a)
          → (k + j ≡ b) ⊎ (k + j ≡ length cs + b) → a < length cs → b < length cs
          → length (turn k cs) ≡ length cs → i ≡ j
      go a b s (inl p) (inl q) ha hb n = omega arith
      go a b s (inl p) (inr q) ha hb n = omega arith
      go a b s (inr p) (inl q) ha hb n = omega arith
      go a b s (inr p) (inr q) ha hb n = omega arith

  module _ (N : ℕ) (pred : ℕ → ℕ → Bool) (cy : Cycle N pred cs) where
    joint : (i j : ℕ) → suc i ≡ length cs → j ≡ 0 → T (pred (get_or cs i 0) (get_or cs j 0))
    joint i j p q = let r : i ≡ length cs - 1 = omega arith in rw (r, q) cy.last

    turn-next : (i : ℕ) → suc i < length cs
        → T (pred (get_or (turn k cs) i 0) (get_or (turn k cs) (suc i) 0))
    turn-next i hi = elim (dec_lt (k + suc i) (length cs)) [
      | yes p ↦
          rw (
            turn-front i (k + i) refl (omega arith),
            turn-front (suc i) (suc (k + i)) (omega arith) (omega arith),
          )
          (cy.next (k + i) (omega arith))
      | no p ↦ elim (dec_lt (k + i) (length cs)) [
        | yes q ↦
            rw (turn-front i (k + i) refl q, turn-back (suc i) 0 (omega arith) (omega arith))
            (joint (k + i) 0 (omega arith) refl)
        | no q ↦
            (let j = k + i - length cs in
            rw (
              turn-back i j (omega arith) (omega arith),
              turn-back (suc i) (suc j) (omega arith) (omega arith),
            )
            (cy.next j (omega arith)))
      ]
    ]

    turn_last : (z : ℕ) → suc z ≡ length cs
        → T (pred (get_or (turn k cs) z 0) (get_or (turn k cs) 0 0))
    turn_last z e = elim (ℕ_discrete k 0) [
      | yes p ↦
          rw (
            turn-front z z (omega arith) (omega arith),
            turn-front 0 0 (omega arith) (omega arith),
          )
          (joint z 0 e refl)
      | no p ↦
          rw (
            turn-back z (k - 1) (omega arith) (omega arith),
            turn-front 0 (suc (k - 1)) (omega arith) (omega arith),
          )
          (cy.next (k - 1) (omega arith))
    ]

    pub turn-cycle : Cycle N pred (turn k cs)
    turn-cycle =
        let e = turn-length in
        record {
          any = rw e cy.any;
          calls = λ i hi. let (j, hj, w, q) = from i (omega arith) in rw q (cy.calls j hj);
          next = λ i hi. turn-next i (omega arith);
          last = rw e (turn_last (length cs - 1) (omega (arith, cy.any)));
        }

-- ---- the lowest call of a list, and its place
pub among-at : (l : List ℕ) (i : ℕ) → i < length l → T (among l (get_or l i 0))
among-at [] i h = absurd (omega arith)
among-at (x ∷ l) zero h = or_left (eqb x x) (among l x) (eqb_refl x)
among-at (x ∷ l) (suc i) h =
    or_right (eqb (get_or l i 0) x) (among l (get_or l i 0)) (among-at l i (omega arith))

pub at-among : (c : ℕ) (l : List ℕ) → T (among l c) → (i : ℕ) × (i < length l) × (get_or l i 0 ≡ c)
at-among c [] t = absurd t
at-among c (x ∷ l) t = elim (T_or (eqb c x) (among l c) t) [
  | inl e ↦ (0, omega arith, sym (eqb→eq c x e))
  | inr m ↦ (let (i, h, e) = at-among c l m in (suc i, omega arith, e))
]

module _ (N : ℕ) (cs : List ℕ) (some : 0 < length cs)
    (calls : (i : ℕ) → i < length cs → get_or cs i 0 < N) where
  pub lowest_of-le : (i : ℕ) → i < length cs → lowest_of N cs ≤ get_or cs i 0
  unfolding lowest_of
  lowest_of-le i h = elim (dec_le (lowest_of N cs) (get_or cs i 0)) [
    | yes p ↦ p
    | no p ↦
        absurd
        (clash (among cs (get_or cs i 0)) (among-at cs i h)
        ((lowest-is (among cs) N).below (get_or cs i 0) (omega arith)))
  ]

  lowest_of_in : T (among cs (lowest_of N cs))
  unfolding lowest_of
  lowest_of_in = (lowest-is (among cs) N).passes (omega (arith, lowest_of-le 0 some, calls 0 some))

  pub lowest_place-is : (lowest_place N cs < length cs)
      × (get_or cs (lowest_place N cs) 0 ≡ lowest_of N cs)
  unfolding lowest_place
  lowest_place-is =
      let r = lowest_of N cs in
      let l = lowest-is (λ i. eqb (get_or cs i 0) r) (length cs) in
      let (i, h, e) = at-among r cs lowest_of_in in
      elim (dec_lt (lowest_place N cs) (length cs)) [
        | yes p ↦ (p, eqb→eq (get_or cs (lowest_place N cs) 0) r (l.passes p))
        | no p ↦ absurd (clash (eqb (get_or cs i 0) r) (rw e (eqb_refl r))
            (l.below i (omega arith)))
      ]

  pub lowest-first : (i : ℕ) → i < length cs
      → get_or (turn (lowest_place N cs) cs) 0 0 ≤ get_or (turn (lowest_place N cs) cs) i 0
  lowest-first i h =
      let k = lowest_place N cs in
      let (p, e) = lowest_place-is in
      let (j, hj, w, q) = from k cs p i h in
      omega (arith, turn-front k cs p 0 k (omega arith) p, e, q, lowest_of-le j hj)
