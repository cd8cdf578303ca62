-- A search by halves through the ranks, and the ranks with one name more.
use Prim.Native.Nat.{ℕ, ◌+◌, ◌-◌, ◌≤◌, ◌<◌}
use mathlib.Core.Path.{◌≡◌, refl, sym, ap, ◌∙◌}
use mathlib.Core.Logic.{inl, inr}
use mathlib.Core.Bool.{Bool, true, false, not}
use mathlib.Core.List.{List, ◌∷◌}
use native.Mathlib.Omega.{arith}
use native.Mathlib.Decide.{dec_lt, ℕ_discrete}
use lib.ListN.{get_or}
use lib.Dec.{T, eqb}
use borrow.Author.Tests.{eqb-true}
use Rattle.search.specs.Least.{least_from, found, not_found}
use Rattle.search.specs.Truth.{T_and, and_T, either, is_true, eq_true}
use Rattle.grammar.specs.Words.{same}
use Rattle.grammar.specs.Same.{same_true, same_self}
use Rattle.grammar.specs.Rows.{field_at}
use Rattle.notes.specs.Layout.{names_size, owners_base}
use Rattle.notes.specs.Compared.{compared}
use Rattle.notes.specs.Ranks.{name_at, key_at, rank_at, Ranked, Between, Spotted}
use Rattle.notes.specs.Notes.{is_named, named}
use Rattle.notes.proofs.Ordered.{first-before, first-after, first-same}
use Rattle.notes.proofs.Ordered.{compared-low, compared-self, compared_equal}
use Rattle.notes.proofs.Ordered.{before-after, after-before, before-before}

-- ---- a name is the one sought where its key is

module _ (t p s : List ℕ) (u : ℕ) (w : List ℕ) (k : ℕ) where
  pub key-named : key_at t p s k ≡ u ∷ w → T (is_named t p s u w k)
  unfolding key_at is_named
  key-named e =
      and_T (eqb (get_or s (owners_base + k) 0) u) (same (name_at t p k) w)
      (eq_true (get_or s (owners_base + k) 0) u (ap (λ l. get_or l 0 0) e))
      (rw (ap (λ l. lib.ListN.drop 1 l) e) (same_self w))

  pub named-key : T (is_named t p s u w k) → key_at t p s k ≡ u ∷ w
  unfolding key_at is_named
  named-key h =
      let (a, e) = T_and (eqb (get_or s (owners_base + k) 0) u) (same (name_at t p k) w) h in
      rw (eqb-true (get_or s (owners_base + k) 0) u (is_true _ a), same_true (name_at t p k) w e)

-- ---- a key compared: the owner first

module _ (t p s : List ℕ) (k u : ℕ) (w : List ℕ) where
  pub owner-before : get_or s (owners_base + k) 0 < u → 0 ≡ compared (key_at t p s k) (u ∷ w)
  unfolding key_at
  owner-before h = sym (first-before _ _ _ _ h)

  pub owner-after : u < get_or s (owners_base + k) 0 → 2 ≡ compared (key_at t p s k) (u ∷ w)
  unfolding key_at
  owner-after h = sym (first-after _ _ _ _ h)

  pub owner-same : get_or s (owners_base + k) 0 ≡ u → (a : ℕ) → a ≡ get_or p k 0
      → compared (field_at t a) w ≡ compared (key_at t p s k) (u ∷ w)
  unfolding key_at name_at
  owner-same e a z = rw z (sym (first-same _ _ _ _ e))

pub none-ranked : (t p s : List ℕ) (b : ℕ) → b ≤ names_size → Ranked t p s b 0
none-ranked t p s b h = record {
  low = omega arith;
  number = λ i g. absurd (omega arith);
  order = λ i j g k. absurd (omega arith);
  rank = λ k g. absurd (omega arith);
}

-- ---- the search

module _ (t p s : List ℕ) (b n : ℕ) (f : Ranked t p s b n) (u : ℕ) (w : List ℕ) where
  abbrev at : ℕ → List ℕ
  at i = rank_at t p s b i

  abbrev beside : ℕ → ℕ
  beside i = compared (at i) (u ∷ w)

  pub all_open : Between t p s b n u w 0 n
  all_open = record {
    low = omega arith;
    high = omega arith;
    before = λ i h. absurd (omega arith);
    after = λ i h g. absurd (omega arith);
  }

  -- side is what the name in the middle is beside the one sought
  module _ (lo hi mid : ℕ) (o : Between t p s b n u w lo hi) (l : lo ≤ mid) (h : mid < hi) where
    pub middle : get_or s (b + mid) 0 < n
    middle = f.number mid (omega (arith, o.high))

    module _ (side : ℕ) (q : side ≡ beside mid) where
      pub spot-taken : side ≡ 1 → Spotted t p s b n u w mid true
      spot-taken e = record {
        taken = λ z. (omega (arith, o.high), sym q ∙ e);
        free = λ z. absurd (mathlib.Core.Bool.true≢false z);
      }

      pub upper_half : side ≡ 0 → Between t p s b n u w (mid + 1) hi
      upper_half e = record {
        low = omega arith;
        high = o.high;
        before = λ i g. elim (ℕ_discrete i mid) [
          | yes z ↦ rw z (sym q ∙ e)
          | no z ↦ before-before (at i) (at mid) (u ∷ w)
              (f.order i mid (omega arith) (omega (arith, o.high))) (sym q ∙ e)
        ];
        after = o.after;
      }

      pub lower_half : (side ≡ 1 → ⊥) → (side ≡ 0 → ⊥) → Between t p s b n u w lo mid
      lower_half c d = record {
        low = l;
        high = omega (arith, o.high);
        before = o.before;
        after = λ i g k. elim (ℕ_discrete i mid) [
          | yes z ↦ rw z e
          | no z ↦ before-after (u ∷ w) (at i)
              (before-before (u ∷ w) (at mid) (at i) (after-before (at mid) (u ∷ w) e)
              (f.order mid i (omega arith) k))
        ];
      }
        where
          e : beside mid ≡ 2
          e = let z : beside mid ≤ 2 = compared-low (at mid) (u ∷ w) in omega (arith, c, d)

  pub spot-free : (lo hi : ℕ) → Between t p s b n u w lo hi → hi ≤ lo
      → Spotted t p s b n u w lo false
  spot-free lo hi o h = record {
    taken = λ z. absurd (mathlib.Core.Bool.true≢false (sym z));
    free = λ z. (rw (let e : hi ≡ lo = omega (arith, o.low) in e) at o);
  }

  -- a name before or after the one sought is another name
  other : (k : ℕ) → (key_at t p s (b + k) ≡ u ∷ w → ⊥) → T (not (named t p s b u w k))
  other k n = elim (either (named t p s b u w k)) [
    | inl h ↦ absurd (n (named-key t p s u w (b + k) h))
    | inr h ↦ h
  ]

  -- the key of number k, by its rank
  by_rank : (i k : ℕ) → get_or s (b + i) 0 ≡ k → at i ≡ key_at t p s (b + k)
  by_rank i k e = rw e

  -- the number of the rank that the search found
  pub taken-least : (i : ℕ) (h : Bool) → Spotted t p s b n u w i h → h ≡ true
      → get_or s (b + i) 0 ≡ least_from (named t p s b u w) n 0
  taken-least i h o y =
      found (named t p s b u w) n (get_or s (b + i) 0) (f.number i (o.taken y).0)
      (λ k h. other k (λ e. only k h e (f.rank k (omega (arith, f.number i (o.taken y).0)))))
      (key-named t p s u w (b + get_or s (b + i) 0) here)
    where
      here : at i ≡ u ∷ w
      here = compared_equal (at i) (u ∷ w) (o.taken y).1

      -- two ranks of one key are one
      only : (k : ℕ) → k < get_or s (b + i) 0 → key_at t p s (b + k) ≡ u ∷ w
          → (j : ℕ) × (j < n) × (get_or s (b + j) 0 ≡ k) → ⊥
      only k h e (j, g, z) =
          let a : at j ≡ u ∷ w = by_rank j k z ∙ e in
          let q : compared (at j) (at i) ≡ 1 = rw (a, here) (compared-self (u ∷ w)) in
          let r : compared (at i) (at j) ≡ 1 = rw (a, here) (compared-self (u ∷ w)) in
          elim (dec_lt i j) [
            | yes m ↦ omega (arith, f.order i j m g)
            | no m ↦ elim (dec_lt j i) [
              | yes v ↦ omega (arith, f.order j i v (o.taken y).0)
              | no v ↦ let x : i ≡ j = omega arith in
                  omega (arith, ap (λ y. get_or s (b + y) 0) x)
            ]
          ]

  pub taken-low : (i : ℕ) (h : Bool) → Spotted t p s b n u w i h → h ≡ true
      → least_from (named t p s b u w) n 0 < n
  taken-low i h o y = omega (arith, taken-least i h o y, f.number i (o.taken y).0)

  -- where it found none
  pub free-least : (i : ℕ) (h : Bool) → Spotted t p s b n u w i h → h ≡ false
      → n ≡ least_from (named t p s b u w) n 0
  free-least i h o y =
      not_found (named t p s b u w) n n (omega arith) (omega arith)
      (λ k h. other k (λ e. none k e (f.rank k h)))
    where
      none : (k : ℕ) → key_at t p s (b + k) ≡ u ∷ w → (j : ℕ) × (j < n) × (get_or s (b + j) 0 ≡ k)
          → ⊥
      none k e (j, g, z) =
          let a : beside j ≡ 1 = rw (by_rank j k z ∙ e) (compared-self (u ∷ w)) in
          elim (dec_lt j i) [
            | yes m ↦ omega (arith, (o.free y).before j m)
            | no m ↦ omega (arith, (o.free y).after j (omega arith) g)
          ]

  -- ---- one spot at most

  -- what is open at one rank alone is open at no other
  pub open_one : (i j : ℕ) → Between t p s b n u w i i → Between t p s b n u w j j → i ≡ j
  open_one i j o v = elim (dec_lt i j) [
    | yes h ↦ absurd (omega
        (arith, v.before i h, o.after i (omega arith) (omega (arith, v.high))))
    | no h ↦ elim (dec_lt j i) [
      | yes g ↦ absurd (omega
          (arith, o.before j g, v.after j (omega arith) (omega (arith, o.high))))
      | no g ↦ omega arith
    ]
  ]

  -- a taken rank is open nowhere
  shut_open : (i j : ℕ) → (i < n) × (beside i ≡ 1) → Between t p s b n u w j j → ⊥
  shut_open i j (l, e) o = elim (dec_lt i j) [
    | yes h ↦ omega (arith, o.before i h)
    | no h ↦ omega (arith, o.after i (omega arith) l)
  ]

  taken-one : (i j : ℕ) → (i < n) × (beside i ≡ 1) → (j < n) × (beside j ≡ 1) → i ≡ j
  taken-one i j (l, e) (m, g) =
      let x : at i ≡ u ∷ w = compared_equal (at i) (u ∷ w) e in
      let y : at j ≡ u ∷ w = compared_equal (at j) (u ∷ w) g in
      let z : compared (at i) (at j) ≡ 1 = rw (x, y) (compared-self (u ∷ w)) in
      let v : compared (at j) (at i) ≡ 1 = rw (x, y) (compared-self (u ∷ w)) in
      elim (dec_lt i j) [
        | yes h ↦ absurd (omega (arith, f.order i j h m))
        | no h ↦ elim (dec_lt j i) [
          | yes k ↦ absurd (omega (arith, f.order j i k l))
          | no k ↦ omega arith
        ]
      ]

  pub spot-one : (i j : ℕ) (h g : Bool) → Spotted t p s b n u w i h → Spotted t p s b n u w j g
      → (i ≡ j) × (h ≡ g)
  spot-one i j true true x y = (taken-one i j (x.taken refl) (y.taken refl), refl)
  spot-one i j false false x y = (open_one i j (x.free refl) (y.free refl), refl)
  spot-one i j true false x y = absurd (shut_open i j (x.taken refl) (y.free refl))
  spot-one i j false true x y = absurd (shut_open j i (y.taken refl) (x.free refl))
