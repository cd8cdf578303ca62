-- The cycle turned: the first place of a call, the lowest call, and its two parts as written.
use Rattle.std.specs.Prelude.{◌≡◌, List, ℕ, ◌+◌, ◌≤◌, ◌<◌, T, eqb, length, get_or, take, drop}
use Rattle.std.specs.Prelude.{Contains, EachIndex, Some, IsSome, ◌==◌}
use Rattle.std.specs.List.{position, position_or_len, enumerate_from}
use Rattle.std.proofs.Common.{refl, ap, subst, ◌∙◌, arith, zero-add, add-one, set}
use Rattle.std.proofs.lemmas.List.{get_or_default}
use Rattle.std.proofs.Math.Decide.{dec_lt}
use Rattle.std.proofs.Math.Dec.{not_T}
use Rattle.std.proofs.Math.Seq.{drop-cons}
use Rattle.std.proofs.lemmas.List.Quantifiers.{position-Some}
use Rattle.std.proofs.lemmas.List.Sums.{fails_before_first}
use Rattle.std.proofs.lemmas.List.FromFn.{get_or-enumerate_from, length-enumerate_from}
use borrow.Author.Tests.{lt-ltb, eqb-true}
use Rattle.search.specs.Truth.{holds, fails, clash, eq_true}
use Rattle.search.specs.Front.{Fronting, fronting_on}
use Rattle.search.specs.Least.{least_from, found}
use Rattle.orders.specs.Walk.{among, upto}
use Rattle.orders.proofs.Walked.{upto_take}
use Rattle.orders.specs.Turn.{lowest_of, lowest_place}
use Rattle.orders.specs.Turned.{at-among, among-at}

-- ---- the first place of a byte
module _ (l : List ℕ) (c : ℕ) where
  pub place_is : (p : ℕ) → position (λ b. b == c) l ≡ Some p
      → p ≡ least_from (λ i. eqb (get_or l i 0) c) (length l) 0
  place_is p e =
      let (h, t, b) = position-Some (λ b. b == c) l p 0 e in
      found (λ i. eqb (get_or l i 0) c) (length l) p h (λ k g. fails _ (b k g)) (holds _ t)

  -- the front of the list up to it
  pub upto_place : (p : ℕ) → position (λ b. b == c) l ≡ Some p → upto c l ≡ take (p + 1) l
  upto_place p e =
      let (h, t, b) = position-Some (λ b. b == c) l p 0 e in
      upto_take l c p h (eqb-true _ _ t)
      (λ i k same. clash (eqb (get_or l i 0) c) (eq_true _ _ same) (fails _ (b i k)))
      ∙ rw add-one

  -- one that is there has a place
  pub among_contains : Contains l c → T (among l c)
  among_contains (i, h, e) =
      subst (λ x. T (among l x)) (get_or_default l i 0 c h ∙ e) (among-at l i h)

  pub place_some : T (among l c) → IsSome (position (λ b. b == c) l)
  place_some t =
      let (i, h, e) = at-among c l t in
      elim (dec_lt (position_or_len (λ b. b == c) l) (length l)) [
        | yes p ↦ rw (lt-ltb _ _ p) refl
        | no p ↦
            absurd
            (clash (eqb (get_or l i 0) c) (eq_true _ _ e)
            (fails _ (fails_before_first (λ b. b == c) l i 0 (omega arith))))
      ]

-- ---- the lowest call
module _ (cycle : List ℕ) (low first n : ℕ) (some : 0 < length cycle)
    (calls : (i : ℕ) → i < length cycle → get_or cycle i 0 < n) (has : Contains cycle low)
    (least : EachIndex cycle (λ i. low ≤ get_or cycle i 0)) where
  low_is : low ≡ lowest_of n cycle
  unfolding lowest_of
  low_is =
      let (i, h, e) = at-among low cycle (among_contains cycle low has) in
      found (among cycle) n low (omega (arith, calls i h))
      (λ c g. not_T (among cycle c)
      (λ t. let (j, k, e) = at-among c cycle t in omega (arith, least j k)))
      (among_contains cycle low has)

  pub turned_at : position (λ b. b == low) cycle ≡ Some first → first ≡ lowest_place n cycle
  unfolding lowest_place
  turned_at e =
      place_is cycle low first e
      ∙ ap (λ c. least_from (λ i. eqb (get_or cycle i 0) c) (length cycle) 0) low_is

-- ---- its two parts, one behind the other at the front of the buffer
-- what the loop over them gives in its k-th turn
pub stands : (whole : List ℕ) (k place call : ℕ) → k < length (enumerate_from 0 whole)
    → (place, call) ≡ get_or (enumerate_from 0 whole) k (place, call)
    → (k < length whole) × (place ≡ k) × (call ≡ get_or whole k 0)
stands whole k place call h e =
    let long : k < length whole = rw length-enumerate_from at h in
    let pair = e ∙ get_or-enumerate_from 0 whole k (place, call) long in (
      long,
      ap (λ (p : ℕ × ℕ). p.0) pair ∙ zero-add k,
      ap (λ (p : ℕ × ℕ). p.1) pair ∙ get_or_default whole k call 0 long,
    )

-- and what is written once that turn is done
pub front_on : (whole out₀ out : List ℕ) (k j place call : ℕ) → k < length whole → place ≡ k
    → call ≡ get_or whole k 0 → j ≡ k + 1 → k < length out
    → Fronting whole (drop k whole) out₀ out k
    → Fronting whole (drop j whole) out₀ (set out place call) j
front_on whole out₀ out k j place call h p e f room g =
    rw (f, p)
    (fronting_on whole (drop (k + 1) whole) out₀ out k call room
    (subst (λ r. Fronting whole r out₀ out k) (drop-cons whole k 0 h ∙ rw (e, add-one)) g))
