-- The cycle that the walk meets, where not all calls are placed; and what it is turned to.
use Rattle.std.proofs.Common.{◌≡◌, refl, sym, subst, ◌∙◌, arith, List, ℕ, ◌≤◌, ◌<◌, T, not, length}
use Rattle.std.proofs.Common.{get_or, Bool, MatchOption, Option, Some, None, IsSome}
use Rattle.search.specs.Truth.{clash}
use Rattle.search.specs.Least.{least_from}
use Rattle.search.specs.Front.{fronted}
use Rattle.table.specs.Packed.{shape_of}
use Rattle.calls.specs.Precedence.{precedes}
use Rattle.orders.specs.Walk.{among, met, lowest_left}
use Rattle.orders.specs.Turn.{turn, lowest_place, shown}
use Rattle.orders.specs.Turned.{turn-length, lowest_place-is, at-among}
use Rattle.orders.specs.Cycle.{Cycle}
use Rattle.orders.specs.Once.{once-most}
use Rattle.orders.proofs.Again.{placed-meets, met-cycle, met-once}
use Rattle.orders.proofs.Remains.{placed-calls, left_one}
use Rattle.placing.specs.Placing.{call_count, placed_of}
use Rattle.sorter.specs.Ordering.{shown_of}

-- ---- the thread holds the calls that were placed
pub placed_below : (t placed : List ℕ) → placed ≡ placed_of t → call_count t ≤ 224 → (c : ℕ)
    → T (among placed c) → c < 224
unfolding placed_of
placed_below t placed e f c h =
    let (i, l, p) = at-among c (placed_of t) (subst (λ k. T (among k c)) e h) in
    omega (arith, p, placed-calls (call_count t) (precedes (shape_of t)) i l)

-- ---- the walk
-- the lowest that has no mark is where it begins
pub begins : (t : List ℕ) (q : ℕ → Bool) (n c : ℕ) → q ≡ among (placed_of t) → n ≡ call_count t
    → c ≡ least_from (λ a. not (q a)) n 0
    → c ≡ lowest_left (call_count t) (precedes (shape_of t)) (among (placed_of t))
unfolding lowest_left
begins t q n c e f g = g ∙ rw (e, f)

-- what it meets
abbrev pub cycle_met : List ℕ → List ℕ
cycle_met t = met (call_count t) (precedes (shape_of t)) (among (placed_of t))

-- ---- where not all are placed
module _ (t : List ℕ) (early : length (placed_of t) < call_count t) where
  -- one is left
  pub one_left : (q : ℕ → Bool) (n : ℕ) (r : Option ℕ) → q ≡ among (placed_of t)
      → n ≡ call_count t
      → MatchOption r ((c : ℕ) → c < n → T (q c))
      (λ c. (c < n) × (c ≡ least_from (λ a. not (q a)) n 0))
      → IsSome r
  unfolding placed_of
  one_left q n (Some c) e f m = refl
  one_left q n None e f all =
      let (c, h, u) = left_one (call_count t) (precedes (shape_of t)) early in
      absurd
      (clash (among (placed_of t) c) (subst (λ (p : ℕ → Bool). T (p c)) e (all c (omega arith))) u)

  -- what the walk meets is a cycle, and no longer than N
  pub met_is : Cycle (call_count t) (precedes (shape_of t)) (cycle_met t)
  unfolding placed_of
  met_is =
      met-cycle (call_count t) (precedes (shape_of t)) (among (placed_of t))
      (placed-meets (call_count t) (precedes (shape_of t)) early)

  pub met_few : length (cycle_met t) ≤ call_count t
  unfolding placed_of
  met_few =
      once-most (call_count t) (cycle_met t) met_is.calls
      (met-once (call_count t) (precedes (shape_of t)) (among (placed_of t))
      (placed-meets (call_count t) (precedes (shape_of t)) early))

  -- turned, it is what is shown
  pub shown_turned : (cycle after out : List ℕ) → cycle ≡ cycle_met t
      → ((n : ℕ) → ((i : ℕ) → i < length cycle → get_or cycle i 0 < n)
      → after ≡ fronted (turn (lowest_place n cycle) cycle) out)
      → (length cycle ≡ length (shown_of t)) × (after ≡ fronted (shown_of t) out)
  unfolding shown_of shown
  shown_turned cycle after out e written = (
    rw e
        (sym (turn-length (lowest_place (call_count t) (cycle_met t)) (cycle_met t)
        (lowest_place-is (call_count t) (cycle_met t) met_is.any met_is.calls).0)),
    written (call_count t) (rw e met_is.calls) ∙ rw e,
  )
