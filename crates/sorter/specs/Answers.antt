-- What is answered, case by case.
use Rattle.std.specs.Prelude.{
  ◌≡◌,
  refl,
  Bool,
  true,
  false,
  cond,
  List,
  [],
  ℕ,
  ◌≤◌,
  ◌<◌,
  eqb,
  leb,
  length,
}
use Rattle.std.proofs.Common.{sym}
use borrow.Author.Tests.{le-leb, lt-leb, eqb-true}
use Rattle.search.specs.Truth.{is_true, is_false, eq_true, eq_false}
use Rattle.table.specs.Check.{refusal}
use Rattle.table.specs.Outcome.{Outcome, outcome}
use Rattle.placing.specs.Placing.{call_count, placed_of}
use Rattle.sorter.specs.Ordering.{shown_of, settled, ordering}

module _ (t : List ℕ) (room : ℕ) where
  pub ordering-unsound : (refusal t ≡ 0 → ⊥) → ordering t room ≡ outcome (refusal t) 0 []
  unfolding ordering
  ordering-unsound n = rw (is_false (eqb (refusal t) 0) (eq_false (refusal t) 0 n))

  pub ordering-short : refusal t ≡ 0 → room < call_count t → ordering t room ≡ outcome 8 0 []
  unfolding ordering
  ordering-short e h = rw (e, lt-leb (call_count t) room h)

  pub ordering-settled : refusal t ≡ 0 → call_count t ≤ room → ordering t room ≡ settled t
  unfolding ordering
  ordering-settled e h = rw (e, le-leb (call_count t) room h)

module _ (t : List ℕ) where
  pub settled-all : length (placed_of t) ≡ call_count t
      → settled t ≡ outcome 0 (call_count t) (placed_of t)
  unfolding settled
  settled-all e =
      rw (is_true (eqb (length (placed_of t)) (call_count t))
      (eq_true (length (placed_of t)) (call_count t) e))

  pub settled-some : (length (placed_of t) ≡ call_count t → ⊥)
      → settled t ≡ outcome 9 (length (shown_of t)) (shown_of t)
  unfolding settled
  settled-some n =
      rw (is_false (eqb (length (placed_of t)) (call_count t))
      (eq_false (length (placed_of t)) (call_count t) n))

abbrev Long : Outcome → Type 0
Long o = o.answer.place ≡ length o.bytes

-- the place tells how many bytes are written
pub ordering-long : (t : List ℕ) (room : ℕ)
    → (ordering t room).answer.place ≡ length (ordering t room).bytes
unfolding ordering settled
ordering-long t room =
    go (eqb (refusal t) 0) (leb (call_count t) room) (eqb (length (placed_of t)) (call_count t))
    refl
  where
    go : (a b c : Bool) → eqb (length (placed_of t)) (call_count t) ≡ c → Long
        (cond a
        (cond b
        (cond c (outcome 0 (call_count t) (placed_of t))
        (outcome 9 (length (shown_of t)) (shown_of t)))
        (outcome 8 0 []))
        (outcome (refusal t) 0 []))
    go false b c e = refl
    go true false c e = refl
    go true true true e = sym (eqb-true _ _ e)
    go true true false e = refl
