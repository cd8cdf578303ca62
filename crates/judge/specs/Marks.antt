-- The marks of a judged run as a set of calls: SPECIFICATION, Judging 1.
use Rattle.std.specs.Prelude.{
  ◌≡◌,
  Bool,
  true,
  false,
  ◌&&◌,
  List,
  ℕ,
  ◌<◌,
  eqb,
  ltb,
  length,
  get_or,
  set,
  replicate,
}
use Rattle.std.proofs.Math.Path.{fun_ext}
use Rattle.std.proofs.Common.{arith, get_or-set_same, get_or-set_other}
use Rattle.std.proofs.Math.Decide.{ℕ_discrete, dec_lt}
use Rattle.std.proofs.Math.Dec.{eqb_refl}
use Rattle.std.proofs.lemmas.List.{get_or-replicate}
use Rattle.search.specs.Truth.{is_true, is_false, eq_false, lt_true, lt_false}
use Rattle.search.specs.Sets.{none, add}

-- the calls that are marked as done, all of them below 224
unfoldable pub marks : List Bool → ℕ → Bool
marks done c = ltb c 224 && get_or done c false

-- ---- laws of the marks

-- nothing is marked at the start
pub marks-none : marks (replicate 224 false) ≡ none
unfolding marks
marks-none = fun_ext (λ c. elim (dec_lt c 224) [
  | yes h ↦ rw (lt_true c 224 h, get_or-replicate {A = Bool} 224 c false false h)
  | no h ↦ rw (lt_false c 224 (omega arith))
])

-- one more mark is one more call
pub marks-set : (done : List Bool) (c : ℕ) → c < 224 → length done ≡ 224
    → marks (set done c true) ≡ add c (marks done)
unfolding marks
marks-set done c h e = fun_ext (λ x. elim (ℕ_discrete x c) [
  | yes z ↦
      rw (
        z,
        lt_true c 224 h,
        get_or-set_same done c true false (omega arith),
        is_true (eqb c c) (eqb_refl c),
      )
  | no z ↦ rw (get_or-set_other done c x true false z, is_false (eqb x c) (eq_false x c z))
])
