-- Laws of counts that fall beside the calls that are ready.
use mathlib.Core.Path.{◌≡◌, refl, sym, ap, ◌∙◌}
use mathlib.Core.Logic.{◌≢◌}
use mathlib.Core.Bool.{Bool, true, false, not, ◌&&◌, ◌||◌, or-false, or-true}
use mathlib.Core.List.{List}
use Prim.Native.Nat.{ℕ, ◌+◌, ◌-◌, ◌≤◌, ◌<◌}
use native.Mathlib.Omega.{arith}
use native.Mathlib.Decide.{ℕ_discrete}
use lib.Dec.{T, eqb, eqb→eq, eqb_refl}
use lib.ListN.{length, get_or, set, length-set}
use lib.Seq.{get_or-set_same, get_or-set_other}
use Rattle.search.specs.Truth.{is_true, is_false, eq_true, eq_false}
use Rattle.search.specs.Count.{bit}
use Rattle.bits.specs.Bits.{has, put, Words}
use Rattle.bits.specs.Laws.{put_has, put-words}
use Rattle.calls.specs.Hits.{hits}
use Rattle.placing.specs.Less.{Less}
use Rattle.placing.specs.Lowered.{once, Lowered}
use Rattle.placing.proofs.Hits.{hits-none, hits_on, hits_miss}

-- what stays as it is frees nothing
unchanged : (p q : Bool) → p ≡ (p || (q && not q))
unchanged true q = refl
unchanged false true = refl
unchanged false false = refl

-- what the first fall frees and what the second does, the second from no more than the first left
twice : (p l m h : Bool) → (T m → T l) → (T h → T m)
    → ((p || (m && not h)) || (l && not m)) ≡ (p || (l && not h))
twice true l m h a b = refl
twice false true true true a b = refl
twice false true true false a b = refl
twice false false true h a b = absurd (a tt)
twice false l false true a b = absurd (b tt)
twice false true false false a b = refl
twice false false false false a b = refl

-- nothing falls
pub lowered_none : (amount : ℕ → ℕ) (w ws : List ℕ) → ((c : ℕ) → amount c ≡ 0) → Words ws
    → Lowered amount w w ws ws
lowered_none amount w ws z ok = record {
  falls = record { long = refl; less = λ c. omega (arith, z c) };
  words = ok;
  freed = λ c. unchanged (has ws c) (eqb (get_or w c 0) 0);
}

pub lowered_as : (a b : ℕ → ℕ) (high low before after : List ℕ) → ((c : ℕ) → a c ≡ b c)
    → Lowered a high low before after → Lowered b high low before after
lowered_as a b high low before after e l = record {
  falls = record { long = l.falls.long; less = λ c. omega (arith, e c, l.falls.less c) };
  words = l.words;
  freed = l.freed;
}

-- two falls, one after the other
pub lowered-both : (a b sum : ℕ → ℕ) (high middle low before between after : List ℕ)
    → ((c : ℕ) → sum c ≡ a c + b c) → Lowered a high middle before between
    → Lowered b middle low between after → Lowered sum high low before after
lowered-both a b sum high middle low before between after e l m = record {
  falls = record {
    long = m.falls.long ∙ l.falls.long;
    less = λ c. omega (arith, e c, l.falls.less c, m.falls.less c);
  };
  words = m.words;
  freed = λ c.
      m.freed c
      ∙ ap (λ p. p || (eqb (get_or low c 0) 0 && not (eqb (get_or middle c 0) 0))) (l.freed c)
      ∙ twice (has before c) (eqb (get_or low c 0) 0) (eqb (get_or middle c 0) 0)
      (eqb (get_or high c 0) 0)
      (λ t. eq_true (get_or low c 0) 0
      (let z = eqb→eq (get_or middle c 0) 0 t in omega (arith, m.falls.less c)))
      (λ t. eq_true (get_or middle c 0) 0
      (let z = eqb→eq (get_or high c 0) 0 t in omega (arith, l.falls.less c)));
}

-- what is left for the second
pub lowered-left : (a b sum : ℕ → ℕ) (high middle before between : List ℕ)
    → ((c : ℕ) → sum c ≡ a c + b c) → ((c : ℕ) → sum c ≤ get_or high c 0)
    → Lowered a high middle before between → (c : ℕ) → b c ≤ get_or middle c 0
lowered-left a b sum high middle before between e enough l c =
    omega (arith, e c, enough c, l.falls.less c)

-- ---- one call less
module _ (w ws : List ℕ) (call : ℕ) (h : call < length w) (some : 0 < get_or w call 0) where
  abbrev lowered : List ℕ
  lowered = set w call (get_or w call 0 - 1)

  one_less : Less (once call) w lowered
  unfolding bit
  one_less = record {
    long = length-set w call (get_or w call 0 - 1);
    less = λ c. elim (ℕ_discrete c call) [
      | yes e ↦
          rw (
            e,
            get_or-set_same w call (get_or w call 0 - 1) 0 h,
            is_true (eqb call call) (eqb_refl call),
          )
          (omega arith)
      | no ne ↦
          rw (
            get_or-set_other w call c (get_or w call 0 - 1) 0 ne,
            is_false (eqb call c) (eq_false call c (λ e. ne (sym e))),
          )
          (omega arith)
    ];
  }

  -- elsewhere nothing changes
  elsewhere : (p : Bool) (c : ℕ) → c ≢ call
      → p ≡ (p || (eqb (get_or lowered c 0) 0 && not (eqb (get_or w c 0) 0)))
  elsewhere p c ne =
      rw (get_or-set_other w call c (get_or w call 0 - 1) 0 ne) (unchanged p (eqb (get_or w c 0) 0))

  -- it still waits
  pub lower_waits : Words ws → (get_or w call 0 - 1 ≡ 0 → ⊥)
      → Lowered (once call) w lowered ws ws
  lower_waits ok n = record {
    falls = one_less;
    words = ok;
    freed = λ c. elim (ℕ_discrete c call) [
      | yes e ↦
          rw (
            e,
            get_or-set_same w call (get_or w call 0 - 1) 0 h,
            is_false (eqb (get_or w call 0 - 1) 0) (eq_false (get_or w call 0 - 1) 0 n),
          )
          (sym (or-false (has ws call)))
      | no ne ↦ elsewhere (has ws c) c ne
    ];
  }

  -- or it is ready now
  pub lower_frees : Words ws → call < 256 → get_or w call 0 - 1 ≡ 0
      → Lowered (once call) w lowered ws (put ws call)
  lower_frees ok small z = record {
    falls = one_less;
    words = put-words ws call small ok;
    freed = λ c. elim (ℕ_discrete c call) [
      | yes e ↦
          rw (
            put_has ws call small ok,
            e,
            is_true (eqb call call) (eqb_refl call),
            get_or-set_same w call (get_or w call 0 - 1) 0 h,
            z,
            is_false (eqb (get_or w call 0) 0)
                (eq_false (get_or w call 0) 0 (λ y. absurd (omega (arith, some, y)))),
          )
          (sym (or-true (has ws call)))
      | no ne ↦
          rw (put_has ws call small ok, is_false (eqb c call) (eq_false c call ne))
          (elsewhere (has ws c) c ne)
    ];
  }

module _ (q : ℕ → Bool) (at : ℕ → ℕ) where
  pub lowers_none : (w ws : List ℕ) → Words ws → Lowered (hits q at 0) w w ws ws
  lowers_none w ws ok = lowered_none (hits q at 0) w ws (hits-none q at) ok

  pub lowers_hit : (k : ℕ) (high middle low before between after : List ℕ) → T (q k)
      → Lowered (hits q at k) high middle before between
      → Lowered (once (at k)) middle low between after
      → Lowered (hits q at (k + 1)) high low before after
  lowers_hit k high middle low before between after t =
      lowered-both (hits q at k) (once (at k)) (hits q at (k + 1)) high middle low before between
      after (λ c. hits_on q at k c t)

  pub lowers_miss : (k : ℕ) (high low before after : List ℕ) → T (not (q k))
      → Lowered (hits q at k) high low before after
      → Lowered (hits q at (k + 1)) high low before after
  lowers_miss k high low before after t =
      lowered_as (hits q at k) (hits q at (k + 1)) high low before after
      (λ c. sym (hits_miss q at k c t))
