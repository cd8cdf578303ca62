-- Laws of Boolean tests: a test `b` holds where there is a `T b`.
use Rattle.std.specs.Prelude.{
  ◌≡◌,
  refl,
  ◌⊎◌,
  Bool,
  true,
  false,
  not,
  ◌&&◌,
  ◌||◌,
  ℕ,
  ◌≤◌,
  ◌<◌,
  T,
  eqb,
  ltb,
}
use Rattle.std.proofs.Common.{sym, ◌∙◌, inl, inr, arith, eqb→eq, ltb→lt, lt→ltb}
use Rattle.std.proofs.Math.Dec.{eqb_refl, not_T}

pub T_and : (a b : Bool) → T (a && b) → T a × T b
T_and true b t = (tt, t)
T_and false b t = absurd t

pub and_T : (a b : Bool) → T a → T b → T (a && b)
and_T true b s t = t
and_T false b s t = s

pub T_or : (a b : Bool) → T (a || b) → T a ⊎ T b
T_or true b t = inl tt
T_or false b t = inr t

pub or_left : (a b : Bool) → T a → T (a || b)
or_left true b t = tt
or_left false b t = absurd t

pub or_right : (a b : Bool) → T b → T (a || b)
or_right true b t = tt
or_right false b t = t

pub either : (b : Bool) → T b ⊎ T (not b)
either true = inl tt
either false = inr tt

pub clash : (b : Bool) → T b → T (not b) → ⊥
clash true p q = q
clash false p q = p

pub not-not : (b : Bool) → T (not (not b)) → T b
not-not true t = tt
not-not false t = t

-- ---- a test that holds, or does not, as an equation

pub is_true : (b : Bool) → T b → b ≡ true
is_true true t = refl
is_true false t = absurd t

pub is_false : (b : Bool) → T (not b) → b ≡ false
is_false true t = absurd t
is_false false t = refl

pub holds : (b : Bool) → b ≡ true → T b
holds b e = rw e tt

pub fails : (b : Bool) → b ≡ false → T (not b)
fails b e = rw e tt

-- two tests that hold together are one
pub same_test : (a b : Bool) → (T a → T b) → (T b → T a) → a ≡ b
same_test true true f g = refl
same_test true false f g = absurd (f tt)
same_test false true f g = absurd (g tt)
same_test false false f g = refl

-- ---- what a flag of the code says of the test that it stands for

pub says : {r q : Bool} → r ≡ q → r ≡ true → T q
says {r} {q} e t = rw (sym e ∙ t) tt

pub denies : {r q : Bool} → r ≡ q → r ≡ false → T (not q)
denies {r} {q} e t = rw (sym e ∙ t) tt

-- ---- tests of numbers as equations

pub lt_true : (a b : ℕ) → a < b → ltb a b ≡ true
lt_true a b h = is_true (ltb a b) (lt→ltb a b h)

pub lt_false : (a b : ℕ) → b ≤ a → ltb a b ≡ false
lt_false a b h = is_false (ltb a b) (not_T (ltb a b) (λ t. omega (arith, ltb→lt a b t)))

pub eq_true : (a b : ℕ) → a ≡ b → T (eqb a b)
eq_true a b e = rw e (eqb_refl b)

pub eq_false : (a b : ℕ) → (a ≡ b → ⊥) → T (not (eqb a b))
eq_false a b n = not_T (eqb a b) (λ t. n (eqb→eq a b t))
