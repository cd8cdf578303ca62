-- Sets of numbers as tests: the empty one, and one more member.
use Rattle.std.specs.Prelude.{◌≡◌, refl, ◌⊎◌, ◌≢◌, Bool, true, false, not, ◌||◌, ℕ, T, eqb}
use Rattle.std.proofs.Common.{inl, inr, eqb→eq}
use Rattle.std.proofs.Math.Dec.{eqb_refl}
use Rattle.search.specs.Truth.{T_or, or_left, or_right, either, clash}

-- no number is in it
abbrev pub none : ℕ → Bool
none x = false

-- c, and all of q
abbrev pub add : ℕ → (ℕ → Bool) → ℕ → Bool
add c q x = eqb x c || q x

pub add-self : (c : ℕ) (q : ℕ → Bool) → T (add c q c)
add-self c q = or_left (eqb c c) (q c) (eqb_refl c)

pub add-more : (c : ℕ) (q : ℕ → Bool) (x : ℕ) → T (q x) → T (add c q x)
add-more c q x t = or_right (eqb x c) (q x) t

pub add_cases : (c : ℕ) (q : ℕ → Bool) (x : ℕ) → T (add c q x) → (x ≡ c) ⊎ T (q x)
add_cases c q x t =
    elim (T_or (eqb x c) (q x) t) [ inl e ↦ inl (eqb→eq x c e) | inr h ↦ inr h ]

pub add-other : (c : ℕ) (q : ℕ → Bool) (x : ℕ) → x ≢ c → add c q x ≡ q x
add-other c q x ne = go (eqb x c) refl
  where
    go : (b : Bool) → eqb x c ≡ b → (b || q x) ≡ q x
    go true e = absurd (ne (eqb→eq x c (rw e tt)))
    go false e = refl

pub not-add : (c : ℕ) (q : ℕ → Bool) (x : ℕ) → x ≢ c → T (not (q x)) → T (not (add c q x))
not-add c q x ne h = rw (add-other c q x ne) h

pub add-not : (c : ℕ) (q : ℕ → Bool) (x : ℕ) → T (not (add c q x)) → (x ≢ c) × T (not (q x))
add-not c q x h = (
  (λ e. clash (add c q x) (rw e (add-self c q)) h),
  elim (either (q x)) [ inr t ↦ t | inl t ↦ absurd (clash (add c q x) (add-more c q x t) h) ],
)
