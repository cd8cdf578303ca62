-- Laws of lines over their bytes: the first field, the byte behind it, the lines behind that.
use Rattle.std.specs.Prelude.{
  ℕ,
  zero,
  suc,
  ◌<◌,
  ◌≤◌,
  ◌⊎◌,
  ◌≡◌,
  refl,
  Bool,
  true,
  false,
  List,
  [],
  ◌∷◌,
  length,
  get_or,
  drop,
  eqb,
}
use Rattle.std.proofs.Common.{inl, inr, arith, eq-eqb, eqb-true}
use Rattle.grammar.specs.Words.{tab, lf}
use Rattle.grammar.specs.Rows.{rows, grown, parted, front}

-- a field put before those of the first line
unfoldable pub added : List ℕ → List (List (List ℕ)) → List (List (List ℕ))
added w [] = []
added w (r ∷ rs) = (w ∷ r) ∷ rs

grown-added : (x : ℕ) (w : List ℕ) (rs : List (List (List ℕ)))
    → grown x (added w rs) ≡ added (x ∷ w) rs
unfolding grown added
grown-added x w [] = refl
grown-added x w (r ∷ rs) = refl

parted-added : (rs : List (List (List ℕ))) → parted rs ≡ added [] rs
unfolding parted added
parted-added [] = refl
parted-added (r ∷ rs) = refl

-- ---- the first field of some bytes, and the byte behind it

-- what is known of bytes by their first field: it runs to their end, or to an LF, or to a tab
abbrev pub Runs : List ℕ → Type 0
Runs xs = length xs ≤ length (front xs) → rows xs ≡ []

abbrev pub Ends : List ℕ → Type 0
Ends xs =
    length (front xs) < length xs → get_or xs (length (front xs)) 0 ≡ lf →
    rows xs ≡ (front xs ∷ []) ∷ rows (drop (suc (length (front xs))) xs)

abbrev pub Parts : List ℕ → Type 0
Parts xs =
    length (front xs) < length xs → (get_or xs (length (front xs)) 0 ≡ lf → ⊥) →
    rows xs ≡ added (front xs) (rows (drop (suc (length (front xs))) xs))

pub runs : (xs : List ℕ) → Runs xs
unfolding front rows grown
runs [] = λ h. refl
runs (x ∷ xs) = go (eqb x lf) (eqb x tab) refl refl (runs xs)
  where
    go : (a b : Bool) → eqb x lf ≡ a → eqb x tab ≡ b → Runs xs → Runs (x ∷ xs)
    go true b p q ih h = let z : suc (length xs) ≤ 0 = (rw p at h) in absurd (omega arith)
    go false true p q ih h = let z : suc (length xs) ≤ 0 = (rw (p, q) at h) in absurd (omega arith)
    go false false p q ih h =
        let g : suc (length xs) ≤ suc (length (front xs)) =
        (rw (p, q) at h) in rw (p, q, ih (omega arith))

pub ends : (xs : List ℕ) → Ends xs
unfolding front rows grown
ends [] = λ h e. absurd (omega arith)
ends (x ∷ xs) = go (eqb x lf) (eqb x tab) refl refl (ends xs)
  where
    go : (a b : Bool) → eqb x lf ≡ a → eqb x tab ≡ b → Ends xs → Ends (x ∷ xs)
    go true b p q ih h e = rw p
    go false true p q ih h e =
        let z : x ≡ 10 = (rw (p, q) at e) in let w : x ≡ 9 = eqb-true x 9 q in absurd (omega arith)
    go false false p q ih h e =
        let d : get_or xs (length (front xs)) 0 ≡ lf = (rw (p, q) at e) in
        let g : suc (length (front xs)) < suc (length xs) = (rw (p, q) at h) in
        rw (p, q, ih (omega arith) d)

pub parts : (xs : List ℕ) → Parts xs
unfolding front rows
parts [] = λ h e. absurd (omega arith)
parts (x ∷ xs) = go (eqb x lf) (eqb x tab) refl refl (parts xs)
  where
    go : (a b : Bool) → eqb x lf ≡ a → eqb x tab ≡ b → Parts xs → Parts (x ∷ xs)
    go true b p q ih h e = let z : x ≡ 10 → ⊥ = (rw p at e) in absurd (z (eqb-true x 10 p))
    go false true p q ih h e = rw (p, q) (parted-added (rows xs))
    go false false p q ih h e =
        let d : get_or xs (length (front xs)) 0 ≡ lf → ⊥ = (rw (p, q) at e) in
        let g : suc (length (front xs)) < suc (length xs) = (rw (p, q) at h) in
        rw (p, q, ih (omega arith) d) (grown-added x (front xs) _)

-- ---- a line is never without a field

parted-some : (rs : List (List (List ℕ))) → 0 < length (get_or rs 0 [])
    → 0 < length (get_or (parted rs) 0 [])
unfolding parted
parted-some [] h = absurd (omega arith)
parted-some (r ∷ rs) h = omega arith

grown-some : (x : ℕ) (rs : List (List (List ℕ))) → 0 < length (get_or rs 0 [])
    → 0 < length (get_or (grown x rs) 0 [])
unfolding grown
grown-some x [] h = absurd (omega arith)
grown-some x ([] ∷ rs) h = absurd (omega arith)
grown-some x ((f ∷ fs) ∷ rs) h = omega arith

abbrev pub Some : List ℕ → Type 0
Some xs = (rows xs ≡ []) ⊎ (0 < length (get_or (rows xs) 0 []))

pub some_field : (xs : List ℕ) → Some xs
unfolding rows parted grown
some_field [] = inl refl
some_field (x ∷ xs) = go (eqb x lf) (eqb x tab) refl refl (some_field xs)
  where
    go : (a b : Bool) → eqb x lf ≡ a → eqb x tab ≡ b → Some xs → Some (x ∷ xs)
    go true b p q ih = inr (rw p (omega arith))
    go false true p q (inl e) = inl (rw (p, q, e))
    go false true p q (inr h) = inr (rw (p, q) (parted-some (rows xs) h))
    go false false p q (inl e) = inl (rw (p, q, e))
    go false false p q (inr h) = inr (rw (p, q) (grown-some x (rows xs) h))

pub lf-some : (xs : List ℕ) (i : ℕ) → i < length xs → get_or xs i 0 ≡ lf
    → 0 < length (get_or (rows xs) 0 [])
unfolding rows
lf-some [] i h e = absurd (omega arith)
lf-some (x ∷ xs) zero h e = rw (eq-eqb x lf e) (omega arith)
lf-some (x ∷ xs) (suc i) h e = go (eqb x lf) (eqb x tab) refl refl (lf-some xs i (omega arith) e)
  where
    go :
        (a b : Bool) → eqb x lf ≡ a → eqb x tab ≡ b → 0 < length (get_or (rows xs) 0 []) →
        0 < length (get_or (rows (x ∷ xs)) 0 [])
    go true b p q ih = rw p (omega arith)
    go false true p q ih = rw (p, q) (parted-some (rows xs) ih)
    go false false p q ih = rw (p, q) (grown-some x (rows xs) ih)

pub first-row : (rs : List (List (List ℕ))) → 0 < length (get_or rs 0 [])
    → rs ≡ get_or rs 0 [] ∷ drop 1 rs
first-row [] h = absurd (omega arith)
first-row (r ∷ rs) h = refl

pub added-row :
    (w : List ℕ) (rs : List (List (List ℕ))) → 0 < length (get_or rs 0 [])
    → get_or (added w rs) 0 [] ≡ w ∷ get_or rs 0 []
unfolding added
added-row w [] h = absurd (omega arith)
added-row w (r ∷ rs) h = refl

pub added-tail : (w : List ℕ) (rs : List (List (List ℕ))) → drop 1 (added w rs) ≡ drop 1 rs
unfolding added
added-tail w [] = refl
added-tail w (r ∷ rs) = refl
