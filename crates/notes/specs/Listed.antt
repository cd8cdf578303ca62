-- The list of what a function gives for the numbers below n.
use Prim.Native.Nat.{ℕ, zero, suc, ◌+◌, ◌≤◌, ◌<◌}
use Rattle.std.specs.Prelude.{◌≡◌, take, drop, set}
use Rattle.std.proofs.Math.Path.{refl, ap}
use Rattle.std.proofs.Common.{
  sym,
  ◌∙◌,
  add-one,
  arith,
  length-set,
  length-drop,
  get_or-set_same,
  get_or-set_other,
  ext_get_or,
  get_or-take,
  get_or-drop,
  length-take-le,
}
use mathlib.Core.List.{List, [], ◌∷◌, ◌++◌, map}
use Rattle.std.proofs.Math.Decide.{ℕ_discrete, dec_lt}
use Rattle.std.proofs.Math.ListN.{length, get_or, length-append, get_or-append}
use Rattle.std.proofs.Math.Seq.{get_or-append_seam}

unfoldable pub listed : {A : Type 0} → (ℕ → A) → ℕ → List A
listed f zero = []
listed f (suc n) = listed f n ++ (f n ∷ [])

module _ {A : Type 0} where
  pub listed-length : (f : ℕ → A) (n : ℕ) → length (listed f n) ≡ n
  unfolding listed
  listed-length f zero = refl
  listed-length f (suc n) =
      length-append (listed f n) (f n ∷ []) ∙ rw (listed-length f n) (omega arith)

  pub listed_at : (f : ℕ → A) (n i : ℕ) (e : A) → i < n → get_or (listed f n) i e ≡ f i
  unfolding listed
  listed_at f zero i e h = absurd (omega arith)
  listed_at f (suc n) i e h = elim (dec_lt i n) [
    | yes g ↦ get_or-append (listed f n) (f n ∷ []) e i (rw (listed-length f n) g)
        ∙ listed_at f n i e g
    | no g ↦ last (omega (arith, listed-length f n))
  ]
    where
      last : i ≡ length (listed f n) → get_or (listed f n ++ (f n ∷ [])) i e ≡ f i
      last q = rw q (get_or-append_seam (listed f n) (f n) [] e ∙ ap f (sym (listed-length f n)))

  -- equal by their elements
  pub listed_same : (f g : ℕ → A) (n : ℕ) → ((i : ℕ) → i < n → f i ≡ g i) → listed f n ≡ listed g n
  unfolding listed
  listed_same f g zero h = refl
  listed_same f g (suc n) h = rw (listed_same f g n (λ i l. h i (omega arith)), h n (omega arith))

  -- one element more
  pub listed_more : (f g : ℕ → A) (n : ℕ) (v : A) → listed g n ≡ listed f n → g n ≡ v
      → listed g (n + 1) ≡ listed f n ++ (v ∷ [])
  unfolding listed
  listed_more f g n v h e = rw (add-one, h, e)

  -- one element changed
  pub listed-set : (f g : ℕ → A) (n x : ℕ) (v : A) → x < n → g x ≡ v
      → ((i : ℕ) → i < n → (i ≡ x → ⊥) → g i ≡ f i) → set (listed f n) x v ≡ listed g n
  listed-set f g n x v h p q =
      ext_get_or v (set (listed f n) x v) (listed g n)
      (length-set (listed f n) x v ∙ listed-length f n ∙ sym (listed-length g n))
      (λ i l. at i (let z : length (set (listed f n) x v) ≡ n = length-set (listed f n) x v
      ∙ listed-length f n in omega arith))
    where
      at : (i : ℕ) → i < n → get_or (set (listed f n) x v) i v ≡ get_or (listed g n) i v
      at i l = elim (ℕ_discrete i x) [
        | yes e ↦ rw (e, get_or-set_same (listed f n) x v v (rw (listed-length f n) h))
            (sym (listed_at g n x v h ∙ p))
        | no e ↦ get_or-set_other (listed f n) x i v v e ∙ listed_at f n i v l
            ∙ sym (listed_at g n i v l ∙ q i l e)
      ]

pub listed-map : {A B : Type 0} (h : A → B) (f : ℕ → A) (n : ℕ)
    → map h (listed f n) ≡ listed (λ i. h (f i)) n
unfolding listed
listed-map h f zero = refl
listed-map h f (suc n) =
    mathlib.Core.List.map-append h (listed f n) (f n ∷ []) ∙ rw (listed-map h f n)

-- a stretch of a list, element by element
pub listed-part : (xs : List ℕ) (b n : ℕ) → b + n ≤ length xs
    → listed (λ i. get_or xs (b + i) 0) n ≡ take n (drop b xs)
listed-part xs b n h =
    let l : length (take n (drop b xs)) ≡ n =
    length-take-le n (drop b xs) (rw (length-drop b xs) (omega arith)) in
    ext_get_or 0 (listed (λ i. get_or xs (b + i) 0) n) (take n (drop b xs))
    (listed-length (λ i. get_or xs (b + i) 0) n ∙ sym l)
    (λ i g. let k : i < n = (rw (listed-length (λ i. get_or xs (b + i) 0) n) at g) in
    listed_at (λ i. get_or xs (b + i) 0) n i 0 k
    ∙ sym (get_or-take n (drop b xs) i 0 k ∙ get_or-drop b xs i 0))
