-- A field byte by byte beside a word: where it is empty, and one byte further along both.
use Prim.Native.Nat.{ℕ, zero, suc, ◌+◌, ◌-◌, ◌≤◌, ◌<◌}
use mathlib.Core.Path.{◌≡◌, refl, sym, ap, subst, ◌∙◌}
use mathlib.Core.Bool.{Bool, true, false, cond}
use mathlib.Core.List.{List, [], ◌∷◌}
use native.Mathlib.Numerals.{add-one}
use native.Mathlib.Omega.{arith}
use native.Mathlib.Decide.{dec_lt}
use lib.ListN.{length, get_or, drop}
use lib.Seq.{drop-cons}
use lib.Dec.{eqb}
use borrow.Author.Tests.{eq-eqb, ne_eqb}
use Rattle.grammar.specs.Words.{same, lf, tab}
use Rattle.grammar.specs.Rows.{front, field_at}
use Rattle.notes.specs.Compared.{compared}
use Rattle.names.specs.Alike.{Wordy, Alike}
use Rattle.notes.proofs.Ordered.{first-before, first-after, first-same}

pub drop_all : (t : List ℕ) (a : ℕ) → length t ≤ a → drop a t ≡ []
drop_all [] a h = lib.Seq.drop-nil a
drop_all (x ∷ xs) zero h = absurd (omega arith)
drop_all (x ∷ xs) (suc a) h = drop_all xs a (omega arith)

module _ (t : List ℕ) (a : ℕ) where
  pub field_past : length t ≤ a → field_at t a ≡ []
  unfolding field_at front
  field_past h = rw (drop_all t a h)

  pub empty-past : length t ≤ a → true ≡ same [] (field_at t a)
  unfolding same
  empty-past h = rw (field_past h)

  pub field_here : a < length t → field_at t a
      ≡ cond (eqb (get_or t a 0) 10) []
      (cond (eqb (get_or t a 0) 9) [] (get_or t a 0 ∷ field_at t (a + 1)))
  unfolding field_at front
  field_here h = rw (drop-cons t a 0 h, add-one)

  pub empty-lf : a < length t → get_or t a 0 ≡ 10 → true ≡ same [] (field_at t a)
  unfolding same
  empty-lf h e = rw (field_here h, eq-eqb _ _ e)

  pub empty-tab : a < length t → (get_or t a 0 ≡ 10 → ⊥) → eqb (get_or t a 0) 9
      ≡ same [] (field_at t a)
  unfolding same
  empty-tab h n = rw (field_here h, ne_eqb _ _ n) (go (eqb (get_or t a 0) 9))
    where
      go : (b : Bool) → b ≡ same [] (cond b [] (get_or t a 0 ∷ field_at t (a + 1)))
      go true = refl
      go false = refl

-- the field at place a goes on there
pub record Open (t : List ℕ) (a : ℕ) : Type 0 where
  pub inside : a < length t
  pub not-lf : eqb (get_or t a 0) 10 ≡ false
  pub not-tab : eqb (get_or t a 0) 9 ≡ false

pub open_field : (t : List ℕ) (a : ℕ) → Open t a → field_at t a ≡ get_or t a 0 ∷ field_at t (a + 1)
open_field t a o = rw (field_here t a o.inside, o.not-lf, o.not-tab)

pub is_open : (t : List ℕ) (a : ℕ) → same [] (field_at t a) ≡ false → Open t a
unfolding same
is_open t a e = elim (dec_lt a (length t)) [
  | yes h ↦ go h (eqb (get_or t a 0) 10) refl (eqb (get_or t a 0) 9) refl
      (rw (field_here t a h) at e)
  | no h ↦ absurd (mathlib.Core.Bool.true≢false (rw (field_past t a (omega arith)) at e))
]
  where
    go : a < length t → (b : Bool) → eqb (get_or t a 0) 10 ≡ b → (c : Bool) → eqb (get_or t a 0) 9
        ≡ c
        → same [] (cond b [] (cond c [] (get_or t a 0 ∷ field_at t (a + 1)))) ≡ false → Open t a
    go h false p false q z = record { inside = h; not-lf = p; not-tab = q }
    go h true p c q z = absurd (mathlib.Core.Bool.true≢false z)
    go h false p true q z = absurd (mathlib.Core.Bool.true≢false z)

-- ---- the size of a field

pub empty-size : (w : List ℕ) → same [] w ≡ true → length w ≡ 0
unfolding same
empty-size [] e = refl
empty-size (x ∷ xs) e = absurd (mathlib.Core.Bool.true≢false (sym e))

-- ---- a word has no tab and no LF

word_first : (x : ℕ) (xs : List ℕ) → front (x ∷ xs) ≡ x ∷ xs
    → (eqb x 10 ≡ false) × ((eqb x 9 ≡ false) × (front xs ≡ xs))
unfolding front
word_first x xs e = go (eqb x lf) refl (eqb x tab) refl e
  where
    go : (a : Bool) → eqb x lf ≡ a → (b : Bool) → eqb x tab ≡ b
        → cond a [] (cond b [] (x ∷ front xs)) ≡ x ∷ xs
        → (eqb x 10 ≡ false) × ((eqb x 9 ≡ false) × (front xs ≡ xs))
    go true p b q z = absurd (omega (arith, ap length z))
    go false p true q z = absurd (omega (arith, ap length z))
    go false p false q z = (p, (q, ap (drop 1) z))

word-drop : (w : List ℕ) (j : ℕ) → front w ≡ w → front (drop j w) ≡ drop j w
unfolding front
word-drop w zero e = e
word-drop [] (suc j) e = refl
word-drop (x ∷ xs) (suc j) e = word-drop xs j (word_first x xs e).1.1

word_byte : (w : List ℕ) (j : ℕ) → Wordy w → j < length w
    → (eqb (get_or w j 0) 10 ≡ false) × (eqb (get_or w j 0) 9 ≡ false)
word_byte w j k h =
    let z : front (get_or w j 0 ∷ drop (suc j) w) ≡ get_or w j 0 ∷ drop (suc j) w =
    subst (λ l. front l ≡ l) (drop-cons w j 0 h) (word-drop w j k.whole) in
    let (a, b) = word_first (get_or w j 0) (drop (suc j) w) z in
    (a, b.0)

-- ---- the field at place i beside what is left of the word from its byte j on

module _ (t : List ℕ) (i : ℕ) (w : List ℕ) (j : ℕ) where
  module _ (h : j < length w) where
    pub ends-before : same [] (field_at t i) ≡ true → compared (field_at t i) (drop j w) ≡ 0
    unfolding compared same
    ends-before e = rw (drop-cons w j 0 h) (go (field_at t i) e)
      where
        go : (v : List ℕ) → same [] v ≡ true → compared v (get_or w j 0 ∷ drop (suc j) w) ≡ 0
        go [] e = refl
        go (x ∷ xs) e = absurd (mathlib.Core.Bool.true≢false (sym e))

    pub along : Wordy w → i < length t → get_or t i 0 ≡ get_or w j 0
        → compared (field_at t i) (drop j w) ≡ compared (field_at t (i + 1)) (drop (suc j) w)
    along k g e =
        let (x, y) = word_byte w j k h in
        let p : Open t i =
        record { inside = g; not-lf = ap (λ b. eqb b 10) e ∙ x; not-tab = ap (λ b. eqb b 9) e ∙ y }
        in
        rw (open_field t i p, drop-cons w j 0 h) (first-same _ _ _ _ e)

    module _ (g : same [] (field_at t i) ≡ false) where
      pub lower_byte : get_or t i 0 < get_or w j 0 → compared (field_at t i) (drop j w) ≡ 0
      lower_byte l = rw (open_field t i (is_open t i g), drop-cons w j 0 h) (first-before _ _ _ _ l)

      pub higher_byte : get_or w j 0 < get_or t i 0 → compared (field_at t i) (drop j w) ≡ 2
      higher_byte l = rw (open_field t i (is_open t i g), drop-cons w j 0 h) (first-after _ _ _ _ l)

  module _ (z : length w ≤ j) where
    pub both_end : same [] (field_at t i) ≡ true → compared (field_at t i) (drop j w) ≡ 1
    unfolding compared
    both_end e = rw (drop_all w j z) (go (field_at t i) (empty-size (field_at t i) e))
      where
        go : (v : List ℕ) → length v ≡ 0 → compared v [] ≡ 1
        go [] a = refl
        go (x ∷ xs) a = absurd (omega arith)

    pub goes_on : same [] (field_at t i) ≡ false → compared (field_at t i) (drop j w) ≡ 2
    unfolding compared
    goes_on e = rw (drop_all w j z, open_field t i (is_open t i e))

pub alike-none : (t : List ℕ) (a : ℕ) (w : List ℕ) → Alike t a w 0
alike-none t a w =
    let x : a + 0 ≡ a = omega arith in
    record { most = omega arith; left = rw x }

pub alike-more : (t : List ℕ) (a : ℕ) (w : List ℕ) (i : ℕ) → Wordy w → Alike t a w i → i < length w
    → a + i < length t
    → get_or t (a + i) 0 ≡ get_or w i 0 → Alike t a w (suc i)
alike-more t a w i v k h g e =
    let x : a + suc i ≡ a + i + 1 = omega arith in
    record { most = omega arith; left = rw x (k.left ∙ along t (a + i) w i h v g e) }

-- a field is a word
pub front-front : (xs : List ℕ) → front (front xs) ≡ front xs
unfolding front
front-front [] = refl
front-front (x ∷ xs) = go (eqb x lf) refl (eqb x tab) refl (front-front xs)
  where
    go : (a : Bool) → eqb x lf ≡ a → (b : Bool) → eqb x tab ≡ b → front (front xs) ≡ front xs
        → front (cond a [] (cond b [] (x ∷ front xs))) ≡ cond a [] (cond b [] (x ∷ front xs))
    go true p b q h = refl
    go false p true q h = refl
    go false p false q h = rw (p, q, h)
