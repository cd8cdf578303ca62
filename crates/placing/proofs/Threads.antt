-- Laws of the order threaded through bytes: one call more, and the thread followed back.
use mathlib.Core.Path.{◌≡◌, refl, sym, ap, ap₂, subst, ◌∙◌, fun_ext}
use mathlib.Core.Logic.{inl, inr}
use mathlib.Core.Bool.{Bool, true, false, not, ◌||◌}
use mathlib.Core.List.{List, [], ◌∷◌, ◌++◌, append_assoc}
use Prim.Native.Nat.{ℕ, zero, suc, ◌-◌, ◌≤◌, ◌<◌}
use native.Mathlib.Omega.{arith}
use native.Mathlib.Nat.{sub-zero}
use native.Mathlib.Decide.{dec_lt}
use lib.Dec.{T, eqb, eqb→eq, eqb_refl, not_T}
use lib.ListN.{length, get_or, set, take, drop, length-append, take-append-drop}
use lib.ListN.{length-set}
use lib.Seq.{take-suc, take-length, drop-cons, drop-set-lt, get_or-set_same, ext_get_or}
use Rattle.search.specs.Truth.{T_or, clash, is_true, is_false, eq_false}
use Rattle.search.specs.Sets.{none, add, add-self, add-more, add-not}
use Rattle.search.specs.Front.{fronted}
use Rattle.table.specs.Packed.{shape_of}
use Rattle.calls.specs.Precedence.{precedes}
use Rattle.orders.specs.Sort.{next_call, sort, placed}
use Rattle.orders.proofs.Sorted.{next-is, sort-step, sort-stop, sort-none}
use Rattle.orders.specs.Walk.{among}
use Rattle.orders.specs.Turned.{among-at, at-among}
use Rattle.orders.proofs.Remains.{placed-calls, placed-le}
use Rattle.placing.specs.Placing.{call_count, placed_of}
use Rattle.placing.specs.Thread.{last_of, prior, stands, Standing, chain}

pub among-end : (l : List ℕ) (c : ℕ) → among (l ++ (c ∷ [])) ≡ add c (among l)
among-end l c = fun_ext (λ x. at l x)
  where
    swap : (p q r : Bool) → (p || (q || r)) ≡ (q || (p || r))
    swap true true r = refl
    swap true false r = refl
    swap false q r = refl

    at : (l : List ℕ) (x : ℕ) → among (l ++ (c ∷ [])) x ≡ add c (among l) x
    at [] x = refl
    at (y ∷ l) x = ap (λ b. eqb x y || b) (at l x) ∙ swap (eqb x y) (eqb x c) (among l x)

-- ---- one call more at the end of the list
pub last_of-end : (p : ℕ) (l : List ℕ) (c : ℕ) → last_of p (l ++ (c ∷ [])) ≡ c
unfolding last_of
last_of-end p [] c = refl
last_of-end p (x ∷ l) c = last_of-end x l c

-- the call before it is the one that was last
pub prior-end : (p : ℕ) (l : List ℕ) (c : ℕ) → T (not (among l c))
    → prior p (l ++ (c ∷ [])) c ≡ last_of p l
unfolding last_of prior
prior-end p [] c n = rw (is_true (eqb c c) (eqb_refl c))
prior-end p (x ∷ l) c n = go (eqb c x) refl n (prior-end x l c)
  where
    go : (b : Bool) → eqb c x ≡ b → T (not (b || among l c))
        → (T (not (among l c)) → prior x (l ++ (c ∷ [])) c ≡ last_of x l)
        → prior p ((x ∷ l) ++ (c ∷ [])) c ≡ last_of x l
    go true e m ih = absurd m
    go false e m ih = rw e (ih m)

-- those of the others stay
pub prior-more : (p : ℕ) (l : List ℕ) (c x : ℕ) → T (among l x)
    → prior p (l ++ (c ∷ [])) x ≡ prior p l x
unfolding prior
prior-more p [] c x t = absurd t
prior-more p (y ∷ l) c x t = go (eqb x y) refl t (prior-more y l c x)
  where
    go : (b : Bool) → eqb x y ≡ b → T (b || among l x)
        → (T (among l x) → prior y (l ++ (c ∷ [])) x ≡ prior y l x)
        → prior p ((y ∷ l) ++ (c ∷ [])) x ≡ prior p (y ∷ l) x
    go true e m ih = rw e
    go false e m ih = rw e (ih m)

-- ---- no call is placed twice
abbrev Fresh : List ℕ → Type 0
Fresh [] = Unit {0}
Fresh (x ∷ l) = T (not (among l x)) × Fresh l

module _ (N : ℕ) (pred : ℕ → ℕ → Bool) where
  sort-new : (n : ℕ) (done : ℕ → Bool) (x : ℕ) → T (among (sort N pred n done) x) → T (not (done x))
  sort-new zero done x t = absurd (subst (λ l. T (among l x)) (sort-none N pred done) t)
  sort-new (suc n) done x t = elim (dec_lt (next_call N pred done) N) [
    | no p ↦
        absurd (subst (λ l. T (among l x)) (sort-stop N pred (suc n) done (omega arith)) t)
    | yes p ↦
        (let c = next_call N pred done in
        elim (T_or (eqb x c) (among (sort N pred n (add c done)) x)
        (subst (λ l. T (among l x)) (sort-step N pred n done p) t)) [
          | inl e ↦ rw (eqb→eq x c e) ((next-is N pred done).is p).0
          | inr m ↦ (add-not c done x (sort-new n (add c done) x m)).1
        ])
  ]

  sort-fresh : (n : ℕ) (done : ℕ → Bool) → Fresh (sort N pred n done)
  sort-fresh zero done = rw (sort-none N pred done) tt
  sort-fresh (suc n) done = elim (dec_lt (next_call N pred done) N) [
    | no p ↦ rw (sort-stop N pred (suc n) done (omega arith)) tt
    | yes p ↦
        (let c = next_call N pred done in
        rw (sort-step N pred n done p) (
          not_T (among (sort N pred n (add c done)) c)
              (λ t. clash (add c done c) (add-self c done) (sort-new n (add c done) c t)),
          sort-fresh n (add c done),
        ))
  ]

-- ---- the thread followed back
pub chain-long : (bytes : List ℕ) (n c : ℕ) → length (chain bytes n c) ≡ n
unfolding chain
chain-long bytes zero c = refl
chain-long bytes (suc n) c =
    length-append (chain bytes n (get_or bytes c 0)) (c ∷ [])
    ∙ (let e = chain-long bytes n (get_or bytes c 0) in omega arith)

-- in a list without repetition the call before its n-th is the last of the first n
prior-at : (p : ℕ) (l : List ℕ) → Fresh l → (n : ℕ) → n < length l
    → prior p l (get_or l n 0) ≡ last_of p (take n l)
unfolding last_of prior
prior-at p [] f n h = absurd (omega arith)
prior-at p (x ∷ l) f zero h = rw (is_true (eqb x x) (eqb_refl x))
prior-at p (x ∷ l) f (suc n) h =
    rw (is_false (eqb (get_or l n 0) x)
    (eq_false (get_or l n 0) x (λ e. clash (among l x) (subst (λ y. T (among l y)) e
    (among-at l n (omega arith))) f.0)))
    (prior-at x l f.1 n (omega arith))

module _ (bytes l : List ℕ) (fresh : Fresh l)
    (thread : (c : ℕ) → T (among l c) → get_or bytes c 0 ≡ prior 255 l c) where
  threaded : (n : ℕ) → n ≤ length l → chain bytes n (last_of 255 (take n l)) ≡ take n l
  unfolding chain
  threaded zero h = refl
  threaded (suc n) h =
      let c = get_or l n 0 in
      let e = take-suc l n 0 (omega arith) in
      let last : last_of 255 (take (suc n) l) ≡ c =
      ap (last_of 255) e ∙ last_of-end 255 (take n l) c in
      let back : get_or bytes c 0 ≡ last_of 255 (take n l) =
      thread c (among-at l n (omega arith)) ∙ prior-at 255 l fresh n (omega arith) in
      rw (last, back, threaded n (omega arith)) (sym e)

-- where no more can be placed, the thread from the last call back holds all that were
module _ (t bytes : List ℕ) (s : Standing t bytes) where
  pub standing_chain : chain bytes (length (placed_of t)) (last_of 255 (placed_of t)) ≡ placed_of t
  unfolding stands placed_of placed
  standing_chain =
      let l = placed_of t in
      let e = take-length l in
      ap (λ m. chain bytes (length l) (last_of 255 m)) (sym e)
      ∙ threaded bytes l (sort-fresh (call_count t) (precedes (shape_of t)) (call_count t) none)
      (λ c h. s.each c ∙ rw (is_true (among l c) h)) (length l) (omega arith)
      ∙ e

  pub stood : (n last : ℕ) → n ≡ length (placed_of t) → last ≡ last_of 255 (placed_of t)
      → chain bytes n last ≡ placed_of t
  stood n last e f = rw (e, f) standing_chain

-- the bytes of a table where no more can be placed are one
pub standing_one : (t one two : List ℕ) → Standing t one → Standing t two → one ≡ two
standing_one t one two a b =
    ext_get_or 0 one two (a.long ∙ sym b.long) (λ i h. a.each i ∙ sym (b.each i))

-- what is placed are calls of the table
pub placed-known : (t : List ℕ) (c : ℕ) → T (among (placed_of t) c) → c < call_count t
unfolding placed_of
placed-known t c m =
    let (i, h, e) = at-among c (placed_of t) m in
    rw (← e) (placed-calls (call_count t) (precedes (shape_of t)) i h)

pub placed-most : (t : List ℕ) → length (placed_of t) ≤ call_count t
unfolding placed_of
placed-most t = placed-le (call_count t) (precedes (shape_of t))

-- ---- written from its end
module _ (bytes : List ℕ) (count last : ℕ) (out₀ : List ℕ) where
  -- the places from n on are written, and c comes next
  pub record Backing (n c : ℕ) (out : List ℕ) : Type 0 where
    pub few : n ≤ count
    pub long : length out ≡ length out₀
    pub made : chain bytes count last ≡ chain bytes n c ++ take (count - n) (drop n out)
    pub kept : drop count out ≡ drop count out₀
    pub calls : (x : ℕ) → T (among (chain bytes n c) x) → x < 224

  module _ (n c : ℕ) (out : List ℕ) (some : 0 < n) (g : Backing n c out)
      (room : count ≤ length out₀) where
    -- the call that is written is one of the thread
    one : chain bytes n c ≡ chain bytes (n - 1) (get_or bytes c 0) ++ (c ∷ [])
    unfolding chain
    one = let e : n ≡ suc (n - 1) = omega arith in ap (λ m. chain bytes m c) e

    members : among (chain bytes n c) ≡ add c (among (chain bytes (n - 1) (get_or bytes c 0)))
    members = ap among one ∙ among-end (chain bytes (n - 1) (get_or bytes c 0)) c

    pub backing_call : c < 224
    backing_call =
        g.calls c
        (subst (λ q. T (q c)) (sym members)
        (add-self c (among (chain bytes (n - 1) (get_or bytes c 0)))))

    pub backing_on : Backing (n - 1) (get_or bytes c 0) (set out (n - 1) c)
    backing_on =
        let m = n - 1 in
        let fits : m < length out = omega (arith, g.few, g.long) in
        let fits' : m < length (set out m c) = rw (length-set out m c) fits in
        let e : count - m ≡ suc (count - n) = omega (arith, g.few) in
        let f : suc m ≡ n = omega arith in
        record {
          few = omega (arith, g.few);
          long = length-set out m c ∙ g.long;
          made =
              rw (
                e,
                drop-cons (set out m c) m 0 fits',
                get_or-set_same out m c 0 fits,
                drop-set-lt (suc m) out m c (omega arith),
                f,
              )
              (g.made ∙ ap (λ l. l ++ take (count - n) (drop n out)) one
              ∙ append_assoc (chain bytes m (get_or bytes c 0)) (c ∷ [])
              (take (count - n) (drop n out)));
          kept = drop-set-lt count out m c (omega (arith, g.few)) ∙ g.kept;
          calls = λ x t. g.calls x
              (subst (λ q. T (q x)) (sym members)
              (add-more c (among (chain bytes m (get_or bytes c 0))) x t));
        }

  pub backing_ends : (n c : ℕ) (out : List ℕ) → (0 < n → ⊥) → Backing n c out
      → out ≡ fronted (chain bytes count last) out₀
  unfolding chain
  backing_ends n c out h g =
      let z : n ≡ 0 = elim (dec_lt 0 n) [ yes p ↦ absurd (h p) | no p ↦ omega arith ] in
      let made : chain bytes count last ≡ take count out = g.made ∙ rw (z, sub-zero count) in
      sym (take-append-drop count out)
      ∙ ap₂ ◌++◌ (sym made)
      (g.kept ∙ ap (λ k. drop k out₀) (sym (chain-long bytes count last)))
