-- The number of fields and the names of a line, checked from the places of its fields.
use Prim.Native.Nat.{ℕ, zero, suc, ◌+◌, ◌-◌, ◌≤◌, ◌<◌}
use mathlib.Core.Path.{◌≡◌, refl, sym, ap, ◌∙◌}
use mathlib.Core.Bool.{Bool, true, false, not, cond}
use mathlib.Core.List.{List}
use native.Mathlib.Numerals.{add-one}
use native.Mathlib.Omega.{arith}
use native.Mathlib.Decide.{dec_lt}
use lib.ListN.{length, get_or}
use lib.Dec.{eqb, ltb}
use borrow.Author.Tests.{eqb-true, eq-eqb, ne_eqb, lt-ltb, le-ltb, le-leb, lt-leb}
use Rattle.grammar.specs.Rows.{row_at, word, word_end}
use Rattle.grammar.specs.Lines.{Outcome, faulty, is_name, refuse, refused}
use Rattle.grammar.specs.Lines.{unit_line, out_line, in_line, feed_line, join_line}
use Rattle.grammar.specs.Draft.{Draft}
use Rattle.grammar.specs.Lexed.{Lexed}
use Rattle.lines.specs.Took.{shape_of}

-- ---- names one after the other

-- the names before are good and this one is not
pub faulty-first : (f : List (List ℕ)) (i n : ℕ) → faulty f i ≡ 0 → is_name (word f (i + 1)) ≡ false
    → i < n
    → i + 1 ≡ faulty f n
unfolding faulty
faulty-first f i zero z b h = absurd (omega arith)
faulty-first f i (suc n) z b h = elim (dec_lt i n) [
  | yes g ↦ later g (sym (faulty-first f i n z b g))
  | no g ↦ here (omega arith)
]
  where
    later : i < n → faulty f n ≡ i + 1 → i + 1 ≡ faulty f (suc n)
    later g e = sym (rw (e, lt-ltb 0 (i + 1) (omega arith)))

    here : n ≡ i → i + 1 ≡ faulty f (suc n)
    here e = sym (rw (e, z, ← add-one i, b))

pub faulty_on : (f : List (List ℕ)) (i : ℕ) → faulty f i ≡ 0 → is_name (word f (i + 1)) ≡ true
    → faulty f (i + 1) ≡ 0
unfolding faulty
faulty_on f i z b = rw (add-one i) (rw (z, ← add-one i, b))

faulty-low : (f : List (List ℕ)) (n : ℕ) → faulty f n ≤ n
unfolding faulty
faulty-low f zero = omega arith
faulty-low f (suc n) = go (ltb 0 (faulty f n)) (is_name (word f (suc n))) (faulty-low f n)
  where
    go : (a b : Bool) → faulty f n ≤ n → cond a (faulty f n) (cond b 0 (suc n)) ≤ suc n
    go true b h = omega arith
    go false true h = omega arith
    go false false h = omega arith

pub faulty-small : (f : List (List ℕ)) (b n : ℕ) → b ≡ faulty f n → n < 5 → b < 5
faulty-small f b n e h = omega (arith, faulty-low f n)

module _ (w : List ℕ) where
  pub no_name_empty : length w ≡ 0 → is_name w ≡ false
  unfolding is_name
  no_name_empty e = rw (e, le-ltb 0 0 (omega arith))

  pub no_name_long : 16 < length w → is_name w ≡ false
  unfolding is_name
  no_name_long h = rw (lt-leb (length w) 16 h, lt-ltb 0 (length w) (omega arith))

  pub a_name : (length w ≡ 0 → ⊥) → length w ≤ 16 → is_name w ≡ true
  unfolding is_name
  a_name n h = rw (le-leb (length w) 16 h, lt-ltb 0 (length w) (omega arith))

-- a field's size is the distance of its ends
pub field_size : (t : List ℕ) (a : ℕ) (from to : List ℕ) (count next : ℕ)
    → Lexed t a from to count next
    → (i : ℕ) → i < 5 → i < count → get_or to i 0 ≡ get_or from i 0 + length (word (row_at t a) i)
unfolding word_end
field_size t a from to count next l i h g =
    l.ends i h g ∙ ap (λ w. get_or from i 0 + length w) (l.words i h g)

pub faulty-none : (f : List (List ℕ)) (i n : ℕ) → i ≤ n → n ≤ i → faulty f i ≡ 0 → 0 ≡ faulty f n
faulty-none f i n h g z = sym (ap (faulty f) (let e : n ≡ i = omega arith in e) ∙ z)

-- ---- 24, 25 or neither

module _ (f : List (List ℕ)) (count names k : ℕ) (long : k ≡ length f) where
  pub shape_count : (k ≡ count → ⊥) → 24 ≡ shape_of f count names
  unfolding shape_of
  shape_count n = rw (ne_eqb (length f) count (λ e. n (long ∙ e)))

  pub shape_name : (b : ℕ) → k ≡ count → b ≡ faulty f names → (b ≡ 0 → ⊥)
      → 25 ≡ shape_of f count names
  unfolding shape_of
  shape_name b e g n = rw (eq-eqb (length f) count (sym long ∙ e), ← g, lt-ltb 0 b (omega arith))

  pub shape_good : (b : ℕ) → k ≡ count → b ≡ faulty f names → b ≡ 0 → 0 ≡ shape_of f count names
  unfolding shape_of
  shape_good b e g z = rw (eq-eqb (length f) count (sym long ∙ e), ← g, z)

-- the line passes 24 and 25
pub record Lets (f : List (List ℕ)) (count names : ℕ) : Type 0 where
  pub long : length f ≡ count
  pub counted : not (eqb (length f) count) ≡ false
  pub named : ltb 0 (faulty f names) ≡ false

module _ (f : List (List ℕ)) (count names b : ℕ) (e : b ≡ shape_of f count names) where
  pub shape_lets : b ≡ 0 → Lets f count names
  unfolding shape_of
  shape_lets z = go (eqb (length f) count) refl (ltb 0 (faulty f names)) refl (sym e ∙ z)
    where
      go : (x : Bool) → eqb (length f) count ≡ x → (y : Bool) → ltb 0 (faulty f names) ≡ y
          → ◌≡◌ {A = ℕ} (cond (not x) 24 (cond y 25 0)) 0 → Lets f count names
      go true p false q r = record { long = eqb-true _ _ p; counted = rw p; named = q }
      go false p y q r = absurd (omega arith)
      go true p true q r = absurd (omega arith)

  pub shape_stops : (d : Draft) (o : Outcome) → (b ≡ 0 → ⊥)
      → refused b d ≡ refuse (not (eqb (length f) count)) 24 d
      (refuse (ltb 0 (faulty f names)) 25 d o)
  unfolding shape_of refuse
  shape_stops d o n = go (not (eqb (length f) count)) (ltb 0 (faulty f names)) e
    where
      go : (x y : Bool) → ◌≡◌ {A = ℕ} b (cond x 24 (cond y 25 0))
          → refused b d ≡ cond x (refused 24 d) (cond y (refused 25 d) o)
      go true y q = rw q
      go false true q = rw q
      go false false q = absurd (n q)

-- each line begins with both
module _ (d : Draft) (f : List (List ℕ)) (k b : ℕ) (n : b ≡ 0 → ⊥) where
  pub unit-stops : b ≡ shape_of f 2 1 → refused b d ≡ unit_line d f
  unfolding unit_line
  unit-stops e = shape_stops f 2 1 b e d _ n

  pub out_stops : b ≡ shape_of f 3 2 → refused b d ≡ out_line d f
  unfolding out_line
  out_stops e = shape_stops f 3 2 b e d _ n

  pub in_stops : b ≡ shape_of f 4 2 → refused b d ≡ in_line d k f
  unfolding in_line
  in_stops e = shape_stops f 4 2 b e d _ n

  pub feed-stops : b ≡ shape_of f 4 3 → refused b d ≡ feed_line d f
  unfolding feed_line
  feed-stops e = shape_stops f 4 3 b e d _ n

  pub join-stops : b ≡ shape_of f 5 4 → refused b d ≡ join_line d f
  unfolding join_line
  join-stops e = shape_stops f 5 4 b e d _ n

-- a line that passes 24 has its fields
pub has_field : (t : List ℕ) (a : ℕ) (from to : List ℕ) (k next : ℕ) → Lexed t a from to k next
    → (count names b i : ℕ)
    → b ≡ shape_of (row_at t a) count names → b ≡ 0 → i < count → i < k
has_field t a from to k next l count names b i e z h =
    omega (arith, l.count-is, (shape_lets (row_at t a) count names b e z).long)
