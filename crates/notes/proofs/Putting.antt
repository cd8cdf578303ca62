-- Slots moved one further from the top down, to make room for one.
use Prim.Native.Nat.{ℕ, ◌+◌, ◌-◌, ◌≤◌, ◌<◌}
use mathlib.Core.Path.{◌≡◌, refl, ap, sym, ◌∙◌}
use mathlib.Core.List.{List}
use native.Mathlib.Omega.{arith}
use native.Mathlib.Decide.{ℕ_discrete, dec_lt}
use lib.ListN.{length, get_or, set, length-set}
use lib.Seq.{get_or-set_same, get_or-set_other, ext_get_or}
use borrow.Author.Tests.{lt-ltb, le-ltb, eq-eqb, ne_eqb, le-leb, lt-leb}
use Rattle.notes.specs.Listed.{listed-length, listed_at}
use Rattle.notes.specs.Noted.{PutIn, shifted, put_in}

-- from slot i up to slot e the slots have moved; room is made at slot a
pub record Moving (s r : List ℕ) (a e i : ℕ) : Type 0 where
  pub low : a ≤ i
  pub high : i ≤ e
  pub long : length r ≡ length s
  pub moved : (j : ℕ) → i ≤ j → j < e → get_or r (j + 1) 0 ≡ get_or s j 0
  pub below : (j : ℕ) → j ≤ i → get_or r j 0 ≡ get_or s j 0
  pub above : (j : ℕ) → e < j → get_or r j 0 ≡ get_or s j 0

pub none-moved : (s : List ℕ) (a e : ℕ) → a ≤ e → Moving s s a e e
none-moved s a e h = record {
  low = h;
  high = omega arith;
  long = refl;
  moved = λ j x y. absurd (omega arith);
  below = λ j x. refl;
  above = λ j x. refl;
}

module _ (s r : List ℕ) (a e i : ℕ) (m : Moving s r a e i) (wide : e < length s) where
  pub one-moved : a < i → Moving s (set r i (get_or r (i - 1) 0)) a e (i - 1)
  one-moved h = record {
    low = omega arith;
    high = omega (arith, m.high);
    long = length-set r i (get_or r (i - 1) 0) ∙ m.long;
    moved = λ j x y. elim (ℕ_discrete j (i - 1)) [
      | yes z ↦
          let k : j + 1 ≡ i = omega arith in
          ap (λ n. get_or (set r i (get_or r (i - 1) 0)) n 0) k
          ∙ get_or-set_same r i (get_or r (i - 1) 0) 0 (omega (arith, m.long, m.high))
          ∙ m.below (i - 1) (omega arith) ∙ ap (λ n. get_or s n 0) (sym z)
      | no z ↦ get_or-set_other r i (j + 1) (get_or r (i - 1) 0) 0 (λ k. omega arith)
          ∙ m.moved j (omega arith) y
    ];
    below = λ j x. get_or-set_other r i j (get_or r (i - 1) 0) 0 (λ k. omega arith)
        ∙ m.below j (omega arith);
    above = λ j x. get_or-set_other r i j (get_or r (i - 1) 0) 0 (λ k. omega (arith, m.high))
        ∙ m.above j x;
  }

  pub all_moved : i ≤ a → (v : ℕ) → PutIn s (set r a v) a e v
  all_moved h v = record {
    long = length-set r a v ∙ m.long;
    here = get_or-set_same r a v 0 (omega (arith, m.long, m.low, m.high));
    moved = λ j x y. get_or-set_other r a (j + 1) v 0 (λ k. omega arith)
        ∙ m.moved j (omega arith) y;
    below = λ j x. get_or-set_other r a j v 0 (λ k. omega arith) ∙ m.below j (omega (arith, m.low));
    above = λ j x. get_or-set_other r a j v 0 (λ k. omega (arith, m.low, m.high)) ∙ m.above j x;
  }

-- ---- what was put in, as a list

module _ (s : List ℕ) (a e v : ℕ) (low : a ≤ e) where
  shifted-below : (i : ℕ) → i < a → shifted s a e v i ≡ get_or s i 0
  unfolding shifted
  shifted-below i h = rw (lt-ltb i a h)

  shifted-here : shifted s a e v a ≡ v
  unfolding shifted
  shifted-here = rw (le-ltb a a (omega arith), eq-eqb a a refl)

  shifted-moved : (i : ℕ) → a ≤ i → i < e → shifted s a e v (i + 1) ≡ get_or s i 0
  unfolding shifted
  shifted-moved i h g =
      let z : i + 1 - 1 ≡ i = omega arith in
      rw (
        le-ltb (i + 1) a (omega arith),
        ne_eqb (i + 1) a (λ k. omega arith),
        le-leb (i + 1) e (omega arith),
        z,
      )

  shifted-above : (i : ℕ) → e < i → shifted s a e v i ≡ get_or s i 0
  unfolding shifted
  shifted-above i h = rw (le-ltb i a (omega arith), ne_eqb i a (λ k. omega arith), lt-leb i e h)

  put-long : length (put_in s a e v) ≡ length s
  unfolding put_in
  put-long = listed-length (shifted s a e v) (length s)

  put-at : (i : ℕ) → i < length s → get_or (put_in s a e v) i 0 ≡ shifted s a e v i
  unfolding put_in
  put-at i h = listed_at (shifted s a e v) (length s) i 0 h

  pub put_in_is : (r : List ℕ) → PutIn s r a e v → r ≡ put_in s a e v
  put_in_is r p =
      ext_get_or 0 r (put_in s a e v) (p.long ∙ sym put-long)
      (λ i h. at i ∙ sym (put-at i (omega (arith, p.long))))
    where
      at : (i : ℕ) → get_or r i 0 ≡ shifted s a e v i
      at i = elim (dec_lt i a) [
        | yes h ↦ p.below i h ∙ sym (shifted-below i h)
        | no h ↦ elim (ℕ_discrete i a) [
          | yes z ↦ rw z (p.here ∙ sym shifted-here)
          | no z ↦ elim (dec_lt e i) [
            | yes g ↦ p.above i g ∙ sym (shifted-above i g)
            | no g ↦ let k : i ≡ i - 1 + 1 = omega arith in
                ap (λ n. get_or r n 0) k ∙ p.moved (i - 1) (omega arith) (omega arith)
                ∙ sym (shifted-moved (i - 1) (omega arith) (omega arith))
                ∙ ap (shifted s a e v) (sym k)
          ]
        ]
      ]

  pub put_in_does : e < length s → PutIn s (put_in s a e v) a e v
  put_in_does wide = record {
    long = put-long;
    here = put-at a (omega arith) ∙ shifted-here;
    moved = λ i h g. put-at (i + 1) (omega arith) ∙ shifted-moved i h g;
    below = λ i h. put-at i (omega arith) ∙ shifted-below i h;
    above = λ i h. elim (dec_lt i (length s)) [
      | yes g ↦ put-at i g ∙ shifted-above i h
      | no g ↦ past (put_in s a e v) i (omega (arith, put-long)) ∙ sym (past s i (omega arith))
    ];
  }
    where
      past : (l : List ℕ) (i : ℕ) → length l ≤ i → get_or l i 0 ≡ 0
      past l i h = lib.ListN.get_or-eq_default l 0 h
