-- Names have at most 16 bytes: fields 1 and 2 of every line that is taken.
use Rattle.std.specs.Prelude.{
  ℕ,
  zero,
  suc,
  ◌<◌,
  ◌≤◌,
  ◌≡◌,
  refl,
  Bool,
  not,
  cond,
  get_or,
  eqb,
  ltb,
  leb,
}
use Rattle.std.proofs.Math.Bool.{true, false}
use mathlib.Core.List.{List, [], ◌∷◌}
use Rattle.std.proofs.Common.{arith}
use Rattle.std.proofs.Math.Decide.{ℕ_discrete, dec_lt}
use Rattle.std.proofs.Math.ListN.{length, get_or-eq_default}
use borrow.Author.Tests.{eqb-true, ltb-true, ltb-false, leb-true, not-false}
use Rattle.search.specs.Truth.{T_and, holds, is_true}
use Rattle.grammar.specs.Words.{same}
use Rattle.grammar.specs.Rows.{word}
use Rattle.grammar.specs.Opening.{Row, lines_of}
use Rattle.grammar.specs.Draft.{Draft}
use Rattle.grammar.specs.Lines.{Outcome, refuse, refused, is_name, faulty, unit_line}
use Rattle.grammar.specs.Lines.{out_line, in_line, feed_line, join_line, line}
use Rattle.reading.specs.Keyword.{by-keyword}

-- where a line has no field 1 or 2, that is empty
abbrev pub Spelled : Row → Type 0
Spelled f = (length (word f 1) ≤ 16) × (length (word f 2) ≤ 16)

name-short : (w : List ℕ) → is_name w ≡ true → length w ≤ 16
unfolding is_name
name-short w e =
    let a = ltb 0 (length w) in
    let b = leb (length w) 16 in
    leb-true (length w) 16 (is_true b (T_and a b (holds (is_name w) e)).1)

-- where none of the n fields after the keyword is faulty, each of them is a name
name_field : (f : Row) (n i : ℕ) → ltb 0 (faulty f n) ≡ false → i < n → length (word f (suc i)) ≤ 16
unfolding faulty
name_field f zero i e h = absurd (omega arith)
name_field f (suc n) i e h =
    go (ltb 0 (faulty f n)) refl (is_name (word f (suc n))) refl (name_field f n i) e
  where
    go : (a : Bool) → ltb 0 (faulty f n) ≡ a → (b : Bool) → is_name (word f (suc n)) ≡ b
        → (ltb 0 (faulty f n) ≡ false → i < n → length (word f (suc i)) ≤ 16)
        → ltb 0 (cond a (faulty f n) (cond b 0 (suc n))) ≡ false → length (word f (suc i)) ≤ 16
    go true p b q ih e =
        absurd (omega (arith, ltb-true 0 (faulty f n) p, ltb-false 0 (faulty f n) e))
    go false p false q ih e = absurd (omega (arith, ltb-false 0 (suc n) e))
    go false p true q ih e = elim (ℕ_discrete i n) [
      | yes z ↦ rw z (name-short (word f (suc n)) q)
      | no z ↦ ih p (omega arith)
    ]

-- ---- a line that is taken has as many fields as its keyword asks, and its names are names
module _ (d : Draft) (f : Row) where
  passed : (b : Bool) (n : ℕ) (o : Outcome) → 0 < n → (refuse b n d o).number ≡ 0
      → (b ≡ false) × (o.number ≡ 0)
  unfolding refuse refused
  passed true n o p e = absurd (omega arith)
  passed false n o p e = (refl, e)

  -- m fields, the n after the keyword names; a field 2 that is no name is past the end
  opening : (m n : ℕ) (o : Outcome) → 0 < n → (n < 2 → m ≤ 2)
      → (refuse (not (eqb (length f) m)) 24 d (refuse (ltb 0 (faulty f n)) 25 d o)).number ≡ 0
      → Spelled f
  unfolding word
  opening m n o p q e =
      let (a, r) = passed _ 24 _ (omega arith) e in
      let (b, z) = passed _ 25 o (omega arith) r in (
        name_field f n 0 b p,
        elim (dec_lt n 2) [
          | no h ↦ name_field f n 1 b (omega arith)
          | yes h ↦
              (let l : length f ≤ 2 = omega (arith, q h, eqb-true (length f) m (not-false _ a)) in
              rw (get_or-eq_default f [] {n = 2} l) (omega arith))
        ],
      )

  pub line-spelled : (k : ℕ) → (line d k f).number ≡ 0 → Spelled f
  unfolding unit_line out_line in_line feed_line join_line refused
  line-spelled k = by-keyword (λ o. o.number ≡ 0 → Spelled f) d k f
      (λ w. opening 2 1 _ (omega arith) (omega arith))
      (λ w. opening 3 2 _ (omega arith) (omega arith))
      (λ w. opening 4 2 _ (omega arith) (omega arith))
      (λ w. opening 4 3 _ (omega arith) (omega arith))
      (λ w. opening 5 4 _ (omega arith) (omega arith))
      (λ z. absurd (omega arith))

-- the lines that open with a word are some of the lines
pub opened-spelled : (w : List ℕ) (fs : List Row) → ((i : ℕ) → Spelled (get_or fs i []))
    → (i : ℕ) → Spelled (get_or (lines_of fs w) i [])
unfolding lines_of
opened-spelled w [] h i = h i
opened-spelled w (f ∷ fs) h i = go (same (word f 0) w) (opened-spelled w fs (λ j. h (suc j))) i
  where
    go : (b : Bool) → ((i : ℕ) → Spelled (get_or (lines_of fs w) i []))
        → (i : ℕ) → Spelled (get_or (cond b (f ∷ lines_of fs w) (lines_of fs w)) i [])
    go false ih i = ih i
    go true ih zero = h 0
    go true ih (suc i) = ih i
