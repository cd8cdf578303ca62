-- What reading a text comes to, case by case.
use Rattle.std.specs.Prelude.{
  ℕ,
  zero,
  suc,
  ◌+◌,
  ◌-◌,
  ◌<◌,
  ◌≤◌,
  ◌≡◌,
  refl,
  List,
  [],
  ◌∷◌,
  length,
  get_or,
  drop,
  T,
  eqb,
  ltb,
}
use mathlib.Core.Bool.{Bool, true, false, not, cond, ◌&&◌, ◌||◌}
use Rattle.std.proofs.Common.{arith, eqb-true, ltb-true, ltb-false}
use Rattle.std.proofs.lemmas.Bool.{eqb-false}
use Rattle.search.specs.Truth.{T_and, clash, eq_true}
use Rattle.grammar.specs.Quoted.{ascii}
use Rattle.grammar.specs.Words.{lf, same}
use Rattle.grammar.specs.Same.{same_true}
use Rattle.grammar.specs.Rows.{rows, word, place, line_of, first_bad}
use Rattle.grammar.specs.Opening.{Row}
use Rattle.grammar.specs.Places.{place_is}
use Rattle.grammar.specs.Draft.{Draft, no_input, unjoined, blank, known, loose}
use Rattle.grammar.specs.Lines.{line}
use Rattle.grammar.specs.Reading.{Reading, reading, line_by_line, lines_from}
use Rattle.grammar.specs.Reading.{ending, stopped, packed, version}
use Rattle.reading.specs.Proper.{Proper, blank-proper}
use Rattle.reading.specs.Kept.{line_kept}
use Rattle.reading.specs.WhichLine.{refusals}
use Rattle.reading.specs.Spelled.{Spelled, line-spelled}
use Rattle.reading.specs.Takes.{line_taken, Runs, ends, goes_on}

-- what is read where nothing is refused
abbrev pub table : Draft → Reading
table d = record { number = 0; place = length (packed d); bytes = packed d }

-- the end: no unit, an input that is not joined, too little room, or the table
pub data Closes (room : ℕ) (d : Draft) : Reading → Type 0 where
  closes_33 : length d.units ≡ 0 → Closes room d (stopped 33 1)
  closes_31 : loose d < length d.inputs
      → Closes room d (stopped 31 (get_or d.inputs (loose d) no_input).line)
  closes_34 : room < length (packed d) → Closes room d (stopped 34 0)
  closes_0 : 0 < length d.units → length d.inputs ≤ loose d → Closes room d (table d)

-- the lines from line k on: one is the first that is refused, or all are taken
pub data Comes (room : ℕ) (d : Draft) (k : ℕ) (fs : List Row) : Reading → Type 0 where
  to-line : (i j n : ℕ) → i < length fs → j ≡ k + i
      → place (λ n. not (eqb n 0)) (refusals d k fs) ≡ i
      → get_or (refusals d k fs) i 0 ≡ n → (n ≡ 0 → ⊥) → Comes room d k fs (stopped n j)
  to_end : (last : Draft) (r : Reading) → Runs d k fs last → ((i : ℕ) → Spelled (get_or fs i []))
      → Proper last → Closes room last r → Comes room d k fs r

-- the whole text
pub data Reads (room : ℕ) (t : List ℕ) : Reading → Type 0 where
  reads_20 : Reads room t (stopped 20 0)
  reads_21 : 0 < length t → (get_or t (length t - 1) 0 ≡ lf → ⊥)
      → Reads room t (stopped 21 (line_of t (length t)))
  reads_22 : get_or t (length t - 1) 0 ≡ lf → first_bad t < length t
      → Reads room t (stopped 22 (line_of t (first_bad t)))
  reads_23 : get_or t (length t - 1) 0 ≡ lf → Reads room t (stopped 23 1)
  reads_lines : (r : Reading) (first : Row) (fs : List Row) → get_or t (length t - 1) 0 ≡ lf
      → rows t ≡ first ∷ fs → word first 0 ≡ ascii "cosim" → Comes room blank 2 fs r
      → Reads room t r

pub ending-closes : (room : ℕ) (d : Draft) → Closes room d (ending room d)
unfolding ending known
ending-closes room d = go (eqb (length d.units) 0) refl (ltb (loose d) (length d.inputs)) refl
    (ltb room (length (packed d))) refl
  where
    go : (a : Bool) → eqb (length d.units) 0 ≡ a → (b : Bool)
        → ltb (loose d) (length d.inputs) ≡ b
        → (c : Bool) → ltb room (length (packed d)) ≡ c
        → Closes room d (cond a (stopped 33 1)
        (cond b (stopped 31 (get_or d.inputs (loose d) no_input).line)
        (cond c (stopped 34 0) (table d))))
    go true p b q c s = closes_33 (eqb-true _ _ p)
    go false p true q c s = closes_31 (ltb-true _ _ q)
    go false p false q true s = closes_34 (ltb-true _ _ s)
    go false p false q false s =
        let z = eqb-false (length d.units) 0 p in
        closes_0 (some (length d.units) z) (ltb-false _ _ q)
      where
        some : (n : ℕ) → (n ≡ 0 → ⊥) → 0 < n
        some n z = omega arith

line-above : (room : ℕ) (d : Draft) (k : ℕ) (f : Row) (fs : List Row) (r : Reading)
    → (line d k f).number ≡ 0 → Comes room (line d k f).draft (suc k) fs r
    → Comes room d k (f ∷ fs) r
unfolding refusals place
line-above room d k f fs r t (to-line i j n h p a q z) =
    to-line (suc i) j n (omega arith) (omega arith) (rw (t, a)) q z
line-above room d k f fs r t (to_end last s c n g x) =
    to_end last s (goes_on (line_taken d k f t) c)
    (elim [ zero ↦ line-spelled d f k t | suc i ↦ n i ]) g x

pub lines-come : (room : ℕ) (d : Draft) (k : ℕ) (fs : List Row) → Proper d
    → Comes room d k fs (lines_from room d k fs)
unfolding lines_from refusals place word
lines-come room d k [] g = to_end d _ ends (λ i. omega arith) g (ending-closes room d)
lines-come room d k (f ∷ fs) g =
    go (eqb (line d k f).number 0) refl
    (lines-come room (line d k f).draft (suc k) fs (line_kept d g k f))
  where
    go : (b : Bool) → eqb (line d k f).number 0 ≡ b
        → Comes room (line d k f).draft (suc k) fs (lines_from room (line d k f).draft (suc k) fs)
        → Comes room d k (f ∷ fs)
        (cond b (lines_from room (line d k f).draft (suc k) fs) (stopped (line d k f).number k))
    go true e h = line-above room d k f fs _ (eqb-true _ _ e) h
    go false e h = to-line 0 k _ (omega arith) (omega arith) (rw e) refl (eqb-false _ _ e)

-- a first line that names a version opens with `cosim`
first-opens : (f : Row) → eqb (version f) 0 ≡ false → word f 0 ≡ ascii "cosim"
unfolding version
first-opens f e =
    let a = eqb (length f) 2 in
    let b = same (word f 0) (ascii "cosim") in
    let c = same (word f 1) (ascii "1") in
    same_true (word f 0) (ascii "cosim") (T_and b c (T_and a (b && c) (go (a && (b && c)) e)).1).0
  where
    go : (b : Bool) → eqb (cond b 1 0) 0 ≡ false → T b
    go true e = tt
    go false e = absurd (mathlib.Core.Bool.true≢false e)

first_some : (fs : List Row) → eqb (version (get_or fs 0 [])) 0 ≡ false
    → fs ≡ get_or fs 0 [] ∷ drop 1 fs
unfolding version
first_some [] e = absurd (mathlib.Core.Bool.true≢false e)
first_some (f ∷ fs) e = refl

not-empty : (t : List ℕ) → (eqb (length t) 0 || ltb 24576 (length t)) ≡ false → 0 < length t
not-empty [] e = absurd (mathlib.Core.Bool.true≢false e)
not-empty (x ∷ xs) e = omega arith

pub text_reads : (room : ℕ) (t : List ℕ) → Reads room t (reading room t)
unfolding reading line_by_line
text_reads room t =
    go (eqb (length t) 0 || ltb 24576 (length t)) refl (eqb (get_or t (length t - 1) 0) lf) refl
    (ltb (first_bad t) (length t)) refl
    (eqb (version (get_or (rows t) 0 [])) 0) refl
  where
    go : (a : Bool) → (eqb (length t) 0 || ltb 24576 (length t)) ≡ a → (b : Bool)
        → eqb (get_or t (length t - 1) 0) lf ≡ b → (c : Bool) → ltb (first_bad t) (length t) ≡ c
        → (e : Bool) → eqb (version (get_or (rows t) 0 [])) 0 ≡ e
        → Reads room t (cond a (stopped 20 0) (cond (not b) (stopped 21 (line_of t (length t)))
        (cond c (stopped 22 (line_of t (first_bad t)))
        (cond e (stopped 23 1) (lines_from room blank 2 (drop 1 (rows t)))))))
    go true z b p c q e s = reads_20
    go false z false p c q e s = reads_21 (not-empty t z) (eqb-false _ _ p)
    go false z true p true q e s = reads_22 (eqb-true _ _ p) (ltb-true _ _ q)
    go false z true p false q true s = reads_23 (eqb-true _ _ p)
    go false z true p false q false s =
        reads_lines _ (get_or (rows t) 0 []) (drop 1 (rows t)) (eqb-true _ _ p)
        (first_some (rows t) s)
        (first-opens _ s)
        (lines-come room blank 2 (drop 1 (rows t)) blank-proper)

-- where no input is loose each has a source
pub not-loose : (d : Draft) → length d.inputs ≤ loose d
    → (x : ℕ) → x < length d.inputs → (get_or d.inputs x no_input).source ≡ unjoined → ⊥
unfolding loose
not-loose d all x h e =
    clash (eqb (get_or d.inputs x no_input).source unjoined) (eq_true _ _ e)
    ((place_is (λ i. eqb i.source unjoined) no_input d.inputs).below x (omega arith))

-- ---- a text that is read
pub record Read (t : List ℕ) (r : Reading) : Type 0 where
  pub first : Row
  pub below : List Row
  pub draft : Draft
  pub lines : rows t ≡ first ∷ below
  pub opened : word first 0 ≡ ascii "cosim"
  pub run : Runs blank 2 below draft
  pub spelled : (i : ℕ) → Spelled (get_or below i [])
  pub proper : Proper draft
  pub some : 0 < length draft.units
  pub joined : length draft.inputs ≤ loose draft
  pub result : r ≡ table draft

pub text_read : (room : ℕ) (t : List ℕ) → (reading room t).number ≡ 0 → Read t (reading room t)
unfolding stopped
text_read room t = go (reading room t) (text_reads room t)
  where
    closed : (first : Row) (fs : List Row) (last : Draft) (r : Reading) → rows t ≡ first ∷ fs
        → word first 0 ≡ ascii "cosim" → Runs blank 2 fs last → ((i : ℕ) → Spelled (get_or fs i []))
        → Proper last → Closes room last r → r.number ≡ 0 → Read t r
    closed first fs last r l o c n g (closes_33 z) e = absurd (omega arith)
    closed first fs last r l o c n g (closes_31 z) e = absurd (omega arith)
    closed first fs last r l o c n g (closes_34 h) e = absurd (omega arith)
    closed first fs last r l o c n g (closes_0 s j) e = record {
      first = first;
      below = fs;
      draft = last;
      lines = l;
      opened = o;
      run = c;
      spelled = n;
      proper = g;
      some = s;
      joined = j;
      result = refl;
    }

    come : (first : Row) (fs : List Row) (r : Reading) → rows t ≡ first ∷ fs
        → word first 0 ≡ ascii "cosim" → Comes room blank 2 fs r → r.number ≡ 0 → Read t r
    come first fs r l o (to-line i j n h p a q z) x = absurd (z x)
    come first fs r l o (to_end last s c n g z) x = closed first fs last s l o c n g z x

    go : (r : Reading) → Reads room t r → r.number ≡ 0 → Read t r
    go r reads_20 e = absurd (omega arith)
    go r (reads_21 s n) e = absurd (omega arith)
    go r (reads_22 l b) e = absurd (omega arith)
    go r (reads_23 l) e = absurd (omega arith)
    go r (reads_lines s first fs l p o c) e = come first fs s p o c e

-- the place is the packed length
pub read-long : (room : ℕ) (t : List ℕ) → (reading room t).number ≡ 0
    → (reading room t).place ≡ length (reading room t).bytes
read-long room t e = rw (text_read room t e).result
