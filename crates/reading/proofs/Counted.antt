-- How many lines a text has; every byte of a text ended by LF stands on one of them.
use Rattle.std.specs.Prelude.{
  ℕ,
  zero,
  suc,
  ◌-◌,
  ◌<◌,
  ◌≤◌,
  ◌≡◌,
  refl,
  Bool,
  true,
  false,
  cond,
  List,
  [],
  ◌∷◌,
  length,
  get_or,
  take,
  eqb,
}
use Rattle.std.proofs.Common.{ap, ◌∙◌, arith}
use Rattle.std.proofs.Math.Seq.{take-length}
use borrow.Author.Tests.{eq-eqb, ne_eqb}
use Rattle.grammar.specs.Words.{tab, lf}
use Rattle.grammar.specs.Rows.{rows, grown, parted, times, line_of}
use Rattle.grammar.specs.Opening.{Row}
use Rattle.reading.specs.WhichLine.{line_count}

grown-many : (x : ℕ) (rs : List Row) → length (grown x rs) ≡ length rs
unfolding grown
grown-many x [] = refl
grown-many x ([] ∷ rs) = refl
grown-many x ((f ∷ fs) ∷ rs) = refl

parted-many : (rs : List Row) → length (parted rs) ≡ length rs
unfolding parted
parted-many [] = refl
parted-many (r ∷ rs) = refl

-- the lines that LF ends are the rows
pub rows-many : (t : List ℕ) → length (rows t) ≡ times lf t
unfolding rows times
rows-many [] = refl
rows-many (x ∷ xs) = go (eqb x lf) (eqb x tab) (rows-many xs)
  where
    go : (l p : Bool) → length (rows xs) ≡ times lf xs
        → length (cond l (([] ∷ []) ∷ rows xs) (cond p (parted (rows xs)) (grown x (rows xs))))
        ≡ cond l (suc (times lf xs)) (times lf xs)
    go true p ih = ap suc ih
    go false true ih = parted-many (rows xs) ∙ ih
    go false false ih = grown-many x (rows xs) ∙ ih

-- ---- a text whose last byte is LF
times-some : (t : List ℕ) (n : ℕ) → length t ≡ suc n → get_or t n 0 ≡ lf → 0 < times lf t
unfolding times
times-some [] n l e = absurd (omega arith)
times-some (x ∷ xs) zero l e = rw (eq-eqb x lf e) (omega arith)
times-some (x ∷ xs) (suc n) l e = go (eqb x lf) (times-some xs n (omega arith) e)
  where
    go : (b : Bool) → 0 < times lf xs → 0 < cond b (suc (times lf xs)) (times lf xs)
    go true h = omega arith
    go false h = h

times-before : (t : List ℕ) (n i : ℕ) → length t ≡ suc n → get_or t n 0 ≡ lf → i < length t
    → times lf (take i t) < times lf t
unfolding times
times-before [] n i l e h = absurd (omega arith)
times-before (x ∷ xs) n zero l e h = times-some (x ∷ xs) n l e
times-before (x ∷ xs) zero (suc i) l e h = absurd (omega arith)
times-before (x ∷ xs) (suc n) (suc i) l e h = go (eqb x lf)
    (times-before xs n i (omega arith) e (omega arith))
  where
    go : (b : Bool) → times lf (take i xs) < times lf xs
        → cond b (suc (times lf (take i xs))) (times lf (take i xs))
        < cond b (suc (times lf xs)) (times lf xs)
    go true h = omega arith
    go false h = h

module _ (t : List ℕ) where
  -- LF is the last byte
  module _ (ended : get_or t (length t - 1) 0 ≡ lf) where
    not-empty : 0 < length t
    not-empty = go t ended
      where
        go : (t : List ℕ) → get_or t (length t - 1) 0 ≡ lf → 0 < length t
        go [] e = absurd (omega arith)
        go (x ∷ xs) e = omega arith

    pub count-ended : line_count t ≡ times lf t
    unfolding line_count
    count-ended = rw (
      ne_eqb (length t) 0 (λ e. omega (arith, not-empty)),
      eq-eqb (get_or t (length t - 1) 0) lf ended,
    )

    -- the line of a byte is one of the lines
    pub line-within : (i : ℕ) → i < length t → line_of t i ≤ line_count t
    unfolding line_of
    line-within i h =
        rw count-ended (times-before t (length t - 1) i (omega (arith, not-empty)) ended h)

    pub count-some : 1 ≤ line_count t
    count-some = rw count-ended (times-some t (length t - 1) (omega (arith, not-empty)) ended)

    pub count-rows : line_count t ≡ length (rows t)
    count-rows = rw (count-ended, rows-many t)

  -- the line behind the last LF is the last
  pub last_line : 0 < length t → (get_or t (length t - 1) 0 ≡ lf → ⊥)
      → line_of t (length t) ≡ line_count t
  unfolding line_of line_count
  last_line s n = rw (
    ne_eqb (length t) 0 (λ e. omega arith),
    ne_eqb (get_or t (length t - 1) 0) lf n,
    take-length t,
  )
