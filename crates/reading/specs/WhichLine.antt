-- Which line a refusal names: SPECIFICATION, Text 10 to 13.
use Rattle.std.specs.Prelude.{
  ℕ,
  suc,
  ◌+◌,
  ◌-◌,
  ◌≤◌,
  ◌≡◌,
  ◌⊎◌,
  ◌↔◌,
  not,
  cond,
  ◌||◌,
  List,
  [],
  ◌∷◌,
  length,
  get_or,
  drop,
  eqb,
}
use Rattle.grammar.specs.Words.{lf}
use Rattle.grammar.specs.Rows.{rows, place, times, line_of, first_bad}
use Rattle.grammar.specs.Opening.{Row}
use Rattle.grammar.specs.Draft.{Draft, blank}
use Rattle.grammar.specs.Lines.{line}
use Rattle.grammar.specs.Reading.{Reading}
use Rattle.reading.specs.Numbers.{is_loose}

-- the lines that LF ends, and one more for a last line that is not ended
unfoldable pub line_count : List ℕ → ℕ
line_count t = cond (eqb (length t) 0 || eqb (get_or t (length t - 1) 0) lf) (times lf t) (suc (times lf t))

-- the number by which each line from line k on is refused, 0 where it is taken
unfoldable pub refusals : Draft → ℕ → List Row → List ℕ
refusals d k [] = []
refusals d k (f ∷ fs) = (line d k f).number ∷ refusals (line d k f).draft (suc k) fs

pub record Lined (t : List ℕ) (r : Reading) : Type 0 where
  -- the line is 0 for 20 and 34 alone
  pub none : (r.place ≡ 0) ↔ ((r.number ≡ 20) ⊎ (r.number ≡ 34))
  -- every other is a line of the text, counted from 1
  pub within : r.place ≤ line_count t
  -- 21 is at the last line, which is not ended
  pub last : r.number ≡ 21 → r.place ≡ line_count t
  -- 22 is at the line of the first byte that is not allowed
  pub byte : r.number ≡ 22 → r.place ≡ line_of t (first_bad t)
  -- 23 and 33 are at line 1
  pub first : (r.number ≡ 23) ⊎ (r.number ≡ 33) → r.place ≡ 1
  -- 31 is at the first `in` line whose input no line joins
  pub loose : r.number ≡ 31 → r.place ≡ suc (place (is_loose (rows t)) (rows t))
  -- 24 to 30 and 32 are at the first line below line 1 that is refused, by its number
  pub refused : 24 ≤ r.number → r.number ≤ 32 → (r.number ≡ 31 → ⊥)
      → let numbers = refusals blank 2 (drop 1 (rows t)) in let i = place (λ n. not (eqb n 0)) numbers in
      (r.place ≡ 2 + i) × (r.number ≡ get_or numbers i 0)
