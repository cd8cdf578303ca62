-- What the parts of the reader leave to be read, whatever the room in the packed buffer.
use Rattle.std.specs.Prelude.{ℕ, ◌-◌, ◌<◌, ◌≤◌, ◌≡◌, cond, List, length, get_or, eqb, ltb}
use Rattle.grammar.specs.Rows.{rows}
use Rattle.grammar.specs.Draft.{Draft}
use Rattle.grammar.specs.Reading.{Reading, reading, line_by_line, ending, stopped, packed}
use Rattle.notes.specs.declared.Counts.{Counts}
use Rattle.notes.specs.Notes.{draft_of, Fit}
use Rattle.text.specs.declared.Answer.{Answer}
use Rattle.text.specs.declared.Noted.{Noted}

-- a text that passes 20 and 21
pub record Ended (t : List ℕ) : Type 0 where
  pub some : 0 < length t
  pub short : length t ≤ 24576
  pub last : get_or t (length t - 1) 0 ≡ 10

-- 20, 21 or 22 of the whole text; or it is read line by line
pub record Whole (t : List ℕ) (r : Answer) : Type 0 where
  pub ended : r.number ≡ 0 → Ended t
  pub left : (room : ℕ)
      → reading room t ≡ cond (eqb r.number 0) (line_by_line room (rows t))
      (stopped r.number r.place)

-- what the lines give is a refusal, or what the end gives for the draft that is noted
pub record Walked (t p s : List ℕ) (r : Noted) (lines : ℕ → Reading) : Type 0 where
  pub fit : Fit t p s r.counts
  pub left : (room : ℕ) → lines room
      ≡ cond (eqb r.number 0) (ending room (draft_of t p s r.counts))
      (stopped r.number r.place)

-- what is read where there is room
abbrev pub written : Draft → Reading
written d = record { number = 0; place = length (packed d); bytes = packed d }

-- 34, or the packed table
unfoldable pub roomed : ℕ → Draft → Reading
roomed room d = cond (ltb room (length (packed d))) (stopped 34 0) (written d)

-- 33 or 31 of the draft that is noted, or what the room leaves
pub record Closed (t p s : List ℕ) (c : Counts) (r : Noted) : Type 0 where
  pub kept : r.counts ≡ c
  pub left : (room : ℕ) → ending room (draft_of t p s c)
      ≡ cond (eqb r.number 0) (roomed room (draft_of t p s c)) (stopped r.number r.place)

-- reading the text gives a refusal, or the table of the draft that is noted
pub record Noticed (t p s : List ℕ) (r : Noted) : Type 0 where
  pub fit : r.number ≡ 0 → Fit t p s r.counts
  pub left : (room : ℕ) → reading room t
      ≡ cond (eqb r.number 0) (roomed room (draft_of t p s r.counts))
      (stopped r.number r.place)
