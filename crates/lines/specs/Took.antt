-- What the reader of a line hands back: the number of the line's outcome, and what it declares.
use Rattle.std.specs.Prelude.{ℕ, ◌+◌, ◌≤◌, ◌<◌, ◌≡◌, ◌⊎◌, not, cond, List, length, get_or, eqb, ltb}
use Rattle.search.specs.Least.{least_from}
use Rattle.grammar.specs.Quoted.{ascii}
use Rattle.grammar.specs.Words.{same}
use Rattle.grammar.specs.Rows.{word}
use Rattle.grammar.specs.Draft.{Draft, unit_named, output_named, input_named}
use Rattle.grammar.specs.Lines.{Outcome, faulty, kind_of}
use Rattle.grammar.specs.Lexed.{Lexed}
use Rattle.fields.specs.declared.Fields.{Fields}
use Rattle.notes.specs.declared.Counts.{Counts}
use Rattle.notes.specs.declared.Entry.{Entry}
use Rattle.notes.specs.Notes.{named}
use Rattle.notes.specs.Noted.{no_entry, Declares}
use Rattle.lines.specs.declared.Taken.{Taken}
use Rattle.lines.specs.declared.Port.{Port}

-- the fields of the line that begins at place a are told right
abbrev pub Told : List ℕ → ℕ → Fields → Type 0
Told t a l = Lexed t a l.from l.to l.count l.next

-- 24 for another number of fields, 25 where one of the first names is no name, else 0
unfoldable pub shape_of : List (List ℕ) → ℕ → ℕ → ℕ
shape_of f count names = cond (not (eqb (length f) count)) 24 (cond (ltb 0 (faulty f names)) 25 0)

pub record Shaped (f : List (List ℕ)) (count names : ℕ) (r : Taken) : Type 0 where
  pub number : r.number ≡ shape_of f count names
  pub entry : r.entry ≡ no_entry

-- 1 `unit`, 2 `out`, 3 `in`, 4 `feed`, 5 `join`, 0 another word
unfoldable pub keyword_of : List ℕ → ℕ
keyword_of w =
    cond (same w (ascii "unit")) 1
    (cond (same w (ascii "out")) 2
    (cond (same w (ascii "in")) 3
    (cond (same w (ascii "feed")) 4
    (cond (same w (ascii "join")) 5 0))))

-- field i names a unit and the next one of its ports, of n names from name b on; or one does not
pub record Ported (t p s : List ℕ) (c : Counts) (f : List (List ℕ)) (i b n : ℕ)
    (r : Port) : Type 0 where
  pub unit : r.unit ≡ least_from (named t p s 0 0 (word f i)) c.units 0
  pub none : (r.field ≡ 0 → ⊥) → (c.units ≤ r.unit)
      ⊎ ((r.unit < c.units) × (n ≤ least_from (named t p s b r.unit (word f (i + 1))) n 0))
  pub some : r.field ≡ 0 → (r.unit < c.units)
      × ((r.number < n) × (r.number ≡ least_from (named t p s b r.unit (word f (i + 1))) n 0))

-- ---- what each line declares, of the draft and its fields, begun at `from`; i is a name's rank

abbrev pub name_entry : ℕ → ℕ → ℕ → ℕ → ℕ → Entry
name_entry what u kind a i =
    record { what = what; owner = u; rank = i; kind = kind; input = 0; output = 0; begin = a }

abbrev pub wire_entry : ℕ → ℕ → ℕ → Entry
wire_entry what x y =
    record { what = what; owner = 0; rank = 0; kind = 0; input = x; output = y; begin = 0 }

unfoldable pub unit_entry : List ℕ → ℕ → Entry
unit_entry from i = name_entry 1 0 0 (get_or from 1 0) i

unfoldable pub out_entry : Draft → List (List ℕ) → List ℕ → ℕ → Entry
out_entry d f from i = name_entry 2 (unit_named d (word f 1)) 0 (get_or from 2 0) i

unfoldable pub in_entry : Draft → List (List ℕ) → List ℕ → ℕ → Entry
in_entry d f from i = name_entry 3 (unit_named d (word f 1)) (kind_of (word f 3)) (get_or from 2 0)
    i

unfoldable pub feed_entry : Draft → List (List ℕ) → ℕ → Entry
feed_entry d f i =
    let u = unit_named d (word f 1) in
    wire_entry 4 (input_named d u (word f 2)) (output_named d u (word f 3))

unfoldable pub join_entry : Draft → List (List ℕ) → ℕ → Entry
join_entry d f i =
    wire_entry 5 (input_named d (unit_named d (word f 3)) (word f 4))
    (output_named d (unit_named d (word f 1)) (word f 2))

-- by the line's keyword
unfoldable pub entry_of : Draft → List (List ℕ) → List ℕ → ℕ → Entry
entry_of d f from i =
    let k = keyword_of (word f 0) in
    cond (eqb k 1) (unit_entry from i)
    (cond (eqb k 2) (out_entry d f from i)
    (cond (eqb k 3) (in_entry d f from i)
    (cond (eqb k 4) (feed_entry d f i)
    (cond (eqb k 5) (join_entry d f i) no_entry))))

-- the number is the outcome's; where it is 0 the entry is the line's and makes the outcome's draft
pub record Took (t p s : List ℕ) (c : Counts) (k : ℕ) (entry : ℕ → Entry) (r : Taken)
    (o : Outcome) : Type 0 where
  pub number : r.number ≡ o.number
  pub none : (r.number ≡ 0 → ⊥) → r.entry ≡ no_entry
  pub is : r.number ≡ 0 → r.entry ≡ entry r.entry.rank
  pub declares : r.number ≡ 0 → Declares t p s c k r.entry o.draft
