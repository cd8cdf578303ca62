-- Where the fields of a line begin and end, from the lines of the whole text.
use Rattle.std.specs.Prelude.{ℕ, ◌+◌, cond, List, [], ◌∷◌, length, set, replicate, ltb, leb}
use Rattle.grammar.specs.Rows.{row_at}
use Rattle.fields.specs.declared.Fields.{Fields}

-- no line: no field
unfoldable pub no_fields : Fields
no_fields = record { from = replicate 5 0; to = replicate 5 0; count = 0; next = 0 }

-- the n-th of five numbers is v; a sixth is not kept
unfoldable pub keep : List ℕ → ℕ → ℕ → List ℕ
keep xs n v = cond (leb 5 n) xs (set xs n v)

-- one field more, from place a up to place e
unfoldable pub one_more : Fields → ℕ → ℕ → Fields
one_more l a e =
    record {
      from = keep l.from l.count a;
      to = keep l.to l.count e;
      count = l.count + 1;
      next = e + 1;
    }

-- these fields, the first from place a on, each behind the one byte that ends the one before it
unfoldable pub spans : ℕ → List (List ℕ) → Fields → Fields
spans a [] l = l
spans a (f ∷ fs) l = spans (a + length f + 1) fs (one_more l a (a + length f))

-- how many bytes a line takes, with the byte that ends each field
unfoldable pub span : List (List ℕ) → ℕ
span [] = 0
span (f ∷ fs) = length f + 1 + span fs

-- the fields of the line at place a; none where no ended line is there or the text is too long
unfoldable pub fields_at : List ℕ → ℕ → Fields
fields_at t a = cond (ltb 65535 (length t)) no_fields (spans a (row_at t a) no_fields)
