-- The line that declares a call, by its place in the text.
use Rattle.std.specs.Prelude.{ℕ, cond, List, [], ◌∷◌, length, get_or, eqb}
use Rattle.grammar.specs.Quoted.{ascii}
use Rattle.grammar.specs.Rows.{row_at, word}
use Rattle.calls.specs.declared.Call.{Call}
use Rattle.calls.specs.declared.Call.TheVariants.{Step, Get, Set, NoCall}
use Rattle.calls.specs.Number.{call_in}
use Rattle.pen.specs.Decimal.{decimal}
use Rattle.printing.specs.Printed.{printed}
use Rattle.printing.specs.declared.call.Line.{Line}

-- its kind is 0 step, 1 get, 2 set, 3 no call
unfoldable pub line_for : List ℕ → List ℕ → List ℕ → Call → Line
line_for us ys xs (Step u) = record { kind = 0; place = get_or us u 0 }
line_for us ys xs (Get y) = record { kind = 1; place = get_or ys y 0 }
line_for us ys xs (Set x) = record { kind = 2; place = get_or xs x 0 }
line_for us ys xs NoCall = record { kind = 3; place = 0 }

unfoldable pub line_at : List ℕ → List ℕ → List ℕ → ℕ → Line
line_at us ys xs c = line_for us ys xs (call_in (length us) (length ys) (length xs) c)

-- what is printed of it at place k
unfoldable pub text_of : List ℕ → ℕ → Line → List ℕ
text_of t k l =
    let f = row_at t l.place in
    cond (eqb l.kind 0) (printed (decimal k ∷ ascii "step" ∷ word f 1 ∷ ascii "-" ∷ []))
    (cond (eqb l.kind 1) (printed (decimal k ∷ ascii "get" ∷ word f 1 ∷ word f 2 ∷ []))
    (cond (eqb l.kind 2) (printed (decimal k ∷ ascii "set" ∷ word f 1 ∷ word f 2 ∷ []))
    []))
