-- The whole text, from its checks to the packed bytes: SPECIFICATION, Text 10 to 14.
use Rattle.std.specs.Prelude.{
  ℕ,
  suc,
  ◌-◌,
  not,
  ◌&&◌,
  ◌||◌,
  cond,
  List,
  [],
  ◌∷◌,
  ◌++◌,
  map,
  length,
  get_or,
  drop,
  eqb,
  ltb,
}
use Rattle.grammar.specs.Quoted.{ascii}
use Rattle.grammar.specs.Words.{lf, same}
use Rattle.grammar.specs.Rows.{rows, word, line_of, first_bad}
use Rattle.grammar.specs.Draft.{Draft, Feed, blank, input_of, loose, known}
use Rattle.grammar.specs.Lines.{line}

-- a refusal with its line; or 0 with the packed length and the packed bytes
pub record Reading : Type 0 where
  pub number : ℕ
  pub place : ℕ
  pub bytes : List ℕ

-- a refusal writes nothing
unfoldable pub stopped : ℕ → ℕ → Reading
stopped n k = record { number = n; place = k; bytes = [] }

unfoldable pub pairs : List Feed → List ℕ
pairs [] = []
pairs (f ∷ fs) = f.input ∷ (f.output ∷ pairs fs)

-- the parts of the packed table: counts, owners of outputs and of inputs, kinds, sources, feeds
unfoldable pub packed : Draft → List ℕ
packed d =
    length d.units ∷ (length d.outputs ∷ (length d.inputs ∷ (length d.feeds ∷
    (map (λ o. o.owner) d.outputs ++ (map (λ i. i.owner) d.inputs
    ++ (map (λ i. i.kind) d.inputs ++ (map (λ i. i.source) d.inputs ++ pairs d.feeds)))))))

-- once all lines are taken: 33 at line 1; 31 at its `in` line; 34 at line 0;
-- else 0 with the packed length, and the packed bytes
unfoldable pub ending : ℕ → Draft → Reading
ending room d =
    cond (eqb (length d.units) 0) (stopped 33 1)
    (cond (known d.inputs (loose d)) (stopped 31 (input_of d (loose d)).line)
    (cond (ltb room (length (packed d))) (stopped 34 0)
    (record { number = 0; place = length (packed d); bytes = packed d })))

-- line k and those below it
unfoldable pub lines_from : ℕ → Draft → ℕ → List (List (List ℕ)) → Reading
lines_from room d k [] = ending room d
lines_from room d k (f ∷ fs) =
    let o = line d k f in
    cond (eqb o.number 0) (lines_from room o.draft (suc k) fs) (stopped o.number k)

-- 1 where the line is `cosim`, `1` and no more, else 0
unfoldable pub version : List (List ℕ) → ℕ
version f = cond (eqb (length f) 2 && (same (word f 0) (ascii "cosim") && same (word f 1) (ascii "1"))) 1 0

unfoldable pub line_by_line : ℕ → List (List (List ℕ)) → Reading
line_by_line room fs = cond (eqb (version (get_or fs 0 [])) 0) (stopped 23 1) (lines_from room blank 2 (drop 1 fs))

-- 20, 21 and 22 of the whole text, and then its lines; room is the packed buffer's
unfoldable pub reading : ℕ → List ℕ → Reading
reading room t =
    cond (eqb (length t) 0 || ltb 24576 (length t)) (stopped 20 0)
    (cond (not (eqb (get_or t (length t - 1) 0) lf)) (stopped 21 (line_of t (length t)))
    (cond (ltb (first_bad t) (length t)) (stopped 22 (line_of t (first_bad t)))
    (line_by_line room (rows t))))
