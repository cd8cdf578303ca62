-- One line below the first: its refusal, or the draft after it, by SPECIFICATION, Text 12.
use Rattle.std.specs.Prelude.{ℕ, zero, suc, Bool, not, ◌&&◌, cond, List, length, eqb, ltb, leb}
use Rattle.grammar.specs.Quoted.{ascii}
use Rattle.grammar.specs.Words.{same}
use Rattle.grammar.specs.Rows.{word}
use Rattle.grammar.specs.Draft.{Draft, unjoined, input_of, unit_named, output_named, input_named}
use Rattle.grammar.specs.Draft.{feed_of, known, add_unit, add_output, add_input, add_feed, add_join}

-- a refusal's number, or 0, and the draft after the line
pub record Outcome : Type 0 where
  pub number : ℕ
  pub draft : Draft

-- a refusal leaves the draft
unfoldable pub refused : ℕ → Draft → Outcome
refused n d = record { number = n; draft = d }

-- refused by the number n where the test passes; else what is left decides
unfoldable pub refuse : Bool → ℕ → Draft → Outcome → Outcome
refuse b n d rest = cond b (refused n d) rest

unfoldable pub taken : Draft → Outcome
taken d = record { number = 0; draft = d }

-- a name has 1 to 16 bytes; 22 has seen to which these are
unfoldable pub is_name : List ℕ → Bool
is_name w = ltb 0 (length w) && leb (length w) 16

-- the first of the n fields after the keyword that is no name, or 0
unfoldable pub faulty : List (List ℕ) → ℕ → ℕ
faulty f zero = 0
faulty f (suc n) = cond (ltb 0 (faulty f n)) (faulty f n) (cond (is_name (word f (suc n))) 0 (suc n))

-- 0 `delayed`, 1 `reactive`, 2 another word
unfoldable pub kind_of : List ℕ → ℕ
kind_of w = cond (same w (ascii "delayed")) 0 (cond (same w (ascii "reactive")) 1 2)

-- `unit`, name
unfoldable pub unit_line : Draft → List (List ℕ) → Outcome
unit_line d f =
    refuse (not (eqb (length f) 2)) 24 d
    (refuse (ltb 0 (faulty f 1)) 25 d
    (refuse (known d.units (unit_named d (word f 1))) 26 d
    (refuse (leb 32 (length d.units)) 29 d
    (taken (add_unit d (word f 1))))))

-- `out`, unit, name
unfoldable pub out_line : Draft → List (List ℕ) → Outcome
out_line d f =
    let u = unit_named d (word f 1) in
    refuse (not (eqb (length f) 3)) 24 d
    (refuse (ltb 0 (faulty f 2)) 25 d
    (refuse (not (known d.units u)) 27 d
    (refuse (known d.outputs (output_named d u (word f 2))) 26 d
    (refuse (leb 96 (length d.outputs)) 29 d
    (taken (add_output d (record { owner = u; name = word f 2 })))))))

-- `in`, unit, name, `delayed` or `reactive`; k is the line; an empty kind word is no name: 28
unfoldable pub in_line : Draft → ℕ → List (List ℕ) → Outcome
in_line d k f =
    let u = unit_named d (word f 1) in
    let w = kind_of (word f 3) in
    refuse (not (eqb (length f) 4)) 24 d
    (refuse (ltb 0 (faulty f 2)) 25 d
    (refuse (eqb w 2) 28 d
    (refuse (not (known d.units u)) 27 d
    (refuse (known d.inputs (input_named d u (word f 2))) 26 d
    (refuse (leb 96 (length d.inputs)) 29 d
    (taken (add_input d (record { owner = u; name = word f 2; kind = w; source = unjoined; line = k }))))))))

-- `feed`, unit, input, output
unfoldable pub feed_line : Draft → List (List ℕ) → Outcome
feed_line d f =
    let u = unit_named d (word f 1) in
    let x = input_named d u (word f 2) in
    let y = output_named d u (word f 3) in
    refuse (not (eqb (length f) 4)) 24 d
    (refuse (ltb 0 (faulty f 3)) 25 d
    (refuse (not (known d.units u)) 27 d
    (refuse (not (known d.inputs x)) 27 d
    (refuse (not (known d.outputs y)) 27 d
    (refuse (known d.feeds (feed_of d x y)) 32 d
    (refuse (leb 128 (length d.feeds)) 29 d
    (taken (add_feed d (record { input = x; output = y })))))))))

-- `join`, unit, output, unit, input
unfoldable pub join_line : Draft → List (List ℕ) → Outcome
join_line d f =
    let u = unit_named d (word f 1) in
    let y = output_named d u (word f 2) in
    let v = unit_named d (word f 3) in
    let x = input_named d v (word f 4) in
    refuse (not (eqb (length f) 5)) 24 d
    (refuse (ltb 0 (faulty f 4)) 25 d
    (refuse (not (known d.units u)) 27 d
    (refuse (not (known d.outputs y)) 27 d
    (refuse (not (known d.units v)) 27 d
    (refuse (not (known d.inputs x)) 27 d
    (refuse (not (eqb (input_of d x).source unjoined)) 30 d
    (taken (add_join d x y))))))))

-- line k by its keyword; any other word is 24, and so is `cosim`
unfoldable pub line : Draft → ℕ → List (List ℕ) → Outcome
line d k f =
    cond (same (word f 0) (ascii "unit")) (unit_line d f)
    (cond (same (word f 0) (ascii "out")) (out_line d f)
    (cond (same (word f 0) (ascii "in")) (in_line d k f)
    (cond (same (word f 0) (ascii "feed")) (feed_line d f)
    (cond (same (word f 0) (ascii "join")) (join_line d f)
    (refused 24 d)))))
