-- What is declared so far, names found in it, one declaration more: SPECIFICATION, Text 6 to 8.
use Rattle.std.specs.Prelude.{ℕ, Bool, ◌&&◌, List, [], ◌∷◌, ◌++◌, length, get_or, set, eqb, ltb}
use Rattle.grammar.specs.Words.{same}
use Rattle.grammar.specs.Rows.{place}

pub record Output : Type 0 where
  pub owner : ℕ
  pub name : List ℕ

-- kind 0 delayed, 1 reactive; the line that declares it
pub record Input : Type 0 where
  pub owner : ℕ
  pub name : List ℕ
  pub kind : ℕ
  pub source : ℕ
  pub line : ℕ

pub record Feed : Type 0 where
  pub input : ℕ
  pub output : ℕ

-- each list in line order, so that a place in it is a number
pub record Draft : Type 0 where
  pub units : List (List ℕ)
  pub outputs : List Output
  pub inputs : List Input
  pub feeds : List Feed

abbrev pub draft : List (List ℕ) → List Output → List Input → List Feed → Draft
draft u y x f = record { units = u; outputs = y; inputs = x; feeds = f }

unfoldable pub blank : Draft
blank = draft [] [] [] []

-- the source of an input that is not joined yet: 255, since an output's number is below 96
abbrev pub unjoined : ℕ
unjoined = 255

abbrev pub no_input : Input
no_input = record { owner = 0; name = []; kind = 0; source = 0; line = 0 }

-- input x
abbrev pub input_of : Draft → ℕ → Input
input_of d x = get_or d.inputs x no_input

-- ---- three kinds of sets of names: the units, the outputs of a unit, the inputs of a unit
-- the number of what has that name, or the count where nothing has

unfoldable pub unit_named : Draft → List ℕ → ℕ
unit_named d w = place (λ n. same n w) d.units

unfoldable pub output_named : Draft → ℕ → List ℕ → ℕ
output_named d u w = place (λ o. eqb o.owner u && same o.name w) d.outputs

unfoldable pub input_named : Draft → ℕ → List ℕ → ℕ
input_named d u w = place (λ i. eqb i.owner u && same i.name w) d.inputs

unfoldable pub feed_of : Draft → ℕ → ℕ → ℕ
feed_of d x y = place (λ f. eqb f.input x && eqb f.output y) d.feeds

-- the first input that is not joined, or the count
unfoldable pub loose : Draft → ℕ
loose d = place (λ i. eqb i.source unjoined) d.inputs

-- is i the number of one of these, or was none found?
unfoldable pub known : {A : Type 0} → List A → ℕ → Bool
known l i = ltb i (length l)

-- ---- with one declaration more

unfoldable pub add_unit : Draft → List ℕ → Draft
add_unit d n = draft (d.units ++ (n ∷ [])) d.outputs d.inputs d.feeds

unfoldable pub add_output : Draft → Output → Draft
add_output d o = draft d.units (d.outputs ++ (o ∷ [])) d.inputs d.feeds

unfoldable pub add_input : Draft → Input → Draft
add_input d i = draft d.units d.outputs (d.inputs ++ (i ∷ [])) d.feeds

unfoldable pub add_feed : Draft → Feed → Draft
add_feed d f = draft d.units d.outputs d.inputs (d.feeds ++ (f ∷ []))

unfoldable pub joined : Input → ℕ → Input
joined i y = record { owner = i.owner; name = i.name; kind = i.kind; source = y; line = i.line }

-- input x joined to output y
unfoldable pub add_join : Draft → ℕ → ℕ → Draft
add_join d x y = draft d.units d.outputs (set d.inputs x (joined (input_of d x) y)) d.feeds
