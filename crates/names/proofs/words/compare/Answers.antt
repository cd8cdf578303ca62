-- The byte behind what the field and the word have in common decides.
use mathlib.Core.Path.{sym, ◌∙◌}
use native.Mathlib.Omega.{arith}
use Rattle.names.proofs.Walk.{is_open, ends-before, lower_byte}
use Rattle.names.proofs.Walk.{higher_byte, both_end, goes_on}
use Rattle.names.proofs.words.compare.Goals as goal

pub overflow_add-a : goal.overflow_add-a
overflow_add-a c = omega (arith, c.alike-i.ensures.low)

pub returns-then-is_empty : goal.returns-then-is_empty
returns-then-is_empty c =
    let ended = sym c.is_empty.ensures ∙ c.if-is_empty.true in
    sym (c.alike-i.ensures.alike.left ∙ ends-before _ _ _ _ c.if-i-word.true (ended))

pub overflow_add-a-then-i-word : goal.overflow_add-a-then-i-word
overflow_add-a-then-i-word c = omega (arith, c.alike-i.ensures.low)

pub bounds-text-a : goal.bounds-text-a
bounds-text-a c =
    (is_open _ _ (sym c.is_empty.ensures ∙ c.if-is_empty.false)).inside

pub returns-then-text-a : goal.returns-then-text-a
returns-then-text-a c =
    let goes = sym c.is_empty.ensures ∙ c.if-is_empty.false in
    sym (c.alike-i.ensures.alike.left ∙ lower_byte _ _ _ _ c.if-i-word.true goes c.if-text-a.true)

pub returns-then-i-word : goal.returns-then-i-word
returns-then-i-word c =
    let goes = sym c.is_empty.ensures ∙ c.if-is_empty.false in
    sym (c.alike-i.ensures.alike.left ∙ higher_byte _ _ _ _ c.if-i-word.true goes (omega (
      arith,
      c.alike-i.ensures.differ c.if-i-word.true (is_open _ _
          goes).inside,
    )))

pub overflow_add-a-2 : goal.overflow_add-a-2
overflow_add-a-2 c = omega (arith, c.alike-i.ensures.low)

pub returns-then-is_empty-2 : goal.returns-then-is_empty-2
returns-then-is_empty-2 c =
    sym (c.alike-i.ensures.alike.left ∙ both_end _ _ _ _ c.if-i-word.false
    (sym c.is_empty-2.ensures ∙ c.if-is_empty-2.true))

pub returns : goal.returns
returns c =
    sym (c.alike-i.ensures.alike.left ∙ goes_on _ _ _ _ c.if-i-word.false
    (sym c.is_empty-2.ensures ∙ c.if-is_empty-2.false))
