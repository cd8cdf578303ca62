-- One law for each return; each word is the field between its ends.
use mathlib.Core.Path.{sym, ◌∙◌}
use native.Mathlib.Omega.{arith}
use borrow.Author.Tests.{not-true, not-false}
use Rattle.grammar.specs.Rows.{stretch}
use Rattle.lines.proofs.Outcomes.{first_word, word-here, word-ends}
use Rattle.text.proofs.Checks.{version-count, version-word, version-other, version-one}
use Rattle.text.proofs.whole.version.Goals as goal

pub returns-then-fields-ne2 : goal.returns-then-fields-ne2
returns-then-fields-ne2 c = version-count _ _ c.requires.count-is c.if-fields-ne2.true

pub slice_bounds-same-count : goal.slice_bounds-same-count
slice_bounds-same-count c =
    (word-ends _ _ _ c.requires 0 _ _ (omega arith) c.requires.some c.wide-b.ensures
    c.wide-e.ensures).0

pub slice_bounds-same-start : goal.slice_bounds-same-start
slice_bounds-same-start c =
    (word-ends _ _ _ c.requires 0 _ _ (omega arith) c.requires.some c.wide-b.ensures
    c.wide-e.ensures).0

pub slice_bounds-same-end : goal.slice_bounds-same-end
slice_bounds-same-end c =
    (word-ends _ _ _ c.requires 0 _ _ (omega arith) c.requires.some c.wide-b.ensures
    c.wide-e.ensures).1

pub returns-then-not-same : goal.returns-then-not-same
unfolding stretch
returns-then-not-same c =
    version-word _ _ c.requires.count-is c.if-fields-ne2.false _
    (first_word _ _ _ c.requires _ _ c.wide-b.ensures c.wide-e.ensures)
    (sym c.same.ensures ∙ not-true _ c.if-not-same.true-raw)

pub slice_bounds-same-count-2 : goal.slice_bounds-same-count-2
slice_bounds-same-count-2 c =
    (word-ends _ _ _ c.requires 1 _ _ (omega arith) (omega (arith, c.if-fields-ne2.false))
    c.wide-c.ensures
    c.wide-f.ensures).0

pub slice_bounds-same-start-2 : goal.slice_bounds-same-start-2
slice_bounds-same-start-2 c =
    (word-ends _ _ _ c.requires 1 _ _ (omega arith) (omega (arith, c.if-fields-ne2.false))
    c.wide-c.ensures
    c.wide-f.ensures).0

pub slice_bounds-same-end-3 : goal.slice_bounds-same-end-3
slice_bounds-same-end-3 c =
    (word-ends _ _ _ c.requires 1 _ _ (omega arith) (omega (arith, c.if-fields-ne2.false))
    c.wide-c.ensures
    c.wide-f.ensures).1

pub returns-then-not-same-2 : goal.returns-then-not-same-2
unfolding stretch
returns-then-not-same-2 c =
    version-other _ _ c.requires.count-is c.if-fields-ne2.false _
    (first_word _ _ _ c.requires _ _ c.wide-b.ensures c.wide-e.ensures)
    (sym c.same.ensures ∙ not-false _ c.if-not-same.false-raw) _
    (word-here _ _ _ c.requires 1 _ _ (omega arith) (omega (arith, c.if-fields-ne2.false))
    c.wide-c.ensures c.wide-f.ensures
    ∙ c.requires.words 1 (omega arith) (omega (arith, c.if-fields-ne2.false)))
    (sym c.same-2.ensures ∙ not-true _ c.if-not-same-2.true-raw)

pub returns : goal.returns
unfolding stretch
returns c =
    version-one _ _ c.requires.count-is c.if-fields-ne2.false _
    (first_word _ _ _ c.requires _ _ c.wide-b.ensures c.wide-e.ensures)
    (sym c.same.ensures ∙ not-false _ c.if-not-same.false-raw) _
    (word-here _ _ _ c.requires 1 _ _ (omega arith) (omega (arith, c.if-fields-ne2.false))
    c.wide-c.ensures c.wide-f.ensures
    ∙ c.requires.words 1 (omega arith) (omega (arith, c.if-fields-ne2.false)))
    (sym c.same-2.ensures ∙ not-false _ c.if-not-same-2.false-raw)
