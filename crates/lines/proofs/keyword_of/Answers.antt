-- The five words one after the other.
use mathlib.Core.Path.{sym, ◌∙◌}
use Rattle.lines.specs.Took.{keyword_of}
use Rattle.lines.proofs.keyword_of.Goals as goal

pub returns-then-same : goal.returns-then-same
unfolding keyword_of
returns-then-same c = rw (sym c.same.ensures ∙ c.if-same.true)

pub returns-then-same-2 : goal.returns-then-same-2
unfolding keyword_of
returns-then-same-2 c =
    rw (sym c.same.ensures ∙ c.if-same.false, sym c.same-2.ensures ∙ c.if-same-2.true)

pub returns-then-same-3 : goal.returns-then-same-3
unfolding keyword_of
returns-then-same-3 c =
    rw (
      sym c.same.ensures ∙ c.if-same.false,
      sym c.same-2.ensures ∙ c.if-same-2.false,
      sym
          c.same-3.ensures ∙ c.if-same-3.true,
    )

pub returns-then-same-4 : goal.returns-then-same-4
unfolding keyword_of
returns-then-same-4 c =
    rw (
      sym c.same.ensures ∙ c.if-same.false,
      sym c.same-2.ensures ∙ c.if-same-2.false,
      sym c.same-3.ensures ∙ c.if-same-3.false,
      sym c.same-4.ensures ∙ c.if-same-4.true,
    )

pub returns-then-same-5 : goal.returns-then-same-5
unfolding keyword_of
returns-then-same-5 c =
    rw (
      sym c.same.ensures ∙ c.if-same.false,
      sym c.same-2.ensures ∙ c.if-same-2.false,
      sym c.same-3.ensures ∙ c.if-same-3.false,
      sym c.same-4.ensures ∙ c.if-same-4.false,
      sym c.same-5.ensures ∙ c.if-same-5.true,
    )

pub returns : goal.returns
unfolding keyword_of
returns c =
    rw (
      sym c.same.ensures ∙ c.if-same.false,
      sym c.same-2.ensures ∙ c.if-same-2.false,
      sym c.same-3.ensures ∙ c.if-same-3.false,
      sym c.same-4.ensures ∙ c.if-same-4.false,
      sym c.same-5.ensures ∙ c.if-same-5.false,
    )
