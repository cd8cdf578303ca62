-- The two words one after the other.
use mathlib.Core.Path.{sym, ◌∙◌}
use Rattle.grammar.specs.Lines.{kind_of}
use Rattle.lines.proofs.declares.kind_of.Goals as goal

pub returns-then-same : goal.returns-then-same
unfolding kind_of
returns-then-same c = rw (sym c.same.ensures ∙ c.if-same.true)

pub returns-then-same-2 : goal.returns-then-same-2
unfolding kind_of
returns-then-same-2 c =
    rw (
      sym c.same.ensures ∙ c.if-same.false,
      sym c.same-2.ensures ∙ c.if-same-2.true,
    )

pub returns : goal.returns
unfolding kind_of
returns c =
    rw (
      sym c.same.ensures ∙ c.if-same.false,
      sym c.same-2.ensures ∙ c.if-same-2.false,
    )
