-- A place is noted exactly where its line opens with the keyword (`Turn`).
use mathlib.Core.Path.{sym, ◌∙◌}
use native.Mathlib.Omega.{arith}
use borrow.Author.Tests.{not-true, not-false}
use Rattle.declarations.proofs.Noting.{turn-kept, turn-noted, line_small}
use Rattle.declarations.proofs.Noting.{line-further, line-inside}
use Rattle.declarations.proofs.note.Goals as goal

pub opens-requires : goal.opens-requires
opens-requires c = (c.requires.0, line_small _ _ _ c.requires.0 c.requires.1)

pub returns-then-not-opens : goal.returns-then-not-opens
returns-then-not-opens c =
    turn-kept _ _ _ _ _ (sym c.opens.ensures ∙ not-true _ c.if-not-opens.true-raw)

pub overflow_cast-places : goal.overflow_cast-places
overflow_cast-places c =
    omega (
      arith,
      line_small _ _ _ c.requires.0 c.requires.1,
      line-further _ _ _ c.requires.0 c.requires.1,
      line-inside _ _ _ c.requires.0 c.requires.1,
    )

pub bounds-places-n : goal.bounds-places-n
bounds-places-n c = c.requires.2

pub returns : goal.returns
returns c =
    turn-noted _ _ _ _ _ (sym c.opens.ensures ∙ not-false _ c.if-not-opens.false-raw)
