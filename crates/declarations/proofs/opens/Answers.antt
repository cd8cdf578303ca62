-- The first field is the part of the text that `fields_at` tells.
use native.Mathlib.Omega.{arith}
use Rattle.grammar.specs.Words.{same}
use Rattle.grammar.specs.Rows.{stretch}
use Rattle.declarations.proofs.Noting.{first_part}
use Rattle.declarations.proofs.opens.Goals as goal

pub slice_bounds-same-count : goal.slice_bounds-same-count
slice_bounds-same-count c = omega (arith, (first_part c.requires.0 c.requires.1).order)

pub slice_bounds-same-start : goal.slice_bounds-same-start
slice_bounds-same-start c = omega (arith, (first_part c.requires.0 c.requires.1).order)

pub slice_bounds-same-end : goal.slice_bounds-same-end
slice_bounds-same-end c =
    omega (
      arith,
      (first_part c.requires.0 c.requires.1).order,
      (first_part c.requires.0 c.requires.1).within,
    )

pub returns : goal.returns
unfolding stretch
returns c =
    rw (← (first_part c.requires.0 c.requires.1).bytes) c.same.ensures
