-- A field is the part of the text that `fields_at` tells.
use native.Mathlib.Omega.{arith}
use Rattle.grammar.specs.Rows.{stretch}
use Rattle.printing.proofs.Declares.{part_of}
use Rattle.printing.proofs.call.field.Goals as goal

pub slice_bounds-result-count : goal.slice_bounds-result-count
slice_bounds-result-count c =
    omega (arith, (part_of c.fields_at-fields.ensures c.requires.0 c.requires.1).order)

pub slice_bounds-result-start : goal.slice_bounds-result-start
slice_bounds-result-start c =
    omega (arith, (part_of c.fields_at-fields.ensures c.requires.0 c.requires.1).order)

pub slice_bounds-result-end : goal.slice_bounds-result-end
slice_bounds-result-end c =
    omega (
      arith,
      (part_of c.fields_at-fields.ensures c.requires.0 c.requires.1).order,
      (part_of c.fields_at-fields.ensures c.requires.0 c.requires.1).within,
    )

pub returns : goal.returns
unfolding stretch
returns c =
    (part_of c.fields_at-fields.ensures c.requires.0 c.requires.1).bytes
