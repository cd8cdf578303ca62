-- Nine puts, one behind the other, write the packed bytes.
use mathlib.Core.Path.{◌∙◌}
use native.Mathlib.Omega.{arith}
use Rattle.pen.specs.Chain.{put-long}
use Rattle.text.proofs.Packing.{puts_packed}
use Rattle.text.proofs.pack.pack.Goals as goal

pub overflow_add-inputs-2 : goal.overflow_add-inputs-2
overflow_add-inputs-2 c =
    omega (
      arith,
      c.requires.slotted.long,
      c.requires.slotted.units-most,
      c.requires.slotted.outputs-most,
      c.requires.slotted.inputs-most,
      c.requires.slotted.feeds-most,
    )

pub slice_bounds-put-end-3 : goal.slice_bounds-put-end-3
slice_bounds-put-end-3 c =
    omega (
      arith,
      c.requires.slotted.long,
      c.requires.slotted.units-most,
      c.requires.slotted.outputs-most,
      c.requires.slotted.inputs-most,
      c.requires.slotted.feeds-most,
    )

pub overflow_add-inputs-3 : goal.overflow_add-inputs-3
overflow_add-inputs-3 c =
    omega (
      arith,
      c.requires.slotted.long,
      c.requires.slotted.units-most,
      c.requires.slotted.outputs-most,
      c.requires.slotted.inputs-most,
      c.requires.slotted.feeds-most,
    )

pub slice_bounds-put-end-4 : goal.slice_bounds-put-end-4
slice_bounds-put-end-4 c =
    omega (
      arith,
      c.requires.slotted.long,
      c.requires.slotted.units-most,
      c.requires.slotted.outputs-most,
      c.requires.slotted.inputs-most,
      c.requires.slotted.feeds-most,
    )

pub overflow_mul-feeds : goal.overflow_mul-feeds
overflow_mul-feeds c =
    omega (
      arith,
      c.requires.slotted.long,
      c.requires.slotted.units-most,
      c.requires.slotted.outputs-most,
      c.requires.slotted.inputs-most,
      c.requires.slotted.feeds-most,
    )

pub overflow_add-feeds : goal.overflow_add-feeds
overflow_add-feeds c =
    omega (
      arith,
      c.requires.slotted.long,
      c.requires.slotted.units-most,
      c.requires.slotted.outputs-most,
      c.requires.slotted.inputs-most,
      c.requires.slotted.feeds-most,
    )

pub slice_bounds-put-end-5 : goal.slice_bounds-put-end-5
slice_bounds-put-end-5 c =
    omega (
      arith,
      c.requires.slotted.long,
      c.requires.slotted.units-most,
      c.requires.slotted.outputs-most,
      c.requires.slotted.inputs-most,
      c.requires.slotted.feeds-most,
    )

pub shape_of-out : goal.shape_of-out
shape_of-out c =
    put-long c.put.ensures
    ∙ put-long c.put-at-4.ensures
    ∙ put-long c.put-at-3.ensures
    ∙ put-long c.put-at-2.ensures
    ∙ put-long c.put-at.ensures
    ∙ put-long c.put_byte-at-4.ensures
    ∙ put-long c.put_byte-at-3.ensures
    ∙ put-long c.put_byte-at-2.ensures
    ∙ put-long c.put_byte-at.ensures

pub returns : goal.returns
returns c =
    puts_packed _ _ _ c.requires.counts_in_bounds c.put_byte-at.ensures c.put_byte-at-2.ensures
    c.put_byte-at-3.ensures c.put_byte-at-4.ensures
    c.put-at.ensures c.put-at-2.ensures c.put-at-3.ensures c.put-at-4.ensures c.put.ensures
