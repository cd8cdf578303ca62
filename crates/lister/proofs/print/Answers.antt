-- The buffer has room for every listing, so that `list` answers 0 with a place within the buffer.
use Rattle.std.proofs.Common.{rules, sym}
use native.Mathlib.Omega.{arith}
use lib.Seq.{length-take-le}
use Rattle.listing.proofs.Greatest.{list_fits}
use Rattle.lister.proofs.print.Goals as goal

pub returns-then-answer-ne0 : goal.returns-then-answer-ne0
returns-then-answer-ne0 g c =
    absurd (c.if-answer-ne0.true (list_fits _ _ _ c.list-answer.ensures.value (search rules)).0)

pub slice_bounds-out-end : goal.slice_bounds-out-end
slice_bounds-out-end g c =
    omega (arith, (list_fits _ _ _ c.list-answer.ensures.value (search rules)).2)

pub slice_bounds-write_all-end : goal.slice_bounds-write_all-end
slice_bounds-write_all-end g c =
    sym (length-take-le _ _
    (omega (arith, (list_fits _ _ _ c.list-answer.ensures.value (search rules)).2)))
