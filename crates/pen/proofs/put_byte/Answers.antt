-- One byte stored is one byte written over the buffer.
use native.Mathlib.Omega.{arith}
use Rattle.pen.specs.Chain.{put-nothing}
use Rattle.pen.proofs.Putting.{put_whole, wrote_one}
use Rattle.pen.proofs.put_byte.Goals as goal

pub returns-then-out-at : goal.returns-then-out-at
returns-then-out-at c = put-nothing _ _ _ (omega arith)

pub returns : goal.returns
returns c = put_whole (wrote_one _ _ _ c.if-out-at.false)
