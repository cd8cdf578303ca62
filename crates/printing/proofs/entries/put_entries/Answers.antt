-- The loop keeps what is written beside what is still to come (`Writing`).
use Prim.Native.Nat.{◌-◌}
use native.Mathlib.Omega.{arith}
use Rattle.printing.proofs.Declares.{found-small, found_prints, same-put, same-room}
use Rattle.printing.proofs.Listing.{writing-starts, writing-on}
use Rattle.printing.proofs.Listing.{writing-room, writing_ends, writing_long}
use Rattle.printing.proofs.entries.put_entries.Goals as goal

pub loop-i-init : goal.loop-i-init
loop-i-init c = writing-starts _ _ _ _ c.requires.calls_in_bounds

pub overflow_cast-calls : goal.overflow_cast-calls
overflow_cast-calls c =
    omega (arith, c.shared_slice_known-in-loop-i-1.given c.loop-i.i)

pub put_text-end-requires : goal.put_text-end-requires
put_text-end-requires c =
    record {
      text_len_bound = λ h. found-small _ _ _ _ c.requires.indexed _ _ c.line_at-line.ensures h;
      line_in_bounds = same-room _ _ (found_prints _ _ _ _ c.requires.indexed _ _
          c.line_at-line.ensures _)
          (writing-room c.loop-i.invariant c.loop-i-test.true c.requires.calls_in_bounds);
    }

pub loop-i-preserved : goal.loop-i-preserved
loop-i-preserved c =
    writing-on c.loop-i.invariant c.loop-i-test.true
    (same-put c.put_text-end.ensures (found_prints _ _ _ _ c.requires.indexed _ _
    c.line_at-line.ensures _))

pub shape_of-out : goal.shape_of-out
shape_of-out c = writing_long c.loop-i.invariant

pub returns : goal.returns
returns c = writing_ends c.loop-i.invariant c.loop-i-test.false
