-- The loop keeps what is left of the room beside what is still to come (`Fitting`).
use Prim.Native.Nat.{◌-◌}
use mathlib.Core.Path.{ap, ◌∙◌}
use lib.ListN.{length}
use native.Mathlib.Omega.{arith}
use Rattle.printing.proofs.Declares.{found-small, found_prints}
use Rattle.printing.proofs.Listing.{fitting_starts, fitting_on}
use Rattle.printing.proofs.Listing.{fitting_not, fitting_ends}
use Rattle.printing.proofs.entries.entries_fit.Goals as goal

pub loop-i-init : goal.loop-i-init
loop-i-init c = fitting_starts _ _ _

pub overflow_cast-calls : goal.overflow_cast-calls
overflow_cast-calls c =
    omega (arith, c.shared_slice_known-in-loop-i-1.given c.loop-i.i)

pub text_length-n-requires : goal.text_length-n-requires
text_length-n-requires c =
    λ h. found-small _ _ _ _ c.requires _ _ c.line_at-line.ensures h

pub returns-then-left-n : goal.returns-then-left-n
returns-then-left-n c =
    fitting_not c.loop-i.invariant _ c.loop-i-test.true
    (c.text_length-n.ensures ∙ ap length (found_prints _ _ _ _ c.requires _ _
    c.line_at-line.ensures _)) c.if-left-n.true

pub loop-i-preserved : goal.loop-i-preserved
loop-i-preserved c =
    fitting_on c.loop-i.invariant _ c.loop-i-test.true
    (c.text_length-n.ensures ∙ ap length (found_prints _ _ _ _ c.requires _ _
    c.line_at-line.ensures _)) c.if-left-n.false

pub returns : goal.returns
returns c = fitting_ends c.loop-i.invariant c.loop-i-test.false
