-- The loop keeps that the rest of the one is compared with the rest of the other.
use borrow.Author.Rules.{rules}
use Prim.Native.Nat.{◌-◌}
use mathlib.Core.Path.{sym, ◌∙◌}
use Rattle.fields.proofs.Bytes.{same_lengths, same-on, same_stop, same_end}
use Rattle.fields.proofs.same.Goals as goal

pub returns-then-a-b : goal.returns-then-a-b
returns-then-a-b c = search (rules, same_lengths)

pub returns-then-a-i : goal.returns-then-a-i
returns-then-a-i c =
    sym (c.loop-i.invariant.2 ∙ same_stop _ _ _ c.loop-i-test.true (search rules) c.if-a-i.true)

pub loop-i-preserved : goal.loop-i-preserved
loop-i-preserved c = (
  search rules,
  c.loop-i.invariant.1,
  c.loop-i.invariant.2 ∙ same-on _ _ _ c.loop-i-test.true
      (search rules) c.if-a-i.false,
)

pub returns : goal.returns
returns c =
    sym (c.loop-i.invariant.2 ∙ same_end _ _ _ c.loop-i-test.false (search rules))
