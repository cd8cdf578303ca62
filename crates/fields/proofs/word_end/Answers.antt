-- The loop keeps that the field's end is the same from place i on.
use Prim.Native.Nat.{◌-◌}
use mathlib.Core.Path.{refl, sym, ◌∙◌}
use Rattle.fields.proofs.Bytes.{word_on, word-lf, word-tab, word_none}
use Rattle.fields.proofs.word_end.Goals as goal

pub loop-i-init : goal.loop-i-init
loop-i-init c = refl

pub returns-then-b-eq10 : goal.returns-then-b-eq10
returns-then-b-eq10 c =
    sym (c.loop-i.invariant ∙ word-lf _ _ c.loop-i-test.true c.if-b-eq10.true)

pub returns-then-b-eq9 : goal.returns-then-b-eq9
returns-then-b-eq9 c =
    sym (c.loop-i.invariant ∙ word-tab _ _ c.loop-i-test.true c.if-b-eq10.false c.if-b-eq9.true)

pub loop-i-preserved : goal.loop-i-preserved
loop-i-preserved c =
    c.loop-i.invariant ∙ word_on _ _ c.loop-i-test.true c.if-b-eq10.false c.if-b-eq9.false

pub returns : goal.returns
returns c =
    sym (c.loop-i.invariant ∙ word_none _ _ c.loop-i-test.false)
