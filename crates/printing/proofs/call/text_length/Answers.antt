-- What is printed of a line goes by its kind; a name is no longer than the text.
use mathlib.Core.List.{[]}
use mathlib.Core.Path.{sym, ap, ◌∙◌}
use lib.ListN.{length}
use native.Mathlib.Omega.{arith}
use Rattle.printing.proofs.Declares.{text_none, text_step, text_get, text-set, word-short}
use Rattle.printing.proofs.call.text_length.Goals as goal

pub returns-then-line-ge3 : goal.returns-then-line-ge3
returns-then-line-ge3 c = ap length (sym (text_none _ _ _ c.if-line-ge3.true))

pub field-unit-requires : goal.field-unit-requires
field-unit-requires c = (c.requires c.if-line-ge3.false, omega arith)

pub entry_length-requires : goal.entry_length-requires
entry_length-requires c = (
  omega arith,
  rw c.field-unit.ensures (word-short _ _ _ (c.requires c.if-line-ge3.false)
      (omega arith)),
  omega arith,
)

pub returns-then-line-eq0 : goal.returns-then-line-eq0
returns-then-line-eq0 c =
    c.entry_length.ensures ∙ ap length (text_step _ _ _ _ [] c.field-unit.ensures
    c.if-line-eq0.true)

pub field-port-requires : goal.field-port-requires
field-port-requires c = (c.requires c.if-line-ge3.false, omega arith)

pub entry_length-requires-then-line-eq1 : goal.entry_length-requires-then-line-eq1
entry_length-requires-then-line-eq1 c = (
  omega arith,
  rw c.field-unit.ensures (word-short _ _ _ (c.requires c.if-line-ge3.false) (omega arith)),
  rw c.field-port.ensures (word-short _ _ _ (c.requires c.if-line-ge3.false) (omega arith)),
)

pub returns-then-line-eq1 : goal.returns-then-line-eq1
returns-then-line-eq1 c =
    c.entry_length-then-line-eq1.ensures
    ∙ ap length (text_get _ _ _ _ _ c.field-unit.ensures c.field-port.ensures c.if-line-eq0.false
    c.if-line-eq1.true)

pub entry_length-requires-2 : goal.entry_length-requires-2
entry_length-requires-2 c = (
  omega arith,
  rw c.field-unit.ensures (word-short _ _ _ (c.requires c.if-line-ge3.false) (omega arith)),
  rw c.field-port.ensures (word-short _ _ _ (c.requires c.if-line-ge3.false) (omega arith)),
)

pub returns : goal.returns
returns c =
    c.entry_length-2.ensures
    ∙ ap length (text-set _ _ _ _ _ c.field-unit.ensures c.field-port.ensures c.if-line-eq0.false
    c.if-line-eq1.false c.if-line-ge3.false)
