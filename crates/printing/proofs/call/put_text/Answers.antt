-- What is printed of a line goes by its kind.
use mathlib.Core.List.{[]}
use native.Mathlib.Omega.{arith}
use Rattle.pen.specs.Chain.{wrote-long}
use Rattle.printing.proofs.Declares.{text_step, text_get, text-set}
use Rattle.printing.proofs.Declares.{nothing_put, same-put, same-room}
use Rattle.printing.proofs.call.put_text.Goals as goal

pub returns-then-line-ge3 : goal.returns-then-line-ge3
returns-then-line-ge3 c =
    nothing_put _ _ _ _ _ c.if-line-ge3.true c.requires.line_in_bounds

pub field-unit-requires : goal.field-unit-requires
field-unit-requires c =
    (c.requires.text_len_bound c.if-line-ge3.false, omega arith)

pub put_entry-requires : goal.put_entry-requires
put_entry-requires c =
    same-room _ _ (text_step c.args.text.now c.args.k c.args.line _ [] c.field-unit.ensures
    c.if-line-eq0.true) c.requires.line_in_bounds

pub shape_of-out-then-line-eq0 : goal.shape_of-out-then-line-eq0
shape_of-out-then-line-eq0 c = wrote-long c.put_entry.ensures

pub returns-then-line-eq0 : goal.returns-then-line-eq0
returns-then-line-eq0 c =
    same-put c.put_entry.ensures
    (text_step c.args.text.now c.args.k c.args.line _ [] c.field-unit.ensures c.if-line-eq0.true)

pub field-port-requires : goal.field-port-requires
field-port-requires c =
    (c.requires.text_len_bound c.if-line-ge3.false, omega arith)

pub put_entry-requires-then-line-eq1 : goal.put_entry-requires-then-line-eq1
put_entry-requires-then-line-eq1 c =
    same-room _ _
    (text_get c.args.text.now c.args.k c.args.line _ _ c.field-unit.ensures c.field-port.ensures
    c.if-line-eq0.false c.if-line-eq1.true)
    c.requires.line_in_bounds

pub shape_of-out-then-line-eq1 : goal.shape_of-out-then-line-eq1
shape_of-out-then-line-eq1 c = wrote-long c.put_entry-then-line-eq1.ensures

pub returns-then-line-eq1 : goal.returns-then-line-eq1
returns-then-line-eq1 c =
    same-put c.put_entry-then-line-eq1.ensures
    (text_get c.args.text.now c.args.k c.args.line _ _ c.field-unit.ensures c.field-port.ensures
    c.if-line-eq0.false c.if-line-eq1.true)

pub put_entry-requires-2 : goal.put_entry-requires-2
put_entry-requires-2 c =
    same-room _ _
    (text-set c.args.text.now c.args.k c.args.line _ _ c.field-unit.ensures c.field-port.ensures
    c.if-line-eq0.false c.if-line-eq1.false
    c.if-line-ge3.false) c.requires.line_in_bounds

pub shape_of-out : goal.shape_of-out
shape_of-out c = wrote-long c.put_entry-2.ensures

pub returns : goal.returns
returns c =
    same-put c.put_entry-2.ensures
    (text-set c.args.text.now c.args.k c.args.line _ _ c.field-unit.ensures c.field-port.ensures
    c.if-line-eq0.false c.if-line-eq1.false
    c.if-line-ge3.false)
