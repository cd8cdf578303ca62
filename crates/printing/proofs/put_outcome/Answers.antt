-- Each answer of an ordering has its own text.
use Rattle.table.specs.Packed.{part}
use Rattle.printing.proofs.Whole.{outcome-order, outcome-cycle, outcome-refused}
use Rattle.printing.proofs.put_outcome.Goals as goal

pub returns-then-answer-eq0 : goal.returns-then-answer-eq0
returns-then-answer-eq0 c =
    let is = outcome-order c.args.text.now _ _ c.args.buffer.now _ c.stretch-calls.ensures
    c.if-answer-eq0.true in
    record {
      value = rw (← is) c.put_calls.ensures.value;
      out_after = rw (← is) c.put_calls.ensures.out_after;
    }

pub returns-then-answer-eq9 : goal.returns-then-answer-eq9
returns-then-answer-eq9 c =
    let is = outcome-cycle c.args.text.now _ _ c.args.buffer.now _ c.stretch-calls.ensures
    c.if-answer-eq0.false c.if-answer-eq9.true in
    record {
      value = rw (← is) c.put_calls-then-answer-eq9.ensures.value;
      out_after = rw (← is) c.put_calls-then-answer-eq9.ensures.out_after;
    }

pub returns : goal.returns
returns c =
    let calls = part c.args.buffer.now 0 c.args.answer.place in
    let is = outcome-refused c.args.text.now _ c.args.answer.place calls c.if-answer-eq0.false
    c.if-answer-eq9.false in
    record {
      value = rw (← is) c.put_refusal.ensures.value;
      out_after = rw (← is) c.put_refusal.ensures.out_after;
    }
