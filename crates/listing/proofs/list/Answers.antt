-- Each answer of the reader and of the ordering has its own text (`Composed`).
use Rattle.listing.proofs.Composed.{list_refused, list-ordered}
use Rattle.listing.proofs.list.Goals as goal

pub returns-then-reading-ne0 : goal.returns-then-reading-ne0
returns-then-reading-ne0 c =
    let is = list_refused c.args.text.now _ c.read-reading.new.out c.read-reading.result
    (c.read-reading.ensures.value, c.read-reading.ensures.out_after) c.if-reading-ne0.true in
    record {
      value = rw (← is) c.put_refusal.ensures.value;
      out_after = rw (← is) c.put_refusal.ensures.out_after;
    }

pub returns : goal.returns
returns c =
    let is = list-ordered c.args.text.now _ c.read-reading.new.out c.read-reading.result
    (c.read-reading.ensures.value, c.read-reading.ensures.out_after) c.if-reading-ne0.false
    _ _ _ c.stretch.ensures c.order-answer.ensures.value c.order-answer.ensures.out_after in
    record {
      value = rw (← is) c.put_outcome.ensures.value;
      out_after = rw (← is) c.put_outcome.ensures.out_after;
    }
