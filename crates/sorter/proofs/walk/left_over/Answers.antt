-- What is marked was placed; the passes and the search are over that set (`begins`).
use Rattle.std.proofs.Common.{ap, ◌∙◌}
use Rattle.std.proofs.lemmas.Option.{MatchOption-at_some}
use Rattle.table.proofs.Checked.{few-calls}
use Rattle.orders.specs.Walk.{among}
use Rattle.sorter.proofs.Showing.{placed_below, one_left, begins}
use Rattle.sorter.proofs.walk.left_over.Goals as goal

pub mark-requires : goal.mark-requires
mark-requires c =
    placed_below c.args.table.bytes.now _ c.requires.thread
    (few-calls c.args.table.bytes.now c.args.table.sound)

pub unwrap-first-requires : goal.unwrap-first-requires
unwrap-first-requires c =
    let marks = c.mark.ensures ∙ ap among c.requires.thread in
    one_left c.args.table.bytes.now c.requires.early _ _ _ marks c.call_count.ensures.value
    c.lowest_left.ensures

pub returns : goal.returns
returns c =
    let marks = c.mark.ensures ∙ ap among c.requires.thread in
    let left = MatchOption-at_some _ _ _ c.unwrap-first.ensures c.lowest_left.ensures in
    record {
      value = begins c.args.table.bytes.now _ _ _ marks c.call_count.ensures.value left.1;
      low_steps = rw (← marks) c.low_steps.ensures;
      low_gets = rw (← marks) c.low_gets.ensures;
    }
