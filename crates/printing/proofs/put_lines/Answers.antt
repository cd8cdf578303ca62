-- Room for the whole is tested before the first byte is put.
use mathlib.Core.Path.{sym, ◌∙◌}
use lib.ListN.{length}
use native.Mathlib.Omega.{arith}
use borrow.Author.Tests.{not-true, not-false}
use Rattle.pen.specs.Chain.{decimal-long}
use Rattle.printing.proofs.Whole.{calls-not-1, calls-not-2, room_a}
use Rattle.printing.proofs.Whole.{room_b, room_c, calls-all}
use Rattle.printing.proofs.put_lines.Goals as goal

pub overflow_add-front : goal.overflow_add-front
overflow_add-front c = omega (arith, decimal-long (length c.args.calls.now))

pub overflow_add-front-2 : goal.overflow_add-front-2
overflow_add-front-2 c = omega (arith, decimal-long (length c.args.calls.now))

pub returns-then-out-front : goal.returns-then-out-front
returns-then-out-front c =
    let all = calls-not-1 c.args.text.now c.args.heading.now c.args.calls.now c.args.out.now _
    c.digit_count.ensures
    c.if-out-front.true in
    record { value = all.0; out_after = all.1 }

pub returns-then-not-entries_fit : goal.returns-then-not-entries_fit
returns-then-not-entries_fit c =
    let all = calls-not-2 c.args.text.now c.args.heading.now c.args.calls.now c.args.out.now _
    c.digit_count.ensures
    c.if-out-front.false (sym c.entries_fit.ensures ∙ not-true _ c.if-not-entries_fit.true-raw) in
    record { value = all.0; out_after = all.1 }

pub put_field-a-requires : goal.put_field-a-requires
put_field-a-requires c =
    room_a c.args.text.now c.args.heading.now c.args.calls.now c.args.out.now _
    c.digit_count.ensures c.if-out-front.false
    (sym c.entries_fit.ensures ∙ not-false _ c.if-not-entries_fit.false-raw)

pub put_count-b-requires : goal.put_count-b-requires
put_count-b-requires c =
    room_b c.args.text.now c.args.heading.now c.args.calls.now c.args.out.now _
    c.digit_count.ensures c.if-out-front.false
    (sym c.entries_fit.ensures ∙ not-false _ c.if-not-entries_fit.false-raw) c.put_field-a.ensures

pub put_entries-end-requires : goal.put_entries-end-requires
put_entries-end-requires c =
    record {
      indexed = c.requires;
      calls_in_bounds = room_c c.args.text.now c.args.heading.now c.args.calls.now c.args.out.now
          _ c.digit_count.ensures
          c.if-out-front.false (sym c.entries_fit.ensures ∙ not-false _
          c.if-not-entries_fit.false-raw) c.put_field-a.ensures
          c.put_count-b.ensures;
    }

pub returns : goal.returns
returns c =
    let all = calls-all c.args.text.now c.args.heading.now c.args.calls.now c.args.out.now _
    c.digit_count.ensures
    c.if-out-front.false (sym c.entries_fit.ensures ∙ not-false _ c.if-not-entries_fit.false-raw)
    c.put_field-a.ensures c.put_count-b.ensures
    c.put_entries-end.ensures in
    record { value = all.0; out_after = all.1 }
