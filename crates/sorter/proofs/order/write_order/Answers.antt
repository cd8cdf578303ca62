-- What was placed is the thread (`stood`); return by return, what `ordering` answers.
use Rattle.std.proofs.Common.{sym, subst, ◌∙◌, refl, arith, T, length}
use Rattle.std.proofs.lemmas.Result.{err_from_is_err_and}
use Rattle.table.proofs.Checked.{few-calls}
use Rattle.orders.specs.Walk.{among}
use Rattle.placing.proofs.Threads.{stood, placed-known}
use Rattle.sorter.proofs.Joined.{placed-early, order-unsound, order-short, order-all, order-cycle}
use Rattle.sorter.proofs.order.write_order.Goals as goal

pub returns-in_err-table : goal.returns-in_err-table
returns-in_err-table c =
    let why = err_from_is_err_and c.from_residual.result c.from_residual.ensures.1 in
    rw (
      why.1,
      why.2,
      order-unsound c.args.table.now (length c.args.out.now)
          c.in_err-table.field-0.0 c.in_err-table.ensures.number,
    )
    record { value = refl; out_after = refl }

pub returns-then-out-count : goal.returns-then-out-count
returns-then-out-count c =
    rw (
      ← c.in_ok-table.ensures.bytes,
      order-short c.in_ok-table.table.bytes.now
          (length c.args.out.now) _ c.in_ok-table.table.sound c.call_count-count.ensures.value
          c.if-out-count.true,
    )
    record { value = refl; out_after = refl }

pub write_back-requires : goal.write_back-requires
write_back-requires c =
    let t = c.in_ok-table.table.bytes.now in
    let stand = stood t _ c.place-placed.ensures.standing _ _ c.place-placed.ensures.count_value
    c.place-placed.ensures.last_value in
    record {
      count_in_bounds = omega (arith, c.if-placed-count.true, c.if-out-count.false);
      by_index = λ x h. omega (
        arith,
        placed-known t x (subst (λ l. T (among l x)) stand h),
        few-calls t c.in_ok-table.table.sound,
      );
    }

pub returns-then-placed-count : goal.returns-then-placed-count
returns-then-placed-count c =
    let t = c.in_ok-table.table.bytes.now in
    let stand = stood t _ c.place-placed.ensures.standing _ _ c.place-placed.ensures.count_value
    c.place-placed.ensures.last_value in
    rw (
      ← c.in_ok-table.ensures.bytes,
      order-all t (length c.args.out.now) _
          c.in_ok-table.table.sound c.call_count-count.ensures.value c.if-out-count.false
          (sym c.place-placed.ensures.count_value ∙ c.if-placed-count.true),
    )
    record { value = refl; out_after = rw (← stand) c.write_back.ensures }

pub show_cycle-length-requires : goal.show_cycle-length-requires
show_cycle-length-requires c =
    let t = c.in_ok-table.table.bytes.now in
    record {
      early = placed-early t (length c.args.out.now) _ c.in_ok-table.table.sound
          c.call_count-count.ensures.value _ c.place-placed.ensures.count_value
          c.if-placed-count.false;
      thread = stood t _ c.place-placed.ensures.standing _ _ c.place-placed.ensures.count_value
          c.place-placed.ensures.last_value;
      room = omega (arith, c.call_count-count.ensures.value);
    }

pub returns : goal.returns
returns c =
    let t = c.in_ok-table.table.bytes.now in
    rw (
      ← c.in_ok-table.ensures.bytes,
      order-cycle t (length c.args.out.now) _
          c.in_ok-table.table.sound c.call_count-count.ensures.value _
          c.place-placed.ensures.count_value c.if-placed-count.false c.if-out-count.false _
          c.show_cycle-length.ensures.value,
    )
    record { value = refl; out_after = c.show_cycle-length.ensures.out_after }
