-- The thread of what was placed holds `placed_of` (`stood`).
use native.Mathlib.Omega.{arith}
use mathlib.Core.Path.{refl, subst}
use lib.Dec.{T}
use lib.ListN.{length}
use Rattle.std.proofs.lemmas.Result.{err_from_is_err_and}
use Rattle.table.proofs.Checked.{few-calls}
use Rattle.orders.specs.Walk.{among}
use Rattle.placing.proofs.Refused.{place-unsound, place-short, place-done}
use Rattle.placing.proofs.Threads.{stood, placed-known, placed-most}
use Rattle.placing.proofs.place.place_into.Goals as goal

pub returns-in_err-table : goal.returns-in_err-table
returns-in_err-table c =
    let why = err_from_is_err_and c.from_residual.result c.from_residual.ensures.1 in
    rw (
      why.1,
      why.2,
      place-unsound c.args.table.now (length c.args.calls.now)
          c.in_err-table.field-0.0 c.in_err-table.ensures.number,
    )
    record { value = refl; calls_after = refl }

pub returns-then-calls-call_count : goal.returns-then-calls-call_count
returns-then-calls-call_count c =
    rw (
      ← c.in_ok-table.ensures.bytes,
      place-short c.in_ok-table.table.bytes.now
          (length c.args.calls.now) _ c.in_ok-table.table.sound c.call_count.ensures.value
          c.if-calls-call_count.true,
    )
    record { value = refl; calls_after = refl }

pub write_back-requires : goal.write_back-requires
write_back-requires c =
    let t = c.in_ok-table.table.bytes.now in
    let p = c.place-placed.ensures in
    let stand = stood t _ p.standing _ _ p.count_value p.last_value in
    record {
      count_in_bounds = omega (
        arith,
        p.count_value,
        placed-most t,
        c.call_count.ensures.value,
        c.if-calls-call_count.false,
      );
      by_index = λ x h. omega (
        arith,
        placed-known t x (subst (λ l. T (among l x)) stand h),
        few-calls t c.in_ok-table.table.sound,
      );
    }

pub returns : goal.returns
returns c =
    let t = c.in_ok-table.table.bytes.now in
    let p = c.place-placed.ensures in
    let stand = stood t _ p.standing _ _ p.count_value p.last_value in
    rw (
      ← c.in_ok-table.ensures.bytes,
      place-done t (length c.args.calls.now) _
          c.in_ok-table.table.sound c.call_count.ensures.value c.if-calls-call_count.false _
          p.count_value,
    )
    record { value = refl; calls_after = rw (← stand) c.write_back.ensures }
