-- Room for the whole is tested before the first byte is put.
use native.Mathlib.Omega.{arith}
use Rattle.pen.specs.Decimal.{decimal}
use Rattle.pen.specs.Chain.{decimal-long, wrote-long}
use Rattle.printing.proofs.Fielded.{ended-long}
use Rattle.printing.specs.Lengths.{refusal-long}
use Rattle.printing.proofs.Whole.{listed-not, refusal-all}
use Rattle.printing.proofs.put_refusal.Goals as goal

pub overflow_add-digit_count : goal.overflow_add-digit_count
overflow_add-digit_count c =
    omega (arith, decimal-long c.args.number, decimal-long c.args.line)

pub overflow_add-digit_count-2 : goal.overflow_add-digit_count-2
overflow_add-digit_count-2 c =
    omega (arith, decimal-long c.args.number, decimal-long c.args.line)

pub returns-then-out-digit_count : goal.returns-then-out-digit_count
returns-then-out-digit_count c =
    let all = listed-not _ _ (omega (arith, refusal-long c.args.number c.args.line)) in
    record { value = all.0; out_after = all.1 }

pub put_count-end-requires : goal.put_count-end-requires
put_count-end-requires c =
    omega (
      arith,
      c.if-out-digit_count.false,
      c.digit_count.ensures,
      c.digit_count-2.ensures,
      c.put_field-a.ensures.place,
      c.put_count-b.ensures.place,
      wrote-long c.put_field-a.ensures,
      wrote-long c.put_count-b.ensures,
      ended-long (decimal c.args.number) 9,
    )

pub returns : goal.returns
returns c =
    let all = refusal-all _ _ c.put_field-a.ensures c.put_count-b.ensures c.put_count-end.ensures
    in
    record { value = all.0; out_after = all.1 }
