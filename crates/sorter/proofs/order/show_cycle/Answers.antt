-- What the walk met, turned, is what is shown (`shown_turned`).
use Rattle.std.proofs.Common.{arith}
use Rattle.sorter.proofs.Showing.{met_is, met_few, shown_turned}
use Rattle.sorter.proofs.order.show_cycle.Goals as goal

pub write_turned-requires : goal.write_turned-requires
write_turned-requires c =
    let t = c.args.table.bytes.now in
    let few = met_few t c.requires.early in
    rw c.walk_back-cycle.ensures record {
      cycle_any = (met_is t c.requires.early).any;
      cycle_in_bounds = omega (arith, c.requires.room);
    }

pub returns : goal.returns
returns c =
    let t = c.args.table.bytes.now in
    let shown = shown_turned t c.requires.early _ _ c.args.out.now c.walk_back-cycle.ensures
    c.write_turned.ensures in
    record { value = shown.0; out_after = shown.1 }
