-- The rows of the five rules.
use Prim.Native.Nat.{◌+◌}
use Rattle.table.specs.Packed.{units}
use Rattle.calls.specs.Hits.{nth}
use Rattle.placing.specs.Less.{each, is_key, called, fed}
use Rattle.placing.proofs.place.fill.Given as goal

abbrev pub ghost-raise : goal.ghost-raise
ghost-raise a = record { passes = each; call = nth (units a.call_at.0.now.bytes.now) }

abbrev pub ghost-raise-2 : goal.ghost-raise-2
ghost-raise-2 a =
    record { passes = each; call = nth (a.call_at.0.now + a.call_at.1.now) }

abbrev pub ghost-raise-3 : goal.ghost-raise-3
ghost-raise-3 a = record { passes = each; call = fed a.call_at.1.now a.call_at.0.now }

abbrev pub ghost-raise-4 : goal.ghost-raise-4
ghost-raise-4 a =
    record { passes = is_key a.call_at.0.now 1; call = called a.call_at.1.now }

abbrev pub ghost-raise-5 : goal.ghost-raise-5
ghost-raise-5 a =
    record {
      passes = is_key a.call_at.0.now 0;
      call = nth (a.call_at.1.now + a.call_at.2.now);
    }
