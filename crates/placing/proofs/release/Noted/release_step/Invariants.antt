-- The outputs of the unit, then its delayed inputs.
use Rattle.calls.specs.Hits.{nth}
use Rattle.placing.specs.Less.{is_key, are_keys}
use Rattle.placing.proofs.release.Noted.release_step.Given as goal

abbrev pub ghost-lower_noted : goal.ghost-lower_noted
ghost-lower_noted a =
    record { passes = is_key a.call_at.0.now a.call_at.1.now; call = nth a.call_at.2.now }

abbrev pub ghost-lower_noted-2 : goal.ghost-lower_noted-2
ghost-lower_noted-2 a =
    record {
      passes = are_keys a.call_at.0.now a.call_at.1.now a.call_at.2.now 0;
      call = nth a.call_at.3.now;
    }
