-- The feeds of the input.
use Rattle.placing.specs.Less.{is_input, fed}
use Rattle.placing.proofs.release.Noted.release_set.Given as goal

abbrev pub ghost-lower_noted : goal.ghost-lower_noted
ghost-lower_noted a =
    record {
      passes = is_input a.call_at.0.now a.call_at.1.now;
      call = fed a.call_at.0.now a.call_at.2.now;
    }
