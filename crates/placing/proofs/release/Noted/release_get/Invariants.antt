-- The inputs joined to the output.
use Rattle.calls.specs.Hits.{nth}
use Rattle.placing.specs.Less.{is_key}
use Rattle.placing.proofs.release.Noted.release_get.Given as goal

abbrev pub ghost-lower_noted : goal.ghost-lower_noted
ghost-lower_noted a =
    record { passes = is_key a.call_at.0.now a.call_at.1.now; call = nth a.call_at.2.now }
