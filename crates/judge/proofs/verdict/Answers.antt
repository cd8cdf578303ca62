-- a pass is a sound table with an order that passes: demand 2's last sentence
use Rattle.std.proofs.Common.{ap, ◌∙◌}
use Rattle.std.proofs.lemmas.List.{map-id}
use Rattle.judging.specs.Verdict.{verdict_of}
use Rattle.judging.proofs.Demand.{passed_exactly}
use Rattle.judge.proofs.verdict.Goals as goal

pub returns-clause-variant : goal.returns-clause-variant
returns-clause-variant c =
    passed_exactly _ _ _ (c.judged.ensures ∙ ap (verdict_of _) (map-id _))
