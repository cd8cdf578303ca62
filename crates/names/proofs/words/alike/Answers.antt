-- What the stretch and the word have in common, the field and the word have.
use Rattle.names.proofs.Stretches.{in_common}
use Rattle.names.proofs.words.alike.Goals as goal

pub returns : goal.returns
returns c =
    in_common _ _ _ c.requires _ _ c.stretch.ensures c.common.ensures
