-- The name, then the line, the kind and the source.
use Rattle.notes.proofs.Becoming.{became_lined}
use Rattle.notes.proofs.note_input.Goals as goal

pub returns : goal.returns
returns c =
    became_lined _ _ _ _ _ _ _ c.note_name.ensures.places_after c.note_name.ensures.slots_after
