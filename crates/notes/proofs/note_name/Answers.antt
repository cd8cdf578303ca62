-- Two writes and one number put in note the name.
use mathlib.Core.Path.{refl}
use Rattle.notes.specs.Noted.{named_places, named_slots}
use Rattle.notes.proofs.note_name.Goals as goal

pub returns : goal.returns
unfolding named_places named_slots
returns c =
    record {
      places_after = refl;
      slots_after = c.put_in.ensures;
    }
