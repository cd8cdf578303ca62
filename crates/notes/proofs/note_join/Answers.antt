-- One write joins the input.
use mathlib.Core.Path.{refl}
use Rattle.notes.specs.Noted.{join_slots}
use Rattle.notes.proofs.note_join.Goals as goal

pub returns : goal.returns
unfolding join_slots
returns c =
    record {
      value = refl;
      slots_after = refl;
    }
