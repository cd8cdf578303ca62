-- Two writes note the feed.
use mathlib.Core.Path.{refl}
use Rattle.notes.specs.Noted.{feed_slots}
use Rattle.notes.proofs.note_feed.Goals as goal

pub returns : goal.returns
unfolding feed_slots
returns c =
    record {
      value = refl;
      slots_after = refl;
    }
