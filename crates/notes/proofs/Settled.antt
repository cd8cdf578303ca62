-- Where there is room, the contract of `note` permits one answer, with every lent byte.
use mathlib.Core.Path.{ap₂, sym, ◌∙◌}
use Rattle.search.specs.Settling.{SettlesWhere}
use Rattle.notes.proofs.note.Kinds as note
use Rattle.notes.proofs.note.Reads as note-says

pub note_settled : SettlesWhere note.ps note.r note-says.Asked note-says.Learnt (λ κs r. r)
note_settled κs a h x y w v p q = (
  p.counts ∙ sym q.counts,
  ap₂ (λ l m. (l, (m, (tt, (tt, (tt, tt)))))) (p.places ∙ sym q.places)
      (p.slots ∙ sym q.slots),
)
