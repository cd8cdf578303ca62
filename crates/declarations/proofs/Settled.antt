-- Each public function's contract asks nothing and permits one answer, with every lent byte.
use mathlib.Core.Path.{ap, sym, ◌∙◌}
use Rattle.search.specs.Settling.{Settles}
use Rattle.declarations.proofs.note_lines.Kinds as note-lines
use Rattle.declarations.proofs.note_lines.Reads as note-lines-says

pub note_lines_settled : Settles note-lines.ps note-lines.r note-lines-says.Asked
    note-lines-says.Learnt
note_lines_settled = (
  (λ κs a. tt),
  (λ κs a x y w v p q. (
    p.count ∙ sym q.count,
    ap (λ l. (tt, (tt, (l, tt)))) (p.front ∙ sym q.front),
  )),
)
