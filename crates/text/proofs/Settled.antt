-- Each public function's contract asks nothing and permits one answer, with every lent byte.
use mathlib.Core.Path.{ap, sym, ◌∙◌}
use Rattle.search.specs.Settling.{Settles}
use Rattle.text.proofs.read.Kinds as read
use Rattle.text.proofs.read.Reads as read-says

pub read-settled : Settles read.ps read.r read-says.Asked read-says.Learnt
read-settled = (
  (λ κs a. tt),
  (λ κs a x y w v p q. (p.0 ∙ sym q.0, ap (λ l. (tt, (l, tt))) (p.1 ∙ sym q.1))),
)
