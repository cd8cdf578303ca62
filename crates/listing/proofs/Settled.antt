-- Each public function's contract asks nothing and permits one answer, with every lent byte.
use mathlib.Core.Path.{ap, sym, ◌∙◌}
use Rattle.search.specs.Settling.{Settles}
use Rattle.listing.proofs.list.Kinds as list
use Rattle.listing.proofs.list.Reads as list-says

pub list_settled : Settles list.ps list.r list-says.Asked list-says.Learnt
list_settled = (
  (λ κs a. tt),
  (λ κs a x y w v p q. (p.0 ∙ sym q.0, ap (λ l. (tt, (l, tt))) (p.1 ∙ sym q.1))),
)
