-- Each public function's contract asks nothing and permits one answer, with every lent byte.
use mathlib.Core.Path.{ap, sym, refl, ◌∙◌}
use Rattle.search.specs.Settling.{Settles}
use Rattle.desk.proofs.ReadingFromTextAnswer.from.Kinds as from-text-answer
use Rattle.desk.proofs.ReadingFromTextAnswer.from.Reads as from-text-answer-says
use Rattle.desk.proofs.ReadingFromTableAnswer.from.Kinds as from-table-answer
use Rattle.desk.proofs.ReadingFromTableAnswer.from.Reads as from-table-answer-says
use Rattle.desk.proofs.oorlichday_read.Kinds as oorlichday-read
use Rattle.desk.proofs.oorlichday_read.Reads as oorlichday-read-says
use Rattle.desk.proofs.oorlichday_list.Kinds as oorlichday-list
use Rattle.desk.proofs.oorlichday_list.Reads as oorlichday-list-says
use Rattle.desk.proofs.oorlichday_take.Kinds as oorlichday-take
use Rattle.desk.proofs.oorlichday_take.Reads as oorlichday-take-says
use Rattle.desk.proofs.oorlichday_precedes.Kinds as oorlichday-precedes
use Rattle.desk.proofs.oorlichday_precedes.Reads as oorlichday-precedes-says

pub from-text-answer-settled : Settles from-text-answer.ps from-text-answer.r
    from-text-answer-says.Asked from-text-answer-says.Learnt
from-text-answer-settled = ((λ κs a. tt), (λ κs a x y w v p q. (p ∙ sym q, refl)))

pub from-table-answer-settled : Settles from-table-answer.ps from-table-answer.r
    from-table-answer-says.Asked from-table-answer-says.Learnt
from-table-answer-settled = ((λ κs a. tt), (λ κs a x y w v p q. (p ∙ sym q, refl)))

pub oorlichday_read_settled : Settles oorlichday-read.ps oorlichday-read.r
    oorlichday-read-says.Asked oorlichday-read-says.Learnt
oorlichday_read_settled = (
  (λ κs a. tt),
  (λ κs a x y w v p q. (p.0 ∙ sym q.0, ap (λ l. (tt, (l, tt))) (p.1 ∙ sym q.1))),
)

pub oorlichday_list_settled : Settles oorlichday-list.ps oorlichday-list.r
    oorlichday-list-says.Asked oorlichday-list-says.Learnt
oorlichday_list_settled = (
  (λ κs a. tt),
  (λ κs a x y w v p q. (p.0 ∙ sym q.0, ap (λ l. (tt, (l, tt))) (p.1 ∙ sym q.1))),
)

pub oorlichday_take_settled : Settles oorlichday-take.ps oorlichday-take.r
    oorlichday-take-says.Asked oorlichday-take-says.Learnt
oorlichday_take_settled = ((λ κs a. tt), (λ κs a x y w v p q. (p ∙ sym q, refl)))

pub oorlichday_precedes_settled : Settles oorlichday-precedes.ps oorlichday-precedes.r
    oorlichday-precedes-says.Asked oorlichday-precedes-says.Learnt
oorlichday_precedes_settled = ((λ κs a. tt), (λ κs a x y w v p q. (p ∙ sym q, refl)))
