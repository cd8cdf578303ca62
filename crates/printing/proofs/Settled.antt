-- Each public function's contract asks nothing and permits one answer, with every lent byte.
use mathlib.Core.Path.{ap, sym, ◌∙◌}
use Rattle.search.specs.Settling.{Settles}
use Rattle.printing.proofs.put_calls.Kinds as put-calls
use Rattle.printing.proofs.put_calls.Reads as put-calls-says
use Rattle.printing.proofs.put_refusal.Kinds as put-refusal
use Rattle.printing.proofs.put_refusal.Reads as put-refusal-says
use Rattle.printing.proofs.put_outcome.Kinds as put-outcome
use Rattle.printing.proofs.put_outcome.Reads as put-outcome-says

pub put-calls-settled : Settles put-calls.ps put-calls.r put-calls-says.Asked put-calls-says.Learnt
put-calls-settled = (
  (λ κs a. tt),
  (λ κs a x y w v p q. (
    p.0 ∙ sym q.0,
    ap (λ l. (tt, (tt, (tt, (l, tt))))) (p.1 ∙ sym q.1),
  )),
)

pub put-refusal-settled : Settles put-refusal.ps put-refusal.r put-refusal-says.Asked
    put-refusal-says.Learnt
put-refusal-settled = (
  (λ κs a. tt),
  (λ κs a x y w v p q. (p.0 ∙ sym q.0, ap (λ l. (tt, (tt, (l, tt)))) (p.1 ∙ sym q.1))),
)

pub put-outcome-settled : Settles put-outcome.ps put-outcome.r put-outcome-says.Asked
    put-outcome-says.Learnt
put-outcome-settled = (
  (λ κs a. tt),
  (λ κs a x y w v p q. (
    p.0 ∙ sym q.0,
    ap (λ l. (tt, (tt, (tt, (l, tt))))) (p.1 ∙ sym q.1),
  )),
)
