-- Each public function's contract asks nothing and permits one answer, with every lent byte.
use mathlib.Core.Path.{◌≡◌, ap, sym, refl, ◌∙◌}
use base.Logic.{emp, id⊢}
use Rattle.search.specs.Settling.{Settles, SettlesClauses}
use Rattle.table.specs.Packed.{shape_of}
use Rattle.judging.specs.Verdict.{verdict_of}
use Rattle.judge.specs.Records.{all_numbered}
use Rattle.firmware.specs.Code.{coded}
use Rattle.firmware_c.specs.contracts.oorlichday_verdict_of_records as oorlichday-verdict-of-records
use Rattle.firmware_c.proofs.oorlichday_check.Kinds as oorlichday-check
use Rattle.firmware_c.proofs.oorlichday_check.Reads as oorlichday-check-says
use Rattle.firmware_c.proofs.oorlichday_order.Kinds as oorlichday-order
use Rattle.firmware_c.proofs.oorlichday_order.Reads as oorlichday-order-says
use Rattle.firmware_c.proofs.oorlichday_verdict.Kinds as oorlichday-verdict
use Rattle.firmware_c.proofs.oorlichday_verdict.Reads as oorlichday-verdict-says

pub oorlichday_check_settled : Settles oorlichday-check.ps oorlichday-check.r
    oorlichday-check-says.Asked oorlichday-check-says.Learnt
oorlichday_check_settled = ((λ κs a. tt), (λ κs a x y w v p q. (p ∙ sym q, refl)))

pub oorlichday_order_settled : Settles oorlichday-order.ps oorlichday-order.r
    oorlichday-order-says.Asked oorlichday-order-says.Learnt
oorlichday_order_settled = (
  (λ κs a. tt),
  (λ κs a x y w v p q. (p.0 ∙ sym q.0, ap (λ l. (tt, (l, tt))) (p.1 ∙ sym q.1))),
)

pub oorlichday_verdict_settled : Settles oorlichday-verdict.ps oorlichday-verdict.r
    oorlichday-verdict-says.Asked oorlichday-verdict-says.Learnt
oorlichday_verdict_settled = ((λ κs a. tt), (λ κs a x y w v p q. (p ∙ sym q, refl)))

pub oorlichday_verdict_of_records_settled : SettlesClauses oorlichday-verdict-of-records.ended
    (λ m. oorlichday-verdict-of-records.clauses m.𝓛 m.𝓜.mem m.𝓡.run)
oorlichday_verdict_of_records_settled = (
  (λ m κs a. tt),
  (λ m κs a g. id⊢ m.𝓤 (emp m.𝓤)),
  (λ κs a x w. x ≡ coded (verdict_of a.0.now
      (all_numbered (shape_of a.0.now) a.1.0.now))),
  (λ m κs a g x w. id⊢ m.𝓤 _),
  (λ κs a x y w v p q. (p ∙ sym q, refl)),
)
