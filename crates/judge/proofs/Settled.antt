-- Each public function's contract asks nothing and permits one answer, with every lent byte.
use mathlib.Core.Path.{◌≡◌, sym, refl, ◌∙◌}
use mathlib.Core.Logic.{◌↔◌}
use base.Logic.{emp, id⊢}
use Rattle.search.specs.Settling.{Settles, SettlesClauses, Says}
use Rattle.search.specs.Sets.{none}
use Rattle.table.specs.Sound.{Sound}
use Rattle.table.specs.Packed.{shape_of}
use Rattle.judging.specs.Passes.{Passes}
use Rattle.judging.specs.Verdict.{verdict_of}
use Rattle.judge.specs.Records.{all_numbered}
use Rattle.judge.specs.contracts.records.verdict_of_records as verdict-of-records
use Rattle.judge.proofs.Run.new.Kinds as new
use Rattle.judge.proofs.Run.new.Reads as new-says
use Rattle.judge.proofs.Run.take.Kinds as take
use Rattle.judge.proofs.Run.take.Reads as take-says
use Rattle.judge.proofs.verdict.Kinds as verdict
use Rattle.judge.proofs.verdict.Reads as verdict-says

pub new-settled : Settles new.ps new.r new-says.Asked new-says.Learnt
new-settled = ((λ κs a. tt), (λ κs a x y w v p q. (p ∙ sym q, refl)))

pub take-settled : Settles take.ps take.r take-says.Asked take-says.Learnt
take-settled = ((λ κs a. tt), (λ κs a x y w v p q. (p ∙ sym q, refl)))

pub verdict_settled : Settles verdict.ps verdict.r verdict-says.Asked verdict-says.Learnt
verdict_settled = ((λ κs a. tt), (λ κs a x y w v p q. (p.0 ∙ sym q.0, refl)))

-- demand 2's last sentence
pub verdict_demand : Says verdict.ps verdict.r verdict-says.Learnt (λ κs a r w. (
    (r.number ≡ 0) ↔ (Sound a.0.now × Passes (shape_of a.0.now) none a.1.0.now)))
verdict_demand κs a x w p = p.1

pub verdict_of_records_settled : SettlesClauses verdict-of-records.ended
    (λ m. verdict-of-records.clauses m.𝓛 m.𝓜.mem m.𝓡.run)
verdict_of_records_settled = (
  (λ m κs a. tt),
  (λ m κs a g. id⊢ m.𝓤 (emp m.𝓤)),
  (λ κs a x w. x ≡ verdict_of a.0.now (all_numbered (shape_of a.0.now) a.1.0.now)),
  (λ m κs a g x w. id⊢ m.𝓤 _),
  (λ κs a x y w v p q. (p ∙ sym q, refl)),
)
