-- Each public function's contract permits one answer, with every lent byte, where it is met.
use mathlib.Core.Path.{ap, ap₂, sym, refl, ◌∙◌}
use Prim.Native.Nat.{ℕ}
use Rattle.bits.specs.Bits.{has}
use Rattle.search.specs.Settling.{Settles, SettlesWhere}
use Rattle.placing.specs.declared.Placed.{Placed}
use Rattle.placing.proofs.Threads.{standing_one}
use Rattle.placing.proofs.Queued.{one_queue}
use Rattle.placing.proofs.queue.Queue.new.Kinds as queue-new
use Rattle.placing.proofs.queue.Queue.new.Reads as queue-new-says
use Rattle.placing.proofs.place.place.Kinds as place
use Rattle.placing.proofs.place.place.Reads as place-says
use Rattle.placing.proofs.place.place_all.Kinds as place-all
use Rattle.placing.proofs.place.place_all.Reads as place-all-says
use Rattle.placing.proofs.thread.write_back.Kinds as write-back
use Rattle.placing.proofs.thread.write_back.Reads as write-back-says

pub queue-new-settled : Settles queue-new.ps queue-new.r queue-new-says.Asked queue-new-says.Learnt
queue-new-settled = (
  (λ κs a. tt),
  (λ κs a x y w v p q. (one_queue x y (p.0 ∙ sym q.0) (ap has (p.1 ∙ sym q.1)), refl)),
)

abbrev placed : ℕ → ℕ → Placed
placed n c = record { count = n; last = c }

pub place-settled : Settles place.ps place.r place-says.Asked place-says.Learnt
place-settled = (
  (λ κs a. tt),
  (λ κs a x y w v p q. (
    ap₂ placed (p.0 ∙ sym q.0) (p.1.0 ∙ sym q.1.0),
    ap (λ l. (tt, (l, tt)))
        (one_queue w.1.0 v.1.0 (standing_one _ _ _ p.1.1.0 q.1.1.0) (p.1.1.1 ∙ sym q.1.1.1)),
  )),
)

pub write_back_settled : SettlesWhere write-back.ps write-back.r write-back-says.Asked
    write-back-says.Learnt (λ κs r. r)
write_back_settled κs a h x y w v p q = (refl, ap (λ l. (tt, (tt, (l, tt)))) (p ∙ sym q))

pub place-all-settled : Settles place-all.ps place-all.r place-all-says.Asked place-all-says.Learnt
place-all-settled = (
  (λ κs a. tt),
  (λ κs a x y w v p q. (p.0 ∙ sym q.0, ap (λ l. (tt, (l, tt))) (p.1 ∙ sym q.1))),
)
