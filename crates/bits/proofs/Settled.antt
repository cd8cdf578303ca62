-- Each public function's contract asks nothing and permits one answer, with all that is lent.
use mathlib.Core.Path.{ap, sym, refl, ◌∙◌}
use Rattle.search.specs.Settling.{Settles}
use Rattle.bits.proofs.Sets.{one_set, one_lowest}
use Rattle.bits.proofs.Bits.new.Kinds as bits-new
use Rattle.bits.proofs.Bits.new.Reads as bits-new-says
use Rattle.bits.proofs.Bits.has.Kinds as bits-has
use Rattle.bits.proofs.Bits.has.Reads as bits-has-says
use Rattle.bits.proofs.Bits.put.Kinds as bits-put
use Rattle.bits.proofs.Bits.put.Reads as bits-put-says
use Rattle.bits.proofs.Bits.take_out.Kinds as bits-take_out
use Rattle.bits.proofs.Bits.take_out.Reads as bits-take-out-says
use Rattle.bits.proofs.Bits.lowest.Kinds as bits-lowest
use Rattle.bits.proofs.Bits.lowest.Reads as bits-lowest-says

pub bits-has-settled : Settles bits-has.ps bits-has.r bits-has-says.Asked bits-has-says.Learnt
bits-has-settled = ((λ κs a. tt), (λ κs a x y w v p q. (p ∙ sym q, refl)))

pub bits-new-settled : Settles bits-new.ps bits-new.r bits-new-says.Asked bits-new-says.Learnt
bits-new-settled = ((λ κs a. tt), (λ κs a x y w v p q. (one_set x y (p ∙ sym q), refl)))

pub bits-put-settled : Settles bits-put.ps bits-put.r bits-put-says.Asked bits-put-says.Learnt
bits-put-settled = (
  (λ κs a. tt),
  (λ κs a x y w v p q. (refl, ap (λ l. (l, (tt, tt))) (one_set w.0 v.0 (p ∙ sym q)))),
)

pub bits-take_out-settled : Settles bits-take_out.ps bits-take_out.r bits-take-out-says.Asked
    bits-take-out-says.Learnt
bits-take_out-settled = (
  (λ κs a. tt),
  (λ κs a x y w v p q. (refl, ap (λ l. (l, (tt, tt))) (one_set w.0 v.0 (p ∙ sym q)))),
)

pub bits-lowest-settled : Settles bits-lowest.ps bits-lowest.r bits-lowest-says.Asked
    bits-lowest-says.Learnt
bits-lowest-settled = ((λ κs a. tt), (λ κs a x y w v p q. (one_lowest _ _ x y p q, refl)))
