-- Each public function's contract asks nothing and permits one answer, with every lent byte.
use mathlib.Core.Path.{ap, sym, refl, ◌∙◌}
use Rattle.search.specs.Settling.{Settles}
use Rattle.pen.proofs.put.Kinds as put
use Rattle.pen.proofs.put.Reads as put-says
use Rattle.pen.proofs.put_byte.Kinds as put_byte
use Rattle.pen.proofs.put_byte.Reads as put-byte-says
use Rattle.pen.proofs.put_number.Kinds as put-number
use Rattle.pen.proofs.put_number.Reads as put-number-says
use Rattle.pen.proofs.digit_count.Kinds as digit-count
use Rattle.pen.proofs.digit_count.Reads as digit-count-says

pub put-settled : Settles put.ps put.r put-says.Asked put-says.Learnt
put-settled = (
  (λ κs a. tt),
  (λ κs a x y w v p q. (
    p.place ∙ sym q.place,
    ap (λ l. (l, (tt, (tt, tt)))) (p.bytes ∙ sym q.bytes),
  )),
)

pub put-byte-settled : Settles put_byte.ps put_byte.r put-byte-says.Asked put-byte-says.Learnt
put-byte-settled = (
  (λ κs a. tt),
  (λ κs a x y w v p q. (
    p.place ∙ sym q.place,
    ap (λ l. (l, (tt, (tt, tt)))) (p.bytes ∙ sym q.bytes),
  )),
)

pub put-number-settled : Settles put-number.ps put-number.r put-number-says.Asked
    put-number-says.Learnt
put-number-settled = (
  (λ κs a. tt),
  (λ κs a x y w v p q. (
    p.place ∙ sym q.place,
    ap (λ l. (l, (tt, (tt, tt)))) (p.bytes ∙ sym q.bytes),
  )),
)

pub digit-count-settled : Settles digit-count.ps digit-count.r digit-count-says.Asked
    digit-count-says.Learnt
digit-count-settled = ((λ κs a. tt), (λ κs a x y w v p q. (p ∙ sym q, refl)))
