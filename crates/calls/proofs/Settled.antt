-- Each public function's contract asks nothing and permits one answer, with every lent byte.
use mathlib.Core.Path.{sym, refl, ◌∙◌}
use Rattle.search.specs.Settling.{Settles}
use Rattle.calls.proofs.number.call_in.Kinds as call-in
use Rattle.calls.proofs.number.call_in.Reads as call-in-says
use Rattle.calls.proofs.number.call_of.Kinds as call-of
use Rattle.calls.proofs.number.call_of.Reads as call-of-says
use Rattle.calls.proofs.number.call_at.Kinds as call-at
use Rattle.calls.proofs.number.call_at.Reads as call-at-says
use Rattle.calls.proofs.precedence.precedes.Kinds as precedes
use Rattle.calls.proofs.precedence.precedes.Reads as precedes-says

pub call_in_settled : Settles call-in.ps call-in.r call-in-says.Asked call-in-says.Learnt
call_in_settled = ((λ κs a. tt), (λ κs a x y w v p q. (p ∙ sym q, refl)))

pub call_of_settled : Settles call-of.ps call-of.r call-of-says.Asked call-of-says.Learnt
call_of_settled = ((λ κs a. tt), (λ κs a x y w v p q. (p ∙ sym q, refl)))

pub call_at_settled : Settles call-at.ps call-at.r call-at-says.Asked call-at-says.Learnt
call_at_settled = ((λ κs a. tt), (λ κs a x y w v p q. (p ∙ sym q, refl)))

pub precedes-settled : Settles precedes.ps precedes.r precedes-says.Asked precedes-says.Learnt
precedes-settled = ((λ κs a. tt), (λ κs a x y w v p q. (p ∙ sym q, refl)))
