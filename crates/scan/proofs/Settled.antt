-- Each public function's contract asks nothing and permits one answer, with every lent byte.
use mathlib.Core.Path.{sym, refl, ◌∙◌}
use Rattle.search.specs.Settling.{Settles}
use Rattle.scan.proofs.first_bad.Kinds as first-bad
use Rattle.scan.proofs.first_bad.Reads as first-bad-says
use Rattle.scan.proofs.line_ends.Kinds as line-ends
use Rattle.scan.proofs.line_ends.Reads as line-ends-says

pub first_bad_settled : Settles first-bad.ps first-bad.r first-bad-says.Asked first-bad-says.Learnt
first_bad_settled = ((λ κs a. tt), (λ κs a x y w v p q. (p ∙ sym q, refl)))

pub line-ends-settled : Settles line-ends.ps line-ends.r line-ends-says.Asked line-ends-says.Learnt
line-ends-settled = ((λ κs a. tt), (λ κs a x y w v p q. (p ∙ sym q, refl)))
