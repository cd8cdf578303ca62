-- How long what is printed is: a call's line, the text of calls, a refusal.
use Rattle.std.specs.Prelude.{ℕ, ◌+◌, ◌≡◌, List, [], ◌∷◌, length}
use Rattle.std.proofs.Common.{arith, length-append}
use Rattle.pen.specs.Decimal.{decimal}
use Rattle.printing.specs.Printed.{printed}
use Rattle.printing.specs.Entries.{entries, calls_text, refusal_text}

pub entry-long :
    (d w u p : List ℕ) →
    length (printed (d ∷ w ∷ u ∷ p ∷ [])) ≡ length d + length w + length u + length p + 4
unfolding printed
entry-long d w u p = simp length-append (omega arith)

pub calls-long :
    (units outputs inputs : List (List (List ℕ))) (w cs : List ℕ) →
    length (calls_text units outputs inputs w cs)
    ≡ length w + length (decimal (length cs)) + 2 + length (entries units outputs inputs 0 cs)
unfolding calls_text printed
calls-long units outputs inputs w cs = simp length-append (omega arith)

pub refusal-long : (n k : ℕ)
    → length (refusal_text n k) ≡ length (decimal n) + length (decimal k) + 10
unfolding refusal_text printed
refusal-long n k = simp length-append (omega arith)
