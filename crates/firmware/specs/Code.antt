-- Number and place in one: SPECIFICATION, For C 1.
use Rattle.std.specs.Prelude.{◌≡◌, ℕ, ◌+◌, ◌*◌, ◌≤◌}
use Rattle.std.proofs.Common.{arith}
use Rattle.table.specs.declared.Answer.{Answer}

unfoldable pub coded : Answer → ℕ
coded a = 256 * a.number + a.place

-- places up to 224 and numbers can be told apart again
pub told-apart : (a b : Answer) → a.place ≤ 224 → b.place ≤ 224 → coded a ≡ coded b
    → (a.number ≡ b.number) × (a.place ≡ b.place)
unfolding coded
told-apart a b p q e = (omega arith, omega arith)
